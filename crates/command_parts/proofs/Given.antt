-- What a call gives, in the words of the definitions.
use Rattle.std.proofs.Common.{◌≡◌, ℕ, List, [], ◌∷◌, map, refl, sym, ap, subst, ◌∙◌}
use Rattle.std.specs.Prelude.{Result, Ok, Err, OnOk}
use Rattle.std.specs.List.{list_any}
use Rattle.cap_core.specs.declared.profile.ProfileName.{ProfileName}
use Rattle.cap_core.specs.declared.capability.Guard.{Guard}
use Rattle.cap_core.specs.declared.capability.Cap.{Cap}
use Rattle.cap_core.specs.declared.capability.Cap.TheVariants.{CNode}
use Rattle.kernel_forest.specs.Forest.{Forest}
use Rattle.kernel_forest.specs.Entries.{Entry, derivations_of}
use Rattle.slot_core.specs.declared.derivations.Derivation.{Derivation}
use Rattle.slot_core.specs.Calls.{derivation_view}
use Rattle.query_parts.specs.declared.listed.PartMemory.{PartMemory}
use Rattle.command_parts.specs.declared.takes.PartSlot.{PartSlot}
use Rattle.command_parts.specs.Takes.{part_slot, part_slots}
use Rattle.command_parts.specs.Messages.{holds_more, gives_more}

pub given_node : (p : ProfileName) (slots : List PartSlot) (cap : Cap) (base radix : ℕ) (guard : Guard) → cap ≡ CNode base radix guard →
    list_any (λ (s : PartSlot). holds_more p cap s) slots ≡ gives_more p slots cap
given_node p slots cap base radix guard is =
    subst (λ (c : Cap). list_any (λ (s : PartSlot). holds_more p c s) slots ≡ gives_more p slots c) (sym is) refl

mapped_twice : (p : ProfileName) (memory : List PartMemory) (ds : List Derivation) →
    map (λ (d : Derivation). part_slot memory (derivation_view p d)) ds ≡ map (part_slot memory) (map (derivation_view p) ds)
mapped_twice p memory [] = refl
mapped_twice p memory (d ∷ ds) = ap (λ (l : List PartSlot). part_slot memory (derivation_view p d) ∷ l) (mapped_twice p memory ds)

-- the full slots of a kernel, by its derivations
pub told_slots : (p : ProfileName) (memory : List PartMemory) (ds : List Derivation) (f : Forest Entry) → map (derivation_view p) ds ≡ derivations_of f →
    map (λ (d : Derivation). part_slot memory (derivation_view p d)) ds ≡ part_slots memory f
told_slots p memory ds f is = mapped_twice p memory ds ∙ ap (map (part_slot memory)) is

pub on_ok : {A E : Type 0} (P Q : Type 0) → (P → Q) → (r : Result A E) → OnOk r P → OnOk r Q
on_ok P Q f (Ok a) h = f h
on_ok P Q f (Err e) h = h
