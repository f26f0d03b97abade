-- The full slots with their parts.
use Rattle.std.proofs.Common.{◌≡◌, List, [], ◌∷◌, map, refl, ap}
use Rattle.cap_core.specs.declared.profile.ProfileName.{ProfileName}
use Rattle.slot_core.specs.declared.derivations.Derivation.{Derivation}
use Rattle.slot_core.specs.Calls.{derivation_view}
use Rattle.query_parts.specs.declared.listed.PartMemory.{PartMemory}
use Rattle.command_parts.specs.declared.takes.PartSlot.{PartSlot}
use Rattle.command_parts.specs.Takes.{part_slot}

-- what is made of rows is made of what they show
pub mapped_twice : (p : ProfileName) (memory : List PartMemory) (rows : List Derivation) →
    map (λ (d : Derivation). part_slot memory (derivation_view p d)) rows ≡ map (part_slot memory) (map (derivation_view p) rows)
mapped_twice p memory [] = refl
mapped_twice p memory (row ∷ rows) = ap (λ (l : List PartSlot). part_slot memory (derivation_view p row) ∷ l) (mapped_twice p memory rows)
