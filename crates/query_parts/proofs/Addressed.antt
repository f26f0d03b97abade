-- The control blocks of live threads have words for addresses.
use Rattle.std.proofs.Common.{◌≡◌, ℕ, ◌+◌, ◌-◌, ◌^◌, ◌≤◌, inl, inr, true, cond, nat_lt, List, [], ◌∷◌, Some, None, refl, ap, arith}
use Rattle.std.specs.Prelude.{is_some}
use Rattle.std.specs.List.{list_all, filter_map}
use Rattle.std.proofs.lemmas.Bool.Decides.{nat_tests}
use Rattle.std.proofs.lemmas.List.Elements.{All-contains}
use Rattle.cap_core.specs.declared.profile.ProfileName.{ProfileName}
use Rattle.cap_core.specs.declared.profile.ProfileName.TheVariants.{Wide, Narrow}
use Rattle.cap_core.specs.declared.capability.Cap.{Cap}
use Rattle.cap_core.specs.declared.capability.Cap.TheVariants.{Null, Untyped, Endpoint, CNode, Tcb}
use Rattle.cap_core.specs.Numbers.{word_bits, tcb_bits}
use Rattle.cap_core.specs.Objects.{IsLawful}
use Rattle.kernel_forest.specs.Entries.{caps}
use Rattle.kernel_delete.specs.Members.{In}
use Rattle.kernel_delete.proofs.Clearable.{in_contains}
use Rattle.kernel_abstract.specs.Shown.{Shown, tcb_base}
use Rattle.query_parts.specs.Order.{is_addressed}
use Rattle.query_parts.specs.Laws.{LiveThreadsAreAddressed}
use Rattle.query_parts.proofs.Lists.{and_true}

in_words : (p : ProfileName) (t : ℕ) → t + 2 ^ tcb_bits p ≤ 2 ^ word_bits p → is_addressed p t ≡ true
in_words Wide t h = let low : nat_lt (t + (2 ^ 11 - 1)) (2 ^ 64) ≡ true = grind (arith, nat_tests) in ap (λ b. is_some (cond b (Some (t + (2 ^ 11 - 1))) None)) low
in_words Narrow t h = let low : nat_lt (t + (2 ^ 10 - 1)) (2 ^ 64) ≡ true = grind (arith, nat_tests) in ap (λ b. is_some (cond b (Some (t + (2 ^ 10 - 1))) None)) low

all_addressed : (p : ProfileName) (memory : ℕ) (cs : List Cap) → ((c : Cap) → In c cs → IsLawful p memory c) → list_all (is_addressed p) (filter_map tcb_base cs) ≡ true
all_addressed p memory [] lawful = refl
all_addressed p memory (Null ∷ cs) lawful = all_addressed p memory cs (λ c i. lawful c (inr i))
all_addressed p memory (Untyped base bits free ∷ cs) lawful = all_addressed p memory cs (λ c i. lawful c (inr i))
all_addressed p memory (Endpoint base badge rights ∷ cs) lawful = all_addressed p memory cs (λ c i. lawful c (inr i))
all_addressed p memory (CNode base radix guard ∷ cs) lawful = all_addressed p memory cs (λ c i. lawful c (inr i))
all_addressed p memory (Tcb t ∷ cs) lawful =
    and_true _ _ (in_words p t (lawful (Tcb t) (inl refl)).placed.addressed) (all_addressed p memory cs (λ c i. lawful c (inr i)))

pub live_addressed : (p : ProfileName) (memory : ℕ) (v : Shown) → LiveThreadsAreAddressed p memory v
live_addressed p memory v within =
    all_addressed p memory (caps v.derivations) (λ c i.
    All-contains (IsLawful p memory) (caps v.derivations) c within.lawful (in_contains (caps v.derivations) c i))
