-- What a call may make of a capability names the same object.
use Rattle.std.proofs.Common.{◌≡◌, ℕ, ◌+◌, ◌⊎◌, inl, inr, Bool, true, false, cond, ◌==◌, nat_le, Some, Ok, refl, sym, ap, subst, bit_and, ◌∙◌}
use Rattle.std.proofs.lemmas.Bool.{eqb-true}
use Rattle.cap_core.specs.declared.profile.ProfileName.{ProfileName}
use Rattle.cap_core.specs.declared.capability.Badge.{Badge}
use Rattle.cap_core.specs.declared.capability.Cap.{Cap}
use Rattle.cap_core.specs.declared.capability.Cap.TheVariants.{Null, Untyped, Endpoint, CNode, Tcb}
use Rattle.cap_core.specs.declared.rights.Rights.{Rights}
use Rattle.cap_core.specs.Numbers.{word_bits}
use Rattle.cap_core.specs.Minting.{masked, guard_held, with_data}
use Rattle.std.specs.Int.Bits.{and_self}
use Rattle.std.proofs.lemmas.Nat.{and_assoc, and_comm}
use Rattle.kernel_forest.specs.Forest.{Forest}
use Rattle.kernel_forest.specs.Entries.{Entry}
use Rattle.cspace_core.specs.Resolution.{is_cnode}
use Rattle.kernel_abstract.specs.declared.invocation.Change.TheVariants.{Copy, Mint, Move, Mutate}
use Rattle.kernel_abstract.specs.declared.invocation.Change.{Change}
use Rattle.kernel_abstract.specs.declared.reason.Word.TheVariants.{Root, SourceIndex}
use Rattle.kernel_abstract.specs.CNodes.{no_data, ensure_set, ensure_derivable, changed_cap}
use Rattle.kernel_abstract.specs.Threads.{space_cap}
use Rattle.kernel_abstract.proofs.Checks.FoundSlots.{passed, cond_passed, ok_same}
use Rattle.kernel_abstract.proofs.Checks.PassedCNodeChecks.{where_some, set_passed, derivable_passed}
use Rattle.query_flow.specs.Flow.{MayBeMadeOf}

-- no more of those that are no more than these
pub few_fit : (a b c : ℕ) → bit_and a b ≡ a → bit_and b c ≡ b → bit_and a c ≡ a
few_fit a b c h k = ap (λ n. bit_and n c) (sym h) ∙ and_assoc c a b ∙ ap (bit_and a) k ∙ h

few_of_few : (a b : ℕ) → bit_and (bit_and a b) a ≡ bit_and a b
few_of_few a b = and_comm (bit_and a b) a ∙ sym (and_assoc b a a) ∙ ap (λ n. bit_and n b) (and_self a)

pub made_itself : (cap : Cap) → MayBeMadeOf cap cap
made_itself Null = refl
made_itself (Untyped base bits free) = refl
made_itself (Endpoint base badge rights) = (badge, (rights, (refl, (inl refl, and_self rights.0))))
made_itself (CNode base radix guard) = (guard, refl)
made_itself (Tcb base) = refl

-- less rights
pub made_masked : (rights : Rights) (cap : Cap) → MayBeMadeOf cap (masked rights cap)
made_masked rights Null = refl
made_masked rights (Untyped base bits free) = refl
made_masked rights (Endpoint base badge had) =
    (badge, (record { 0 = _ }, (refl, (inl refl, few_of_few had.0 rights.0))))
made_masked rights (CNode base radix guard) = (guard, refl)
made_masked rights (Tcb base) = refl

some_same : (a b : Cap) → Some a ≡ Some b → a ≡ b
some_same a b h = cc

-- data that is set
made_data : (p : ProfileName) (preserve : Bool) (word : ℕ) (cap made : Cap) → with_data p preserve word cap ≡ Some made → MayBeMadeOf cap made
made_data p preserve word Null made h = sym (some_same Null made h)
made_data p preserve word (Untyped base bits free) made h = sym (some_same (Untyped base bits free) made h)
made_data p true word (Endpoint base badge rights) made h = cc
made_data p false word (Endpoint base badge rights) made h =
    let set = where_some (badge.0 == 0) _ made h in
    (record { 0 = _ }, (rights, (sym set.1, (inr (eqb-true badge.0 0 set.0), and_self rights.0))))
made_data p preserve word (CNode base radix guard) made h =
    let set = where_some (nat_le ((guard_held p word).size + radix) (word_bits p)) (CNode base radix (guard_held p word)) made h in
    (guard_held p word, sym set.1)
made_data p preserve word (Tcb base) made h = sym (some_same (Tcb base) made h)

-- first one, and then another
made_then : (cap middle made : Cap) → MayBeMadeOf cap middle → MayBeMadeOf middle made → MayBeMadeOf cap made
made_then Null middle made a b = subst (λ m. MayBeMadeOf m made) a b
made_then (Untyped base bits free) middle made a b = subst (λ m. MayBeMadeOf m made) a b
made_then (Endpoint base badge rights) middle made (other, (few, (is, (fits, among)))) b =
    let (last, (least, (is', (fits', among')))) : MayBeMadeOf (Endpoint base other few) made = subst (λ m. MayBeMadeOf m made) is b in
    (last, (least, (is', (badges fits fits', few_fit least.0 few.0 rights.0 among' among))))
  where
    badges : {last : Badge} → ((badge.0 ≡ other.0) ⊎ (badge.0 ≡ 0)) → ((other.0 ≡ last.0) ⊎ (other.0 ≡ 0)) → (badge.0 ≡ last.0) ⊎ (badge.0 ≡ 0)
    badges (inr none) q = inr none
    badges (inl same) (inl same') = inl (same ∙ same')
    badges (inl same) (inr none) = inr (same ∙ none)
made_then (CNode base radix guard) middle made (other, is) b = subst (λ m. MayBeMadeOf m made) is b
made_then (Tcb base) middle made a b = subst (λ m. MayBeMadeOf m made) a b

made_derivable : (f : Forest Entry) (source : ℕ) (cap middle made : Cap) → MayBeMadeOf cap middle → ensure_derivable f source middle ≡ Ok made →
    MayBeMadeOf cap made
made_derivable f source cap middle made is h = subst (MayBeMadeOf cap) (derivable_passed f source middle made h).0 is

-- what a copy, a mint, a move and a mutate make
pub made_changed : (p : ProfileName) (f : Forest Entry) (source : ℕ) (change : Change) (cap made : Cap) →
    changed_cap p f source change cap ≡ Ok made → MayBeMadeOf cap made
made_changed p f source (Copy rights) cap made h = made_derivable f source cap (masked rights cap) made (made_masked rights cap) h
made_changed p f source (Mint rights word) cap made h =
    let set = passed (ensure_set (no_data p SourceIndex word source cap) (with_data p false word (masked rights cap))) (ensure_derivable f source) made h in
    made_derivable f source cap set.0 made
    (made_then cap (masked rights cap) set.0 (made_masked rights cap) (made_data p false word (masked rights cap) set.0 (set_passed _ _ set.0 set.1.0))) set.1.1
made_changed p f source Move cap made h = subst (MayBeMadeOf cap) (ok_same cap made h) (made_itself cap)
made_changed p f source (Mutate word) cap made h = made_data p true word cap made (set_passed _ _ made h)

-- the root of a capability space: a CNode's capability
pub made_space : (p : ProfileName) (word source : ℕ) (cap made : Cap) → space_cap p word source cap ≡ Ok made →
    (is_cnode cap ≡ true) × MayBeMadeOf cap made
made_space p word source cap made h =
    let node = cond_passed (is_cnode cap) _ _ made h in
    (node.0, by (word == 0) node.1)
  where
    by : (none : Bool) → cond none (Ok cap) (ensure_set (no_data p Root word source cap) (with_data p false word cap)) ≡ Ok made → MayBeMadeOf cap made
    by true e = subst (MayBeMadeOf cap) (ok_same cap made e) (made_itself cap)
    by false e = made_data p false word cap made (set_passed _ _ made e)
