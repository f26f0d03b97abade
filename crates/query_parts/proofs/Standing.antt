-- What stands in parts that are sound, stands in them as they are told; and a control block that lies in a part lies in one still.
use Rattle.std.proofs.Common.{◌≡◌, ℕ, ◌+◌, ◌-◌, ◌^◌, ◌≤◌, inl, inr, Bool, true, false, cond, ◌==◌, ◌&&◌, ◌||◌, nat_lt, List, Option, Some, None, refl, sym, ap, subst, ◌∙◌, arith}
use Rattle.std.specs.Prelude.{nat_le}
use Rattle.std.specs.List.{list_any, list_all}
use Rattle.std.proofs.lemmas.Bool.{false≢true, eqb-true, eq-eqb}
use Rattle.std.proofs.lemmas.Bool.Decides.{nat_tests}
use Rattle.cap_core.specs.declared.profile.ProfileName.{ProfileName}
use Rattle.cap_core.specs.declared.capability.Badge.{Badge}
use Rattle.cap_core.specs.declared.capability.Cap.{Cap}
use Rattle.cap_core.specs.declared.capability.Cap.TheVariants.{Null, Untyped, Endpoint, CNode, Tcb}
use Rattle.cap_core.specs.declared.rights.Rights.{Rights}
use Rattle.cap_core.specs.Numbers.{endpoint_bits}
use Rattle.cap_core.specs.Objects.{base_of, bits_of}
use Rattle.kernel_forest.specs.Entries.{Entry}
use Rattle.kernel_delete.specs.Members.{In}
use Rattle.kernel_delete.proofs.Members.{both_true, either_true, true_left, true_right, any_of, any_in, all_of}
use Rattle.query_parts.specs.declared.listed.PartMemory.{PartMemory}
use Rattle.query_parts.specs.declared.listed.PartUse.{PartUse}
use Rattle.query_parts.specs.Listed.{lies_in, part_at, spares, has_all, owns, owns_to, owns_range, allows, is_within, stands_in, entry_stands}
use Rattle.query_parts.specs.Order.{owns_endpoint, owns_block, has_block}
use Rattle.query_parts.specs.Private.Search.{use_in, AreSound, is_inside, block_of}
use Rattle.query_parts.specs.Private.Arranging.{AreTold}
use Rattle.query_parts.proofs.Lists.{in_mapped, and_true}
use Rattle.query_parts.proofs.Growing.{at_member, part_member, found_inside}
use Rattle.query_parts.proofs.Needed.{allows_more}

-- an address of a stretch
between : (m : PartMemory) (address : ℕ) → lies_in m address ≡ true → (m.first ≤ address) × (address ≤ m.last)
between m address h = (grind (arith, nat_tests), grind (arith, nat_tests))

lies : (m : PartMemory) (address : ℕ) → m.first ≤ address → address ≤ m.last → lies_in m address ≡ true
lies m address low high = grind (arith, nat_tests)

module _ (p : ProfileName) (memory : List PartMemory) (uses : List PartUse) (memory' : List PartMemory) (uses' : List PartUse)
    (S : AreSound memory uses) (R : AreTold p memory uses memory' uses') where
  at_still : (address k : ℕ) → part_at memory address ≡ Some k → part_at memory' address ≡ Some (R.number k)
  at_still address k at =
      let m = at_member memory address k at in
      let w = R.memory_told.memory_to m.0 m.1.0 in
      let low = between m.0 address m.1.1.0 in
      part_member memory' address w.0
      (λ n j here.
      let l = between n address here in
      let o = R.memory_told.memory_from n j address l.0 l.1 in
      o.1.1.1.0 ∙ ap R.number (S.apart o.0 m.0 o.1.0 m.1.0 address o.1.1.1.1 m.1.1.0) ∙ sym w.1.1.0)
      w.1.0 (lies w.0 address (omega (arith, w.1.1.1.0, low.0)) (omega (arith, w.1.1.1.1, low.1)))
      ∙ ap Some (w.1.1.0 ∙ ap R.number m.1.1.1)

  at_back : (address i : ℕ) → part_at memory' address ≡ Some i → (k : ℕ) × ((part_at memory address ≡ Some k) × (R.number k ≡ i))
  at_back address i at =
      let m = at_member memory' address i at in
      let l = between m.0 address m.1.1.0 in
      let o = R.memory_told.memory_from m.0 m.1.0 address l.0 l.1 in (
        o.0.part,
        (
          part_member memory address o.0 (λ n j here. S.apart n o.0 j o.1.0 address here o.1.1.1.1) o.1.0 o.1.1.1.1,
          sym o.1.1.1.0 ∙ m.1.1.1,
        ),
      )

  owned_still : (k first last : ℕ) → first ≤ last → owns memory k first last ≡ true → owns memory' (R.number k) first last ≡ true
  owned_still k first last low h =
      let both = both_true (list_all (spares k first last) memory) _ h in
      let g = any_of (has_all k first last) memory both.1 in
      let mine = both_true (g.0.part == k) _ g.1.1 in
      let w = R.memory_told.memory_to g.0 g.1.0 in
      and_true _ _ (all_of (spares (R.number k) first last) memory' (λ n j. spared g.0 g.1.0 (eqb-true g.0.part k mine.0) mine.1 n j _ refl))
      (any_in (has_all (R.number k) first last) memory' w.0 w.1.0
      (and_true _ _ (eq-eqb w.0.part (R.number k) (w.1.1.0 ∙ ap R.number (eqb-true g.0.part k mine.0))) (wider g.0 w.0 mine.1 w.1.1.1.0 w.1.1.1.1)))
    where
      wider : (m w : PartMemory) → (nat_le m.first first && nat_le last m.last) ≡ true → w.first ≤ m.first → m.last ≤ w.last → (nat_le w.first first && nat_le last w.last) ≡ true
      wider m w has a b = grind (arith, nat_tests)

      spared : (m : PartMemory) → In m memory → m.part ≡ k → (nat_le m.first first && nat_le last m.last) ≡ true → (n : PartMemory) → In n memory' →
          (b : Bool) → nat_lt n.last first || nat_lt last n.first ≡ b → spares (R.number k) first last n ≡ true
      spared m i mine has n j true away = true_right _ _ away
      spared m i mine has n j false met = at (nat_le n.first first) refl
        where
          -- an address of both
          part_is : (address : ℕ) → n.first ≤ address → address ≤ n.last → first ≤ address → address ≤ last → spares (R.number k) first last n ≡ true
          part_is address a b c d =
              let o = R.memory_told.memory_from n j address a b in
              let here : lies_in m address ≡ true = grind (arith, nat_tests, has, c, d) in
              true_left _ _ (eq-eqb n.part (R.number k) (o.1.1.1.0 ∙ ap R.number (S.apart o.0 m o.1.0 i address o.1.1.1.1 here ∙ mine)))

          at : (b : Bool) → nat_le n.first first ≡ b → spares (R.number k) first last n ≡ true
          at true before = part_is first (grind (arith, nat_tests)) (grind (arith, nat_tests, met)) (omega arith) low
          at false behind =
              let o = R.memory_told.long n j in
              part_is n.first (omega arith) o (grind (arith, nat_tests)) (grind (arith, nat_tests, met))

  range_still : (k first last : ℕ) → first ≤ last → (t : Bool) → owns_to memory k first (cond t (Some last) None) ≡ true →
      owns_to memory' (R.number k) first (cond t (Some last) None) ≡ true
  range_still k first last low true h = owned_still k first last low h
  range_still k first last low false h = h

  no_use : (b : Bool) → (b || false) ≡ true → b ≡ true
  no_use true h = refl
  no_use false h = absurd (false≢true h)

  own_still : (k : ℕ) (cap : Cap) → owns_range memory k (record { first = base_of cap; bits = bits_of p cap }) ≡ true →
      owns_range memory' (R.number k) (record { first = base_of cap; bits = bits_of p cap }) ≡ true
  own_still k cap h = range_still k (base_of cap) (base_of cap + (2 ^ bits_of p cap - 1)) (omega arith) _ h

  endpoint_still : (k base : ℕ) (badge : Badge) (rights : Rights) → list_any (allows k base badge rights) uses ≡ true →
      is_within p memory' uses' (R.number k) (Endpoint base badge rights) ≡ true
  endpoint_still k base badge rights h =
      let g = any_of (allows k base badge rights) uses h in
      let mine = both_true (g.0.part == k) _ g.1.1 in
      let there = both_true (g.0.endpoint == base) _ mine.1 in
      let allowed : allows (R.number k) base badge rights (use_in R.number g.0) ≡ true =
      and_true _ _ (eq-eqb (R.number g.0.part) (R.number k) (ap R.number (eqb-true g.0.part k mine.0))) mine.1 in
      elim (R.uses_told.covered (use_in R.number g.0) (in_mapped (use_in R.number) g.0 uses g.1.0)) [
        | inl owned ↦
            true_left _ _ (subst (λ i. owns_endpoint p memory' i base ≡ true) (ap R.number (eqb-true g.0.part k mine.0))
            (subst (λ e. owns_endpoint p memory' (R.number g.0.part) e ≡ true) (eqb-true g.0.endpoint base there.0) owned))
        | inr w ↦ true_right _ _ (any_in (allows (R.number k) base badge rights) uses' w.0 w.1.0 (allows_more (R.number k) base badge rights (use_in R.number g.0) w.0 w.1.1 allowed))
      ]

  within_still : (k : ℕ) (cap : Cap) → is_within p memory uses k cap ≡ true → is_within p memory' uses' (R.number k) cap ≡ true
  within_still k Null h = refl
  within_still k (Untyped base bits free) h = true_left _ _ (own_still k (Untyped base bits free) (no_use _ h))
  within_still k (Endpoint base badge rights) h =
      elim (either_true (owns_range memory k (record { first = base; bits = endpoint_bits p })) _ h) [
        | inl owned ↦ true_left _ _ (own_still k (Endpoint base badge rights) owned)
        | inr allowed ↦ endpoint_still k base badge rights allowed
      ]
  within_still k (CNode base radix guard) h = true_left _ _ (own_still k (CNode base radix guard) (no_use _ h))
  within_still k (Tcb base) h = true_left _ _ (own_still k (Tcb base) (no_use _ h))

  pub stands_still : (e : Entry) → entry_stands p memory uses e ≡ true → entry_stands p memory' uses' e ≡ true
  stands_still e h = by (part_at memory' e.slot) refl
    where
      by : (o : Option ℕ) → part_at memory' e.slot ≡ o → stands_in p memory' uses' e.cap o ≡ true
      by None at = refl
      by (Some i) at =
          let w = at_back e.slot i at in
          subst (λ k. is_within p memory' uses' k e.cap ≡ true) w.1.1
          (within_still w.0 e.cap (sym (ap (stands_in p memory uses e.cap) w.1.0) ∙ h))

  pub block_still : (t : ℕ) → is_inside p memory uses (block_of t) ≡ true → has_block p memory' t ≡ true
  block_still t h =
      let g = found_inside p memory uses (Tcb t) (part_at memory t) h in
      ap (owns_block p memory' t) (at_still t g.0 g.1.0) ∙ no_use _ (within_still g.0 (Tcb t) g.1.1)
