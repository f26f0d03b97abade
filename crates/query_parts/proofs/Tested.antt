-- Where the test answers yes, the parts are closed.
use Rattle.std.proofs.Common.{◌≡◌, ℕ, ◌+◌, ◌-◌, ◌^◌, inl, inr, Bool, true, false, cond, ◌==◌, ◌||◌, List, [], ◌∷◌, map, filter, Option, Some, None, refl, sym, ap, subst, ◌∙◌, arith, bit_and}
use Rattle.std.specs.List.{list_any, list_all}
use Rattle.std.proofs.lemmas.Bool.{false≢true, eqb-true}
use Rattle.std.proofs.lemmas.Nat.{pow_pos}
use Rattle.cap_core.specs.declared.profile.ProfileName.{ProfileName}
use Rattle.cap_core.specs.declared.capability.Badge.{Badge}
use Rattle.cap_core.specs.declared.capability.Cap.{Cap}
use Rattle.cap_core.specs.declared.capability.Cap.TheVariants.{Null, Untyped, Endpoint, CNode, Tcb}
use Rattle.cap_core.specs.declared.rights.Rights.{Rights}
use Rattle.cap_core.specs.Objects.{base_of, bits_of}
use Rattle.cap_core.proofs.Minting.{bit_in_both}
use Rattle.std.specs.Int.{bit_at}
use Rattle.kernel_forest.specs.Entries.{Entry, cap_in}
use Rattle.kernel_delete.proofs.Members.{both_true, either_true, any_of, filter_in}
use Rattle.kernel_delete.proofs.Clearable.{in_contains}
use Rattle.query_parts.specs.declared.listed.PartMemory.{PartMemory}
use Rattle.query_parts.specs.declared.listed.PartUse.{PartUse}
use Rattle.query_parts.specs.Parts.{IsOwned, IsCovered, IsWithin}
use Rattle.query_parts.specs.Listed.{part_at, use_of, parts_listed, spares, owns_range, allows, is_within, stands_in, entry_stands}
use Rattle.query_parts.proofs.Lists.{in_mapped}
use Rattle.query_parts.proofs.Growing.{owned_at, owns_last}

module _ (p : ProfileName) (memory : List PartMemory) (uses : List PartUse) (part : ℕ) where
  pub range_owned : (cap : Cap) → owns_range memory part (record { first = base_of cap; bits = bits_of p cap }) ≡ true →
      IsOwned p (parts_listed memory uses) part cap
  range_owned cap h address low high =
      let owned = owns_last memory part (base_of cap) (base_of cap + (2 ^ bits_of p cap - 1)) _ h in
      let both = both_true (list_all (spares part (base_of cap) (base_of cap + (2 ^ bits_of p cap - 1))) memory) _ owned in
      owned_at part (base_of cap) (base_of cap + (2 ^ bits_of p cap - 1)) address memory low
      (omega (arith, high, pow_pos (bits_of p cap))) both.0 both.1

  covered : (base : ℕ) (badge : Badge) (rights : Rights) → list_any (allows part base badge rights) uses ≡ true →
      IsCovered (parts_listed memory uses) part base badge rights
  covered base badge rights h =
      let g = any_of (allows part base badge rights) uses h in
      let mine = both_true (g.0.part == part) _ g.1.1 in
      let at = both_true (g.0.endpoint == base) _ mine.1 in
      let badged = both_true (g.0.badge.0 == badge.0 || g.0.badge.0 == 0) _ at.1 in
      let same = eqb-true (bit_and rights.0 g.0.rights.0) rights.0 badged.1 in
      let kept = filter_in (λ (x : PartUse). x.part == part) uses g.0 g.1.0 mine.0 in (
        use_of g.0,
        (
          in_contains (map use_of (filter (λ (x : PartUse). x.part == part) uses)) (use_of g.0)
              (in_mapped use_of g.0 (filter (λ (x : PartUse). x.part == part) uses) kept),
          record {
            endpoint_is = eqb-true g.0.endpoint base at.0;
            badge_fits = elim (either_true (g.0.badge.0 == badge.0) (g.0.badge.0 == 0) badged.0) [
              | inl is ↦ inl (eqb-true g.0.badge.0 badge.0 is)
              | inr none ↦ inr (eqb-true g.0.badge.0 0 none)
            ];
            rights_fit = λ right has.
                ((bit_in_both rights.0 g.0.rights.0 right).0 (subst (λ n. bit_at n right ≡ 1) (sym same) has)).1;
          },
        ),
      )

  no_use : (b : Bool) → (b || false) ≡ true → b ≡ true
  no_use true h = refl
  no_use false h = absurd (false≢true h)

  pub tested_within : (cap : Cap) → is_within p memory uses part cap ≡ true → IsWithin p (parts_listed memory uses) part cap
  tested_within Null h = tt
  tested_within (Untyped base bits free) h = range_owned (Untyped base bits free) (no_use _ h)
  tested_within (Endpoint base badge rights) h =
      elim (either_true (owns_range memory part (record { first = base; bits = bits_of p (Endpoint base badge rights) })) _ h) [
        | inl owned ↦ inl (range_owned (Endpoint base badge rights) owned)
        | inr allowed ↦ inr (covered base badge rights allowed)
      ]
  tested_within (CNode base radix guard) h = range_owned (CNode base radix guard) (no_use _ h)
  tested_within (Tcb base) h = range_owned (Tcb base) (no_use _ h)

module _ (p : ProfileName) (memory : List PartMemory) (uses : List PartUse) where
  pub stood : (cap : Cap) (o : Option ℕ) (i : ℕ) → stands_in p memory uses cap o ≡ true → o ≡ Some i →
      IsWithin p (parts_listed memory uses) i cap
  stood cap None i h e = cc
  stood cap (Some part) i h e =
      let same : part ≡ i = cc in
      subst (λ k. IsWithin p (parts_listed memory uses) k cap) same (tested_within p memory uses part cap h)

  pub closed_entries : (es : List Entry) → list_all (entry_stands p memory uses) es ≡ true → (slot i : ℕ) → part_at memory slot ≡ Some i →
      IsWithin p (parts_listed memory uses) i (cap_in slot es)
  closed_entries [] h slot i here = tt
  closed_entries (e ∷ es) h slot i here =
      let both = both_true (entry_stands p memory uses e) _ h in
      (elim (e.slot == slot) as (λ b. (e.slot == slot) ≡ b → IsWithin p (parts_listed memory uses) i (cond b e.cap (cap_in slot es))) [
        | true ↦ λ at. stood e.cap (part_at memory e.slot) i both.0 (ap (part_at memory) (eqb-true e.slot slot at) ∙ here)
        | false ↦ λ other. closed_entries es both.1 slot i here
      ]) refl
