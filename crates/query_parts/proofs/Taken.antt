-- What is kept where a stretch, or what a capability names, is taken into a part.
use Rattle.std.proofs.Common.{◌≡◌, ℕ, ◌+◌, ◌-◌, ◌^◌, ◌≤◌, ◌⊎◌, inl, inr, Bool, true, false, cond, ◌==◌, ◌&&◌, nat_lt, List, [], ◌∷◌, ◌++◌, map, Option, Some, None, refl, sym, ap, subst, ◌∙◌, arith}
use Rattle.std.specs.Prelude.{nat_le, length, is_some}
use Rattle.std.specs.List.{list_any}
use Rattle.std.specs.Int.Bits.{and_self}
use Rattle.std.proofs.lemmas.Bool.{false≢true, eqb-true, eq-eqb}
use Rattle.std.proofs.lemmas.Bool.Decides.{nat_tests}
use Rattle.std.proofs.lemmas.Nat.{pow_pos}
use Rattle.cap_core.specs.declared.profile.ProfileName.{ProfileName}
use Rattle.cap_core.specs.declared.capability.Badge.{Badge}
use Rattle.cap_core.specs.declared.capability.Cap.{Cap}
use Rattle.cap_core.specs.declared.capability.Cap.TheVariants.{Null, Untyped, Endpoint, CNode, Tcb}
use Rattle.cap_core.specs.declared.rights.Rights.{Rights}
use Rattle.cap_core.specs.declared.object.Range.{Range}
use Rattle.cap_core.specs.Objects.{base_of, bits_of}
use Rattle.cap_core.specs.Ranges.{range_named}
use Rattle.kernel_forest.specs.Entries.{Entry}
use Rattle.kernel_delete.specs.Members.{In}
use Rattle.kernel_delete.proofs.Members.{both_true, either_true, true_left, true_right, any_of, any_in, in_append, in_left, in_right, eqb_self}
use Rattle.query_parts.specs.declared.listed.PartMemory.{PartMemory}
use Rattle.query_parts.specs.declared.listed.PartUse.{PartUse}
use Rattle.query_parts.specs.Parts.{Parts, IsOwned, IsWithin}
use Rattle.query_parts.specs.Listed.{lies_in, part_at, owns, owns_to, owns_range, allows, is_allowed, named_within, is_within}
use Rattle.query_parts.specs.Private.Search.{overlaps, memory_in, use_in, Joins, IsStretchTaken, AreSame, IsTakenTo, IsRangeTaken, IsCapTaken, AreSound, is_inside, EndsInWords, whose, AreBounded}
use Rattle.query_parts.proofs.Lists.{in_mapped, from_mapped, and_true}
use Rattle.query_parts.proofs.Growing.{at_member, part_mapped, found_inside, made_inside, owns_grown, owns_new}

-- what is kept where a part takes in what a capability names
pub record IsKept (p : ProfileName) (cap : Cap) (part : ℕ) (memory : List PartMemory) (uses : List PartUse) (memory' : List PartMemory) (uses' : List PartUse) : Type 0 where
  pub sound : AreSound memory uses → AreSound memory' uses'
  pub grows : (e : Entry) → is_inside p memory uses e ≡ true → is_inside p memory' uses' e ≡ true
  pub bounded : AreSound memory uses → (other : Parts) → IsWithin p other (whose other part) cap → AreBounded p other memory uses → AreBounded p other memory' uses'
  pub stays : (address : ℕ) → part_at memory address ≡ Some part → part_at memory' address ≡ Some part
  pub now : EndsInWords p cap → is_within p memory' uses' part cap ≡ true
  pub into : ℕ → ℕ
  pub same : into part ≡ part
  pub more : List PartMemory
  pub memory_is : memory' ≡ map (memory_in into) memory ++ more
  pub pushed : (length more ≡ 0) ⊎ ((length more ≡ 1) × ((is_within p memory' uses' part cap ≡ true) × (is_allowed uses part cap ≡ false)))

pub with_none : (l : List PartMemory) → l ≡ map (memory_in (λ k. k)) l ++ []
with_none [] = refl
with_none (m ∷ l) = ap (λ (r : List PartMemory). m ∷ r) (with_none l)

-- ---- a stretch

module _ (p : ProfileName) (part first last : ℕ) (low : first ≤ last) (memory : List PartMemory) (uses : List PartUse) (into : ℕ → ℕ)
    (joins : Joins part first last memory into)
    (all : (m : PartMemory) → In m memory → overlaps first last m ≡ true → into m.part ≡ part) where
  abbrev new : PartMemory
  new = record { part = part; first = first; last = last }

  abbrev memory_then : List PartMemory
  memory_then = map (memory_in into) memory ++ new ∷ []

  abbrev uses_then : List PartUse
  uses_then = map (use_in into) uses

  owned_grown : (k f l : ℕ) → f ≤ l → (t : Bool) → owns_to memory k f (cond t (Some l) None) ≡ true → owns_to memory_then (into k) f (cond t (Some l) None) ≡ true
  owned_grown k f l fl true h = owns_grown part first last low memory into all k f l fl h
  owned_grown k f l fl false h = h

  one_grown : (k base : ℕ) (badge : Badge) (rights : Rights) → list_any (allows k base badge rights) uses ≡ true → list_any (allows (into k) base badge rights) uses_then ≡ true
  one_grown k base badge rights h =
      let g = any_of (allows k base badge rights) uses h in
      let mine = both_true (g.0.part == k) _ g.1.1 in
      any_in (allows (into k) base badge rights) uses_then (use_in into g.0) (in_mapped (use_in into) g.0 uses g.1.0)
      (and_true _ _ (eq-eqb _ _ (ap into (eqb-true g.0.part k mine.0))) mine.1)

  allowed_grown : (k : ℕ) (cap : Cap) → is_allowed uses k cap ≡ true → is_allowed uses_then (into k) cap ≡ true
  allowed_grown k Null h = h
  allowed_grown k (Untyped base bits free) h = h
  allowed_grown k (Endpoint base badge rights) h = one_grown k base badge rights h
  allowed_grown k (CNode base radix guard) h = h
  allowed_grown k (Tcb base) h = h

  named_grown : (k : ℕ) (cap : Cap) (o : Option Range) → named_within memory uses k cap o ≡ true → named_within memory_then uses_then (into k) cap o ≡ true
  named_grown k cap None h = refl
  named_grown k cap (Some range) h = elim (either_true (owns_range memory k range) (is_allowed uses k cap) h) [
    | inl own ↦ true_left _ _ (owned_grown k range.first (range.first + (2 ^ range.bits - 1)) (omega arith) _ own)
    | inr allowed ↦ true_right _ _ (allowed_grown k cap allowed)
  ]

  grown : (e : Entry) → is_inside p memory uses e ≡ true → is_inside p memory_then uses_then e ≡ true
  grown e h =
      let g = found_inside p memory uses e.cap (part_at memory e.slot) h in
      made_inside p memory_then uses_then e (into g.0) (part_mapped into memory (new ∷ []) e.slot g.0 g.1.0) (named_grown g.0 e.cap (range_named p e.cap) g.1.1)

  old_or_new : (n : PartMemory) → In n memory_then → ((m : PartMemory) × (In m memory × (n ≡ memory_in into m))) ⊎ (n ≡ new)
  old_or_new n j = elim (in_append n (map (memory_in into) memory) (new ∷ []) j) [
    | inl old ↦ inl (from_mapped (memory_in into) memory n old)
    | inr one ↦ elim one [ inl e ↦ inr e | inr none ↦ absurd none ]
  ]

  shared : (m : PartMemory) (address : ℕ) → lies_in m address ≡ true → lies_in new address ≡ true → overlaps first last m ≡ true
  shared m address a b = grind (arith, nat_tests)

  still_sound : AreSound memory uses → AreSound memory_then uses_then
  still_sound S = record {
    stretches = λ n j. elim (old_or_new n j) [
      | inl w ↦ subst (λ (x : PartMemory). x.first ≤ x.last) (sym w.1.1) (S.stretches w.0 w.1.0)
      | inr e ↦ subst (λ (x : PartMemory). x.first ≤ x.last) (sym e) low
    ];
    apart = λ n k i j address a b. apart n k address (old_or_new n i) (old_or_new k j) a b;
    used = λ u i.
        let w = from_mapped (use_in into) uses u i in
        let m = S.used w.0 w.1.0 in
        (memory_in into m.0, (in_left _ _ _ (in_mapped (memory_in into) m.0 memory m.1.0), ap into m.1.1 ∙ sym (ap (λ (x : PartUse). x.part) w.1.1)));
  }
    where
      Origin : PartMemory → Type 0
      Origin n = ((m : PartMemory) × (In m memory × (n ≡ memory_in into m))) ⊎ (n ≡ new)

      apart : (n k : PartMemory) (address : ℕ) → ((m : PartMemory) × (In m memory × (n ≡ memory_in into m))) ⊎ (n ≡ new) →
          ((m : PartMemory) × (In m memory × (k ≡ memory_in into m))) ⊎ (k ≡ new) → lies_in n address ≡ true → lies_in k address ≡ true → n.part ≡ k.part
      apart n k address (inl v) (inl w) a b =
          let at : (x : PartMemory) → x ≡ memory_in into v.0 → lies_in x address ≡ lies_in v.0 address = λ x e. ap (λ (y : PartMemory). lies_in y address) e in
          let bt : (x : PartMemory) → x ≡ memory_in into w.0 → lies_in x address ≡ lies_in w.0 address = λ x e. ap (λ (y : PartMemory). lies_in y address) e in
          ap (λ (x : PartMemory). x.part) v.1.1
          ∙ ap into (S.apart v.0 w.0 v.1.0 w.1.0 address (sym (at n v.1.1) ∙ a) (sym (bt k w.1.1) ∙ b))
          ∙ sym (ap (λ (x : PartMemory). x.part) w.1.1)
      apart n k address (inl v) (inr e) a b =
          ap (λ (x : PartMemory). x.part) v.1.1
          ∙ all v.0 v.1.0 (shared v.0 address (sym (ap (λ (y : PartMemory). lies_in y address) v.1.1) ∙ a) (sym (ap (λ (y : PartMemory). lies_in y address) e) ∙ b))
          ∙ sym (ap (λ (x : PartMemory). x.part) e)
      apart n k address (inr e) (inl w) a b =
          ap (λ (x : PartMemory). x.part) e
          ∙ sym (all w.0 w.1.0 (shared w.0 address (sym (ap (λ (y : PartMemory). lies_in y address) w.1.1) ∙ b) (sym (ap (λ (y : PartMemory). lies_in y address) e) ∙ a)))
          ∙ sym (ap (λ (x : PartMemory). x.part) w.1.1)
      apart n k address (inr e) (inr f) a b = ap (λ (x : PartMemory). x.part) (e ∙ sym f)

  module _ (S : AreSound memory uses) (other : Parts)
      (lies : (address : ℕ) → first ≤ address → address ≤ last → other.part_of address ≡ Some (whose other part))
      (B : AreBounded p other memory uses) where
    some_same : (a b : ℕ) → Some a ≡ Some b → a ≡ b
    some_same a b e = cc

    -- parts that become one lie in one part
    same_whose : (k : ℕ) → whose other (into k) ≡ whose other k
    same_whose k = elim (joins.reason k) [
      | inl e ↦ ap (whose other) e
      | inr r ↦ ap (whose other) r.0 ∙ met r.1.0 r.1.1.0 r.1.1.1.1 (nat_le first r.1.0.first) refl ∙ ap (whose other) r.1.1.1.0
    ]
      where
        met : (m : PartMemory) → In m memory → overlaps first last m ≡ true → (b : Bool) → nat_le first m.first ≡ b → whose other part ≡ whose other m.part
        met m i over true before =
            let low_m = S.stretches m i in
            some_same _ _ (sym (lies m.first (grind (arith, nat_tests)) (grind (arith, nat_tests))) ∙ B.memory_lies m i m.first (omega arith) low_m)
        met m i over false behind =
            some_same _ _ (sym (lies first (omega arith) low) ∙ B.memory_lies m i first (grind (arith, nat_tests)) (grind (arith, nat_tests)))

    still_bounded : AreBounded p other memory_then uses_then
    still_bounded = record {
      memory_lies = λ n j. memory_lies n (old_or_new n j);
      uses_lie = λ u i. let w = from_mapped (use_in into) uses u i in
          subst (λ (x : PartUse). IsWithin p other (whose other x.part) (Endpoint x.endpoint x.badge x.rights)) (sym w.1.1)
          (subst (λ k. IsWithin p other k (Endpoint w.0.endpoint w.0.badge w.0.rights)) (sym (same_whose w.0.part)) (B.uses_lie w.0 w.1.0));
    }
      where
        memory_lies : (n : PartMemory) → ((m : PartMemory) × (In m memory × (n ≡ memory_in into m))) ⊎ (n ≡ new) → (address : ℕ) → n.first ≤ address → address ≤ n.last →
            other.part_of address ≡ Some (whose other n.part)
        memory_lies n (inl w) address = subst (λ (x : PartMemory). x.first ≤ address → address ≤ x.last → other.part_of address ≡ Some (whose other x.part)) (sym w.1.1)
            (λ a b. B.memory_lies w.0 w.1.0 address a b ∙ ap Some (sym (same_whose w.0.part)))
        memory_lies n (inr e) address = subst (λ (x : PartMemory). x.first ≤ address → address ≤ x.last → other.part_of address ≡ Some (whose other x.part)) (sym e)
            (λ a b. lies address a b)

-- ---- what a capability names

module _ (p : ProfileName) (part : ℕ) (memory : List PartMemory) (uses : List PartUse) where
  same_kept : (cap : Cap) (memory' : List PartMemory) (uses' : List PartUse) → (EndsInWords p cap → is_within p memory uses part cap ≡ true) →
      AreSame memory uses memory' uses' → IsKept p cap part memory uses memory' uses'
  same_kept cap memory' uses' now same =
      subst (λ (m : List PartMemory). IsKept p cap part memory uses m uses') (sym same.0)
      (subst (λ (u : List PartUse). IsKept p cap part memory uses memory u) (sym same.1)
      (record {
        sound = λ S. S;
        grows = λ e h. h;
        bounded = λ S other w B. B;
        stays = λ a at. at;
        now = now;
        into = λ k. k;
        same = refl;
        more = [];
        memory_is = with_none memory;
        pushed = inl refl;
      }))

  stretch_kept : (cap : Cap) (first last : ℕ) (memory' : List PartMemory) (uses' : List PartUse) → first ≤ last → is_allowed uses part cap ≡ false →
      ((other : Parts) (j : ℕ) → IsWithin p other j cap → (address : ℕ) → first ≤ address → address ≤ last → other.part_of address ≡ Some j) →
      ((m : List PartMemory) (u : List PartUse) → owns m part first last ≡ true → is_within p m u part cap ≡ true) →
      IsStretchTaken part first last memory uses memory' uses' → IsKept p cap part memory uses memory' uses'
  stretch_kept cap first last memory' uses' low none lies now T =
      let J = T.joins in
      let is : memory' ≡ map (memory_in J.into) memory ++ record { part = part; first = first; last = last } ∷ [] =
      T.memory_is ∙ ap (λ (l : List PartMemory). l ++ record { part = part; first = first; last = last } ∷ []) J.memory_is in
      subst (λ (m : List PartMemory). IsKept p cap part memory uses m uses') (sym is)
      (subst (λ (u : List PartUse). IsKept p cap part memory uses (map (memory_in J.into) memory ++ record { part = part; first = first; last = last } ∷ []) u) (sym J.uses_are)
      (record {
        sound = still_sound p part first last low memory uses J.into J.joins J.all;
        grows = grown p part first last low memory uses J.into J.joins J.all;
        bounded = λ S other w B. still_bounded p part first last low memory uses J.into J.joins J.all S other (lies other (whose other part) w) B;
        stays = λ a at. part_mapped J.into memory _ a part at ∙ ap Some J.joins.same;
        now = λ ends. now _ _ (owns_new part first last low memory J.into J.all);
        into = J.into;
        same = J.joins.same;
        more = record { part = part; first = first; last = last } ∷ [];
        memory_is = refl;
        pushed = inr (refl, (now _ _ (owns_new part first last low memory J.into J.all), none));
      }))

  -- a capability whose object is taken in as memory
  pub range_kept : (cap : Cap) (memory' : List PartMemory) (uses' : List PartUse) →
      range_named p cap ≡ Some (record { first = base_of cap; bits = bits_of p cap }) → is_allowed uses part cap ≡ false →
      ((other : Parts) (j : ℕ) → IsWithin p other j cap → IsOwned p other j cap) →
      IsRangeTaken part (record { first = base_of cap; bits = bits_of p cap }) memory uses memory' uses' → IsKept p cap part memory uses memory' uses'
  range_kept cap memory' uses' named none own taken = by (nat_lt (bits_of p cap) 64 && nat_lt (base_of cap + (2 ^ bits_of p cap - 1)) (2 ^ 64)) refl taken
    where
      last : ℕ
      last = base_of cap + (2 ^ bits_of p cap - 1)

      by : (t : Bool) → nat_lt (bits_of p cap) 64 && nat_lt (base_of cap + (2 ^ bits_of p cap - 1)) (2 ^ 64) ≡ t →
          IsTakenTo part (base_of cap) (cond t (Some (base_of cap + (2 ^ bits_of p cap - 1))) None) memory uses memory' uses' → IsKept p cap part memory uses memory' uses'
      by true is taken = stretch_kept cap (base_of cap) (base_of cap + (2 ^ bits_of p cap - 1)) memory' uses' (omega arith) none
          (λ other j w address lo hi. own other j w address lo (let one = pow_pos (bits_of p cap) in omega (arith, hi, one)))
          (λ m u owned.
          ap (named_within m u part cap) named
          ∙ true_left _ _ (ap (λ t. owns_to m part (base_of cap) (cond t (Some (base_of cap + (2 ^ bits_of p cap - 1))) None)) is ∙ owned))
          taken
      by false is taken = same_kept cap memory' uses' (λ ends. absurd (false≢true (sym (ap (λ t. is_some (cond t (Some last) None)) is) ∙ ends))) taken

  -- an endpoint is taken in as a use
  endpoint_kept : (base : ℕ) (badge : Badge) (rights : Rights) (address : ℕ) → part_at memory address ≡ Some part →
      IsKept p (Endpoint base badge rights) part memory uses memory (uses ++ record { part = part; endpoint = base; badge = badge; rights = rights } ∷ [])
  endpoint_kept base badge rights address at = record {
    sound = λ S. record { stretches = S.stretches; apart = S.apart; used = λ u i. used S u (in_append u uses _ i) };
    grows = λ e h.
        let g = found_inside p memory uses e.cap (part_at memory e.slot) h in
        made_inside p memory (uses ++ this ∷ []) e g.0 g.1.0 (named g.0 e.cap (range_named p e.cap) g.1.1);
    bounded = λ S other w B. record { memory_lies = B.memory_lies; uses_lie = λ u i. lie other w B u (in_append u uses _ i) };
    stays = λ a is. is;
    now = λ ends. true_right _ _ (any_in (allows part base badge rights) (uses ++ this ∷ []) this (in_right this uses _ (inl refl))
        (and_true _ _ (eqb_self part) (and_true _ _ (eqb_self base) (and_true _ _ (true_left _ _ (eqb_self badge.0)) (eq-eqb _ _ (and_self rights.0))))));
    into = λ k. k;
    same = refl;
    more = [];
    memory_is = with_none memory;
    pushed = inl refl;
  }
    where
      this : PartUse
      this = record { part = part; endpoint = base; badge = badge; rights = rights }

      used : AreSound memory uses → (u : PartUse) → (In u uses) ⊎ (In u (record { part = part; endpoint = base; badge = badge; rights = rights } ∷ [])) → (m : PartMemory) × (In m memory × (m.part ≡ u.part))
      used S u (inl old) = S.used u old
      used S u (inr one) = elim one [
        | inl e ↦ let m = at_member memory address part at in (m.0, (m.1.0, m.1.1.1 ∙ sym (ap (λ (x : PartUse). x.part) e)))
        | inr none ↦ absurd none
      ]

      lie : (other : Parts) → IsWithin p other (whose other part) (Endpoint base badge rights) → AreBounded p other memory uses → (u : PartUse) →
          (In u uses) ⊎ (In u (record { part = part; endpoint = base; badge = badge; rights = rights } ∷ [])) → IsWithin p other (whose other u.part) (Endpoint u.endpoint u.badge u.rights)
      lie other w B u (inl old) = B.uses_lie u old
      lie other w B u (inr one) = elim one [
        | inl e ↦ subst (λ (x : PartUse). IsWithin p other (whose other x.part) (Endpoint x.endpoint x.badge x.rights)) (sym e) w
        | inr none ↦ absurd none
      ]

      allowed : (k : ℕ) (cap : Cap) → is_allowed uses k cap ≡ true → is_allowed (uses ++ record { part = part; endpoint = base; badge = badge; rights = rights } ∷ []) k cap ≡ true
      allowed k Null h = h
      allowed k (Untyped b bits free) h = h
      allowed k (Endpoint b g r) h = let w = any_of (allows k b g r) uses h in any_in (allows k b g r) _ w.0 (in_left w.0 uses _ w.1.0) w.1.1
      allowed k (CNode b radix guard) h = h
      allowed k (Tcb b) h = h

      named : (k : ℕ) (cap : Cap) (o : Option Range) → named_within memory uses k cap o ≡ true →
          named_within memory (uses ++ record { part = part; endpoint = base; badge = badge; rights = rights } ∷ []) k cap o ≡ true
      named k cap None h = refl
      named k cap (Some range) h = elim (either_true (owns_range memory k range) (is_allowed uses k cap) h) [
        | inl own ↦ true_left _ _ own
        | inr one ↦ true_right _ _ (allowed k cap one)
      ]

  pub cap_kept : (cap : Cap) (memory' : List PartMemory) (uses' : List PartUse) (address : ℕ) → part_at memory address ≡ Some part →
      IsCapTaken p part cap memory uses memory' uses' → IsKept p cap part memory uses memory' uses'
  cap_kept Null memory' uses' address at taken = same_kept Null memory' uses' (λ ends. refl) taken
  cap_kept (Untyped base bits free) memory' uses' address at taken = range_kept (Untyped base bits free) memory' uses' refl refl (λ other j w. w) taken
  cap_kept (Endpoint base badge rights) memory' uses' address at taken =
      subst (λ (m : List PartMemory). IsKept p (Endpoint base badge rights) part memory uses m uses') (sym taken.0)
      (subst (λ (u : List PartUse). IsKept p (Endpoint base badge rights) part memory uses memory u) (sym taken.1) (endpoint_kept base badge rights address at))
  cap_kept (CNode base radix guard) memory' uses' address at taken = range_kept (CNode base radix guard) memory' uses' refl refl (λ other j w. w) taken
  cap_kept (Tcb base) memory' uses' address at taken = range_kept (Tcb base) memory' uses' refl refl (λ other j w. w) taken
