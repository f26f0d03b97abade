-- Parts that become one, by one at a time; and counts of what passes a test.
use Rattle.std.proofs.Common.{◌≡◌, ℕ, ◌+◌, ◌≤◌, ◌<◌, ◌⊎◌, inl, inr, Bool, true, false, cond, ◌==◌, ◌&&◌, List, [], ◌∷◌, map, Option, Some, None, refl, sym, ap, subst, ◌∙◌, arith}
use Rattle.std.specs.Prelude.{find, option_map, not}
use Rattle.std.specs.List.{count_by}
use Rattle.std.proofs.lemmas.Bool.{false≢true, eqb-true}
use Rattle.std.proofs.lemmas.List.Sums.{sum_by-cons}
use Rattle.kernel_delete.specs.Members.{In}
use Rattle.kernel_delete.proofs.Members.{both_true, eqb_self}
use Rattle.query_parts.specs.declared.listed.PartMemory.{PartMemory}
use Rattle.query_parts.specs.declared.listed.PartUse.{PartUse}
use Rattle.query_parts.specs.Private.Search.{overlaps, renamed, memory_in, use_in, AreJoining, AreJoined}
use Rattle.query_parts.proofs.Lists.{in_mapped, from_mapped}

-- ---- counts

one_le : (b c : Bool) → (b ≡ true → c ≡ true) → cond b 1 0 ≤ cond c 1 0
one_le true c h = subst (λ d. 1 ≤ cond d 1 0) (sym (h refl)) (omega arith)
one_le false c h = omega arith

pub count_le : {X : Type 0} (p q : X → Bool) → ((x : X) → p x ≡ true → q x ≡ true) → (l : List X) → count_by p l ≤ count_by q l
count_le p q h [] = omega arith
count_le p q h (x ∷ l) = by (count_le p q h l) (one_le (p x) (q x) (h x))
  where
    by : count_by p l ≤ count_by q l → cond (p x) 1 0 ≤ cond (q x) 1 0 → count_by p (x ∷ l) ≤ count_by q (x ∷ l)
    by rest one = rw (sum_by-cons (λ y. cond (p y) 1 0) x l, sum_by-cons (λ y. cond (q y) 1 0) x l) (omega (arith, rest, one))

pub count_less : {X : Type 0} (p q : X → Bool) → ((x : X) → p x ≡ true → q x ≡ true) → (l : List X) (a : X) → In a l → p a ≡ false → q a ≡ true →
    count_by p l < count_by q l
count_less p q h [] a i fails passes = absurd i
count_less p q h (x ∷ l) a (inl same) fails passes =
    first (count_le p q h l) (ap (λ b. cond {A = ℕ} b 1 0) (ap p (sym same) ∙ fails)) (ap (λ b. cond {A = ℕ} b 1 0) (ap q (sym same) ∙ passes))
  where
    first : count_by p l ≤ count_by q l → cond {A = ℕ} (p x) 1 0 ≡ 0 → cond {A = ℕ} (q x) 1 0 ≡ 1 → count_by p (x ∷ l) < count_by q (x ∷ l)
    first rest none one = rw (sum_by-cons (λ y. cond (p y) 1 0) x l, sum_by-cons (λ y. cond (q y) 1 0) x l) (omega (arith, rest, none, one))
count_less p q h (x ∷ l) a (inr more) fails passes = by (count_less p q h l a more fails passes) (one_le (p x) (q x) (h x))
  where
    by : count_by p l < count_by q l → cond (p x) 1 0 ≤ cond (q x) 1 0 → count_by p (x ∷ l) < count_by q (x ∷ l)
    by rest one = rw (sum_by-cons (λ y. cond (p y) 1 0) x l, sum_by-cons (λ y. cond (q y) 1 0) x l) (omega (arith, rest, one))

count_map : {X Y : Type 0} (q : Y → Bool) (f : X → Y) (l : List X) → count_by q (map f l) ≡ count_by (λ x. q (f x)) l
count_map q f [] = refl
count_map q f (x ∷ l) =
    sum_by-cons (λ y. cond (q y) 1 0) (f x) (map f l)
    ∙ ap (λ n. cond (q (f x)) 1 0 + n) (count_map q f l)
    ∙ sym (sum_by-cons (λ y. cond (q (f y)) 1 0) x l)

-- ---- find

pub find_some : {X : Type 0} (p : X → Bool) (l : List X) (a : X) → find p l ≡ Some a → In a l × (p a ≡ true)
find_some p [] a h = cc
find_some p (x ∷ l) a h =
    (elim (p x) as (λ b. p x ≡ b → cond b (Some x) (find p l) ≡ Some a → In a (x ∷ l) × (p a ≡ true)) [
      | true ↦ λ yes e. let same : x ≡ a = cc in (inl (sym same), ap p (sym same) ∙ yes)
      | false ↦ λ no e. let g = find_some p l a e in (inr g.0, g.1)
    ]) refl h

pub find_none : {X : Type 0} (p : X → Bool) (l : List X) → find p l ≡ None → (a : X) → In a l → p a ≡ false
find_none p [] h a i = absurd i
find_none p (x ∷ l) h a i =
    (elim (p x) as (λ b. p x ≡ b → cond b (Some x) (find p l) ≡ None → p a ≡ false) [
      | true ↦ λ yes e. cc
      | false ↦ λ no e. elim i [ inl same ↦ ap p same ∙ no | inr more ↦ find_none p l e a more ]
    ]) refl h

mapped_some : {X Y : Type 0} (f : X → Y) (o : Option X) (y : Y) → option_map f o ≡ Some y → (x : X) × ((o ≡ Some x) × (f x ≡ y))
mapped_some f None y h = cc
mapped_some f (Some x) y h = (x, (refl, cc))

mapped_none : {X Y : Type 0} (f : X → Y) (o : Option X) → option_map f o ≡ None → o ≡ None
mapped_none f None h = refl
mapped_none f (Some x) h = cc

pub map_twice : (f g : ℕ → ℕ) (l : List PartMemory) → map (memory_in f) (map (memory_in g) l) ≡ map (memory_in (λ k. f (g k))) l
map_twice f g [] = refl
map_twice f g (m ∷ l) = ap (λ (r : List PartMemory). memory_in (λ k. f (g k)) m ∷ r) (map_twice f g l)

map_twice_uses : (f g : ℕ → ℕ) (l : List PartUse) → map (use_in f) (map (use_in g) l) ≡ map (use_in (λ k. f (g k))) l
map_twice_uses f g [] = refl
map_twice_uses f g (u ∷ l) = ap (λ (r : List PartUse). use_in (λ k. f (g k)) u ∷ r) (map_twice_uses f g l)

map_same : (l : List PartMemory) → l ≡ map (memory_in (λ k. k)) l
map_same [] = refl
map_same (m ∷ l) = ap (λ (r : List PartMemory). m ∷ r) (map_same l)

map_same_uses : (l : List PartUse) → l ≡ map (use_in (λ k. k)) l
map_same_uses [] = refl
map_same_uses (u ∷ l) = ap (λ (r : List PartUse). u ∷ r) (map_same_uses l)

module _ (part first last : ℕ) where
  abbrev pub is_other : PartMemory → Bool
  is_other m = not (m.part == part) && overlaps first last m

  pub joining_none : (memory : List PartMemory) (uses : List PartUse) → AreJoining part first last memory uses memory uses
  joining_none memory uses = record {
    into = λ k. k;
    joins = record { same = refl; reason = λ k. inl refl };
    memory_is = map_same memory;
    uses_are = map_same_uses uses;
  }

  other_found : (memory : List PartMemory) (other : ℕ) → option_map (λ (m : PartMemory). m.part) (find is_other memory) ≡ Some other →
      (m : PartMemory) × (In m memory × ((m.part ≡ other) × ((m.part == part ≡ false) × (overlaps first last m ≡ true))))
  other_found memory other h =
      let w = mapped_some (λ (m : PartMemory). m.part) (find is_other memory) other h in
      let g = find_some is_other memory w.0 w.1.0 in
      let both = both_true (not (w.0.part == part)) (overlaps first last w.0) g.1 in
      (w.0, (g.0, (w.1.1, (opposite (w.0.part == part) both.0, both.1))))
    where
      opposite : (b : Bool) → not b ≡ true → b ≡ false
      opposite true e = sym e
      opposite false e = refl

  renamed_self : (other : ℕ) → renamed other part part ≡ part
  renamed_self other = by (part == other)
    where
      by : (b : Bool) → cond b part part ≡ part
      by true = refl
      by false = refl

  pub joining_at : (memory : List PartMemory) (uses : List PartUse) (memory' memory'' : List PartMemory) (uses' uses'' : List PartUse) →
      memory'' ≡ memory' → uses'' ≡ uses' → AreJoining part first last memory uses memory' uses' → AreJoining part first last memory uses memory'' uses''
  joining_at memory uses memory' memory'' uses' uses'' e f J =
      record { into = J.into; joins = J.joins; memory_is = e ∙ J.memory_is; uses_are = f ∙ J.uses_are }

  pub joining_more : (memory : List PartMemory) (uses : List PartUse) (memory' : List PartMemory) (uses' : List PartUse) (other : ℕ) →
      option_map (λ (m : PartMemory). m.part) (find is_other memory') ≡ Some other → AreJoining part first last memory uses memory' uses' →
      AreJoining part first last memory uses (map (memory_in (renamed other part)) memory') (map (use_in (renamed other part)) uses')
  joining_more memory uses memory' uses' other found J = record {
    into = λ k. renamed other part (J.into k);
    joins = record { same = ap (renamed other part) J.joins.same ∙ renamed_self other; reason = reason };
    memory_is = ap (map (memory_in (renamed other part))) J.memory_is ∙ map_twice (renamed other part) J.into memory;
    uses_are = ap (map (use_in (renamed other part))) J.uses_are ∙ map_twice_uses (renamed other part) J.into uses;
  }
    where
      Reason : ℕ → ℕ → Type 0
      Reason r k = (r ≡ k) ⊎ ((r ≡ part) × ((m : PartMemory) × (In m memory × ((m.part ≡ k) × (overlaps first last m ≡ true)))))

      -- the stretch that was found, as it was at first
      was : (m : PartMemory) × (In m memory × ((m.part ≡ other) × (overlaps first last m ≡ true)))
      was =
          let g = other_found memory' other found in
          let w = from_mapped (memory_in J.into) memory g.0 (subst (λ (l : List PartMemory). In g.0 l) J.memory_is g.1.0) in
          let is : J.into w.0.part ≡ other = sym (ap (λ (m : PartMemory). m.part) w.1.1) ∙ g.1.1.0 in
          let over : overlaps first last w.0 ≡ true = sym (ap (overlaps first last) w.1.1) ∙ g.1.1.1.1 in
          let apart : other == part ≡ false = ap (λ n. n == part) (sym g.1.1.0) ∙ g.1.1.1.0 in
          (w.0, (w.1.0, (same_before w.0.part (J.joins.reason w.0.part) is apart, over)))
        where
          same_before : (k : ℕ) → (J.into k ≡ k) ⊎ ((J.into k ≡ part) × ((m : PartMemory) × (In m memory × ((m.part ≡ k) × (overlaps first last m ≡ true))))) →
              J.into k ≡ other → other == part ≡ false → k ≡ other
          same_before k (inl e) is apart = sym e ∙ is
          same_before k (inr r) is apart = absurd (false≢true (sym apart ∙ ap (λ n. n == part) (sym is ∙ r.0) ∙ eqb_self part))

      reason : (k : ℕ) → (renamed other part (J.into k) ≡ k) ⊎ ((renamed other part (J.into k) ≡ part) × ((m : PartMemory) × (In m memory × ((m.part ≡ k) × (overlaps first last m ≡ true)))))
      reason k = elim (J.joins.reason k) [
        | inl e ↦ by e (k == other) refl
        | inr r ↦ inr (ap (renamed other part) r.0 ∙ renamed_self other, r.1)
      ]
        where
          by : J.into k ≡ k → (b : Bool) → k == other ≡ b →
              (renamed other part (J.into k) ≡ k) ⊎ ((renamed other part (J.into k) ≡ part) × ((m : PartMemory) × (In m memory × ((m.part ≡ k) × (overlaps first last m ≡ true)))))
          by e true is = inr (ap (renamed other part) e ∙ ap (λ b. cond b part k) is, (was.0, (was.1.0, (was.1.1.0 ∙ sym (eqb-true k other is), was.1.1.1))))
          by e false is = inl (ap (renamed other part) e ∙ ap (λ b. cond b part k) is)

  pub joining_all : (memory : List PartMemory) (uses : List PartUse) (memory' : List PartMemory) (uses' : List PartUse) →
      option_map (λ (m : PartMemory). m.part) (find is_other memory') ≡ None → AreJoining part first last memory uses memory' uses' →
      AreJoined part first last memory uses memory' uses'
  joining_all memory uses memory' uses' found J = record { into = J.into; joins = J.joins; all = all; memory_is = J.memory_is; uses_are = J.uses_are }
    where
      same_part : (b c : Bool) → not b && c ≡ false → c ≡ true → b ≡ true
      same_part true c h over = refl
      same_part false c h over = sym h ∙ over

      all : (m : PartMemory) → In m memory → overlaps first last m ≡ true → J.into m.part ≡ part
      all m i over =
          let j : In (memory_in J.into m) memory' = subst (λ (l : List PartMemory). In (memory_in J.into m) l) (sym J.memory_is) (in_mapped (memory_in J.into) m memory i) in
          let no = find_none is_other memory' (mapped_none (λ (m : PartMemory). m.part) (find is_other memory') found) (memory_in J.into m) j in
          eqb-true (J.into m.part) part (same_part (J.into m.part == part) (overlaps first last m) no over)

  pub fewer_others : (memory : List PartMemory) (other : ℕ) → option_map (λ (m : PartMemory). m.part) (find is_other memory) ≡ Some other →
      count_by (λ (m : PartMemory). not (m.part == part)) (map (memory_in (renamed other part)) memory) < count_by (λ (m : PartMemory). not (m.part == part)) memory
  fewer_others memory other found =
      let g = other_found memory other found in
      let less = count_less (λ (m : PartMemory). not (renamed other part m.part == part)) (λ (m : PartMemory). not (m.part == part)) each memory g.0 g.1.0
      (ap not (ap (λ n. n == part) (ap (renamed other part) g.1.1.0 ∙ ap (λ b. cond b part other) (eqb_self other)) ∙ eqb_self part)) (ap not g.1.1.1.0) in
      subst (λ n. n < count_by (λ (m : PartMemory). not (m.part == part)) memory)
      (sym (count_map (λ (m : PartMemory). not (m.part == part)) (memory_in (renamed other part)) memory)) less
    where
      each : (m : PartMemory) → not (renamed other part m.part == part) ≡ true → not (m.part == part) ≡ true
      each m h = by (m.part == part) refl
        where
          by : (b : Bool) → m.part == part ≡ b → not b ≡ true
          by true is = let same = eqb-true m.part part is in
              sym (ap not (ap (λ n. n == part) (ap (renamed other part) same ∙ renamed_self other) ∙ eqb_self part)) ∙ h
          by false is = refl
