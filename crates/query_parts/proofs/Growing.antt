-- What the search for the least parts keeps, with each thing that it takes in.
use Rattle.std.proofs.Common.{◌≡◌, ℕ, ◌≤◌, ◌⊎◌, inl, inr, Bool, true, false, cond, ◌==◌, ◌||◌, ◌&&◌, nat_lt, List, [], ◌∷◌, ◌++◌, map, Option, Some, None, refl, sym, ap, subst, ◌∙◌, arith}
use Rattle.std.specs.Prelude.{find, option_map, nat_le}
use Rattle.std.specs.List.{list_any, list_all}
use Rattle.std.proofs.lemmas.Bool.{false≢true, eqb-true, eq-eqb}
use Rattle.std.proofs.lemmas.Bool.Decides.{nat_tests}
use Rattle.cap_core.specs.declared.profile.ProfileName.{ProfileName}
use Rattle.cap_core.specs.declared.capability.Cap.{Cap}
use Rattle.kernel_forest.specs.Entries.{Entry}
use Rattle.kernel_delete.specs.Members.{In}
use Rattle.kernel_delete.proofs.Members.{both_true, either_true, true_left, true_right, any_of, any_in, all_in, all_of, in_append, in_left, in_right, eqb_self}
use Rattle.query_parts.specs.declared.listed.PartMemory.{PartMemory}
use Rattle.query_parts.specs.declared.listed.PartUse.{PartUse}
use Rattle.query_parts.specs.Listed.{lies_in, part_at, spares, has_all, owns, owns_to, is_within}
use Rattle.query_parts.specs.Private.Search.{overlaps, memory_in, inside_in, is_inside}
use Rattle.query_parts.proofs.Lists.{in_mapped, from_mapped, and_true}

-- ---- where an address lies

pub at_member : (memory : List PartMemory) (address k : ℕ) → part_at memory address ≡ Some k →
    (m : PartMemory) × (In m memory × ((lies_in m address ≡ true) × (m.part ≡ k)))
at_member [] address k h = cc
at_member (m ∷ ms) address k h =
    (elim (lies_in m address) as (λ b. lies_in m address ≡ b → option_map (λ (x : PartMemory). x.part) (cond b (Some m) (find (λ (x : PartMemory). lies_in x address) ms)) ≡ Some k →
    (x : PartMemory) × (In x (m ∷ ms) × ((lies_in x address ≡ true) × (x.part ≡ k)))) [
      | true ↦ λ here e. (m, (inl refl, (here, same e)))
      | false ↦ λ other e. let g = at_member ms address k e in (g.0, (inr g.1.0, g.1.1))
    ]) refl h
  where
    same : Some m.part ≡ Some k → m.part ≡ k
    same e = cc

pub part_member : (memory : List PartMemory) (address : ℕ) (m : PartMemory) →
    ((n : PartMemory) → In n memory → lies_in n address ≡ true → n.part ≡ m.part) →
    In m memory → lies_in m address ≡ true → part_at memory address ≡ Some m.part
part_member [] address m apart i here = absurd i
part_member (x ∷ xs) address m apart i here =
    (elim (lies_in x address) as (λ b. lies_in x address ≡ b → option_map (λ (y : PartMemory). y.part) (cond b (Some x) (find (λ (y : PartMemory). lies_in y address) xs)) ≡ Some m.part) [
      | true ↦ λ at. ap Some (apart x (inl refl) at)
      | false ↦ λ other. part_member xs address m (λ n j. apart n (inr j)) (rest other i) here
    ]) refl
  where
    rest : lies_in x address ≡ false → In m (x ∷ xs) → In m xs
    rest other (inl same) = absurd (let z : false ≡ true = sym other ∙ ap (λ (y : PartMemory). lies_in y address) (sym same) ∙ here in false≢true z)
    rest other (inr more) = more

-- the first stretch that has an address is of the part, where each spares these addresses or is of it, and one has them
pub owned_at : (part first last address : ℕ) (memory : List PartMemory) → first ≤ address → address ≤ last →
    list_all (spares part first last) memory ≡ true → list_any (has_all part first last) memory ≡ true →
    part_at memory address ≡ Some part
owned_at part first last address [] low high all any = absurd (false≢true any)
owned_at part first last address (m ∷ ms) low high all any =
    let both = both_true (spares part first last m) (list_all (spares part first last) ms) all in
    (elim (lies_in m address) as (λ b. lies_in m address ≡ b → option_map (λ (x : PartMemory). x.part) (cond b (Some m) (find (λ (x : PartMemory). lies_in x address) ms)) ≡ Some part) [
      | true ↦ λ here. ap Some (here_is here (either_true (m.part == part) _ both.0))
      | false ↦ λ other. owned_at part first last address ms low high both.1 (rest other (either_true (has_all part first last m) _ any))
    ]) refl
  where
    here_is : lies_in m address ≡ true → (m.part == part ≡ true) ⊎ ((nat_lt m.last first || nat_lt last m.first) ≡ true) → m.part ≡ part
    here_is here (inl same) = eqb-true m.part part same
    here_is here (inr apart) = absurd (grind (arith, nat_tests, here, apart, low, high))

    rest : lies_in m address ≡ false → (has_all part first last m ≡ true) ⊎ (list_any (has_all part first last) ms ≡ true) →
        list_any (has_all part first last) ms ≡ true
    rest other (inl here) = absurd (grind (arith, nat_tests, other, here, low, high))
    rest other (inr more) = more

pub owns_last : (memory : List PartMemory) (part first last : ℕ) (t : Bool) → owns_to memory part first (cond t (Some last) None) ≡ true →
    owns memory part first last ≡ true
owns_last memory part first last true h = h
owns_last memory part first last false h = absurd (false≢true h)

pub part_mapped : (into : ℕ → ℕ) (memory more : List PartMemory) (address k : ℕ) → part_at memory address ≡ Some k →
    part_at (map (memory_in into) memory ++ more) address ≡ Some (into k)
part_mapped into [] more address k h = cc
part_mapped into (m ∷ ms) more address k h =
    (elim (lies_in m address) as (λ b. option_map (λ (x : PartMemory). x.part) (cond b (Some m) (find (λ (x : PartMemory). lies_in x address) ms)) ≡ Some k →
    option_map (λ (x : PartMemory). x.part) (cond b (Some (memory_in into m)) (find (λ (x : PartMemory). lies_in x address) (map (memory_in into) ms ++ more))) ≡ Some (into k)) [
      | true ↦ λ e. ap (option_map into) e
      | false ↦ λ e. part_mapped into ms more address k e
    ]) h

-- ---- what a slot inside of a part is

pub found_inside : (p : ProfileName) (memory : List PartMemory) (uses : List PartUse) (cap : Cap) (o : Option ℕ) → inside_in p memory uses cap o ≡ true →
    (k : ℕ) × ((o ≡ Some k) × (is_within p memory uses k cap ≡ true))
found_inside p memory uses cap None h = absurd (false≢true h)
found_inside p memory uses cap (Some k) h = (k, (refl, h))

pub made_inside : (p : ProfileName) (memory : List PartMemory) (uses : List PartUse) (e : Entry) (k : ℕ) → part_at memory e.slot ≡ Some k →
    is_within p memory uses k e.cap ≡ true → is_inside p memory uses e ≡ true
made_inside p memory uses e k at within = ap (inside_in p memory uses e.cap) at ∙ within

-- ---- parts become one, and a stretch is taken in

module _ (part first last : ℕ) (low : first ≤ last) (memory : List PartMemory) (into : ℕ → ℕ)
    (all : (m : PartMemory) → In m memory → overlaps first last m ≡ true → into m.part ≡ part) where
  abbrev pub with_new : List PartMemory
  with_new = map (memory_in into) memory ++ record { part = part; first = first; last = last } ∷ []

  apart_from : (m : PartMemory) → overlaps first last m ≡ false → nat_lt m.last first || nat_lt last m.first ≡ true
  apart_from m h = grind (arith, nat_tests)

  pub owns_grown : (k f l : ℕ) → f ≤ l → owns memory k f l ≡ true → owns with_new (into k) f l ≡ true
  owns_grown k f l fl h =
      let both = both_true (list_all (spares k f l) memory) _ h in
      let g = any_of (has_all k f l) memory both.1 in
      let mine = both_true (g.0.part == k) _ g.1.1 in
      let part_is : g.0.part ≡ k = eqb-true g.0.part k mine.0 in
      and_true _ _ (all_of (spares (into k) f l) with_new (every both.0 g.0 g.1.0 part_is mine.1))
      (any_in (has_all (into k) f l) with_new (memory_in into g.0) (in_left _ _ _ (in_mapped (memory_in into) g.0 memory g.1.0))
      (and_true _ _ (eq-eqb _ _ (ap into part_is)) mine.1))
    where
      spared : (m : PartMemory) → spares k f l m ≡ true → spares (into k) f l (memory_in into m) ≡ true
      spared m s = elim (either_true (m.part == k) _ s) [
        | inl same ↦ true_left _ _ (eq-eqb _ _ (ap into (eqb-true m.part k same)))
        | inr away ↦ true_right _ _ away
      ]

      new_spared : (m : PartMemory) → In m memory → m.part ≡ k → (nat_le m.first f && nat_le l m.last) ≡ true → (b : Bool) → overlaps first last m ≡ b →
          spares (into k) f l (record { part = part; first = first; last = last }) ≡ true
      new_spared m i same has true over = true_left _ _ (eq-eqb _ _ (sym (all m i over) ∙ ap into same))
      new_spared m i same has false away = let z = apart_from m away in true_right _ _ (far m has z)
        where
          far : (m : PartMemory) → (nat_le m.first f && nat_le l m.last) ≡ true → nat_lt m.last first || nat_lt last m.first ≡ true →
              nat_lt last f || nat_lt l first ≡ true
          far m has z = grind (arith, nat_tests)

      every : list_all (spares k f l) memory ≡ true → (m : PartMemory) → In m memory → m.part ≡ k → (nat_le m.first f && nat_le l m.last) ≡ true →
          (n : PartMemory) → In n with_new → spares (into k) f l n ≡ true
      every spare m i same has n j = elim (in_append n (map (memory_in into) memory) _ j) [
        | inl old ↦ let w = from_mapped (memory_in into) memory n old in
            subst (λ (x : PartMemory). spares (into k) f l x ≡ true) (sym w.1.1) (spared w.0 (all_in (spares k f l) memory w.0 spare w.1.0))
        | inr one ↦ elim one [
          | inl e ↦ subst (λ (x : PartMemory). spares (into k) f l x ≡ true) (sym e) (new_spared m i same has _ refl)
          | inr none ↦ absurd none
        ]
      ]

  pub owns_new : owns with_new part first last ≡ true
  owns_new =
      and_true _ _ (all_of (spares part first last) with_new every)
      (any_in (has_all part first last) with_new new (in_right _ (map (memory_in into) memory) _ (inl refl)) (and_true _ _ (eqb_self part) (and_true _ _ (le_self first) (le_self last))))
    where
      new : PartMemory
      new = record { part = part; first = first; last = last }

      le_self : (n : ℕ) → nat_le n n ≡ true
      le_self n = grind (arith, nat_tests)

      spared : (m : PartMemory) → In m memory → (b : Bool) → overlaps first last m ≡ b → spares part first last (memory_in into m) ≡ true
      spared m i true over = true_left _ _ (eq-eqb _ _ (all m i over))
      spared m i false away = true_right _ _ (apart_from m away)

      every : (n : PartMemory) → In n with_new → spares part first last n ≡ true
      every n j = elim (in_append n (map (memory_in into) memory) _ j) [
        | inl old ↦ let w = from_mapped (memory_in into) memory n old in
            subst (λ (x : PartMemory). spares part first last x ≡ true) (sym w.1.1) (spared w.0 w.1.0 _ refl)
        | inr one ↦ elim one [
          | inl e ↦ subst (λ (x : PartMemory). spares part first last x ≡ true) (sym e) (true_left _ _ (eqb_self part))
          | inr none ↦ absurd none
        ]
      ]
