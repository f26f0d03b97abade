-- Full slots by their addresses.
use Rattle.std.proofs.Common.{◌≡◌, ℕ, zero, suc, ◌^◌, ◌<◌, ◌≤◌, ◌==◌, cond, false, true, nat_lt, List, [], ◌∷◌, ◌++◌, All, map, length, slice_get, get_or, Option, None, Some, option_map, refl, sym, ap, subst, ◌∙◌, eq-eqb, arith}
use Rattle.std.specs.List.{AllByRecursion as Each, IsDistinct, cons_option, filter_map, find}
use Rattle.std.specs.List.Sorted.{IsNonDecreasing, IsNonDecreasingBy, IsPermutation}
use Rattle.std.proofs.Math.Nat.{pow-le-pow_right}
use Rattle.std.proofs.lemmas.Bool.{lt-ltb}
use Rattle.std.proofs.lemmas.Bool.Decides.{nat_tests}
use Rattle.std.proofs.lemmas.List.{length-map, map-append}
use Rattle.std.proofs.lemmas.List.Sorted.{All-permutation, IsPermutation-map, list_any-IsPermutation}
use Rattle.std.proofs.lemmas.Map.Keys.{IsDistinct-IsPermutation, IsStrictlyIncreasing-from_distinct, sorted_from_strictly_increasing}
use Rattle.cap_core.specs.declared.profile.ProfileName.{ProfileName}
use Rattle.kernel_forest.specs.Forest.{Forest, preorder, parented}
use Rattle.kernel_forest.specs.Forest.Forest.{none, tree}
use Rattle.kernel_forest.specs.Entries.{Entry, slots, slot_of as entry_slot, derivations_of}
use Rattle.slot_core.specs.declared.derivations.Derivation.{Derivation}
use Rattle.slot_core.specs.Calls.{derivation_view}
use Rattle.setup_report.specs.State.{Derived, slot_of, found, by_address, rising}
use Rattle.setup_report.specs.Private.Rows.{slot_address}
use Rattle.setup_report.proofs.Addresses.Rising.{any_rising, same_rising, sorted_rising}

-- ---- numbers

pub word_below : (word bits : ℕ) → word < 2 ^ 64 → 64 ≤ bits → nat_lt word (2 ^ bits) ≡ true
word_below word bits fits large =
    let bound : 2 ^ 64 ≤ 2 ^ bits = pow-le-pow_right {n = 2} (omega arith) {i = 64} {j = bits} large in
    lt-ltb word (2 ^ bits) (omega arith)

-- ---- lists that are sorted by a number

at_map : {X : Type 0} (f : X → ℕ) (zs : List X) (i d : ℕ) (e : X) → i < length zs → get_or (map f zs) i d ≡ f (get_or zs i e)
at_map f [] i d e h = absurd (omega (arith, h))
at_map f (z ∷ zs) zero d e h = refl
at_map f (z ∷ zs) (suc i) d e h = at_map f zs i d e (omega (arith, h))

mapped : {X : Type 0} (f : X → ℕ) (zs : List X) → IsNonDecreasingBy f zs → IsNonDecreasing (map f zs)
mapped f [] h = λ i j d le lt. absurd (omega (arith, lt))
mapped f (z ∷ zs) h = λ i j d le lt.
    let many : length (map f (z ∷ zs)) ≡ length (z ∷ zs) = length-map (z ∷ zs) f in
    let first = at_map f (z ∷ zs) i d z (omega (arith, le, lt, many)) in
    let second = at_map f (z ∷ zs) j d z (omega (arith, lt, many)) in
    let order = h i j z le (omega (arith, lt, many)) in
    omega (arith, first, second, order)

eq_swap : (a b : ℕ) → (a == b) ≡ (b == a)
eq_swap a b = grind (arith, nat_tests)

-- numbers that differ, sorted by them, are in rising order
pub sorted_numbers : {X : Type 0} (f : X → ℕ) (xs ys : List X) → IsPermutation xs ys → IsNonDecreasingBy f ys → IsDistinct (λ (a b : ℕ). a == b) (map f xs) → map f ys ≡ rising (map f xs)
sorted_numbers f xs ys moved order apart =
    let numbers = IsPermutation-map f xs ys moved in
    let differ = IsDistinct-IsPermutation (λ (a b : ℕ). a == b) eq_swap (map f xs) (map f ys) numbers apart in
    same_rising (map f ys) (rising (map f xs))
    (sorted_from_strictly_increasing (map f ys) (IsStrictlyIncreasing-from_distinct (map f ys) (mapped f ys order) differ))
    (sorted_rising (map f xs))
    (λ q. sym (list_any-IsPermutation (λ a. q == a) (map f xs) (map f ys) numbers) ∙ sym (any_rising (λ a. q == a) (map f xs)))

-- what stands at a place within a list
pub indexed : {X : Type 0} (list : List X) (i : ℕ) (d : X) → i < length list → slice_get list i ≡ Some (get_or list i d)
indexed [] i d h = absurd (omega (arith, h))
indexed (x ∷ list) zero d h = refl
indexed (x ∷ list) (suc i) d h = indexed list i d (omega (arith, h))

taken : {X Y : Type 0} (g : ℕ → Option Y) (f : X → ℕ) (v : X → Y) (ys : List X) → All (λ d. g (f d) ≡ Some (v d)) ys → filter_map g (map f ys) ≡ map v ys
taken g f v [] h = refl
taken g f v (y ∷ ys) h = λ i. cons_option (h 0 y (omega arith) i) (taken g f v ys (λ k d lt. h (suc k) d (omega (arith, lt))) i)

-- ---- full slots, each found by its address

each_at : {X Y : Type 0} (P : Y → Type 0) (f : X → Y) (list : List X) (i : ℕ) (d : X) → Each P (map f list) → slice_get list i ≡ Some d → P (f d)
each_at P f [] i d each is = cc
each_at P f (x ∷ list) zero d each is = let e : x ≡ d = cc in subst (λ y. P (f y)) e each.0
each_at P f (x ∷ list) (suc i) d each is = each_at P f list i d each.1 is

module _ (p : ProfileName) where
  abbrev view : Derivation → Derived
  view = derivation_view p

  found_at : (list : List Derivation) (i : ℕ) (d : Derivation) → IsDistinct (λ (a b : ℕ). a == b) (map (slot_address p) list) → slice_get list i ≡ Some d →
      found (map view list) (slot_address p d) ≡ Some (view d)
  unfolding IsDistinct
  found_at [] i d apart is = cc
  found_at (x ∷ list) zero d apart is =
      let e : x ≡ d = cc in
      ap (λ b. cond b (Some (view x)) (find (λ (y : Derived). slot_of y == slot_address p d) (map view list))) (eq-eqb (slot_address p x) (slot_address p d) (ap (slot_address p) e))
      ∙ ap (λ y. Some (view y)) e
  found_at (x ∷ list) (suc i) d apart is =
      ap (λ b. cond b (Some (view x)) (find (λ (y : Derived). slot_of y == slot_address p d) (map view list)))
      (each_at (λ y. (slot_address p x == y) ≡ false) (slot_address p) list i d apart.0 is)
      ∙ found_at list i d apart.1 is

  pub slots_of : (list : List Derivation) → map slot_of (map view list) ≡ map (slot_address p) list
  slots_of [] = refl
  slots_of (d ∷ list) = ap (λ l. slot_address p d ∷ l) (slots_of list)

  -- full slots that are sorted by their addresses
  pub slots_sorted : (xs ys : List Derivation) → IsPermutation xs ys → IsNonDecreasingBy (slot_address p) ys → IsDistinct (λ (a b : ℕ). a == b) (map (slot_address p) xs) → map view ys ≡ by_address (map view xs)
  slots_sorted xs ys moved order apart =
      let all = map view xs in
      let each : All (λ d. found all (slot_address p d) ≡ Some (view d)) xs = λ k d lt. found_at xs k (get_or xs k d) apart (indexed xs k d lt) in
      sym (taken (found all) (slot_address p) view ys (All-permutation (λ d. found all (slot_address p d) ≡ Some (view d)) xs ys moved each))
      ∙ ap (filter_map (found all)) (sorted_numbers (slot_address p) xs ys moved order apart ∙ ap rising (sym (slots_of xs)))

-- ---- the slots of the derivations are the full slots

slots_parented : (above : Option Entry) (f : Forest Entry) → map slot_of (map (λ (e : Entry × Option Entry). (e.0, option_map entry_slot e.1)) (parented above f)) ≡ map (λ (e : Entry). e.slot) (preorder f)
slots_parented above none = refl
slots_parented above (tree a under others) =
    ap (λ l. a.slot ∷ l)
    (ap (map slot_of) (map-append (λ (e : Entry × Option Entry). (e.0, option_map entry_slot e.1)) (parented (Some a) under) (parented above others))
    ∙ map-append slot_of (map (λ (e : Entry × Option Entry). (e.0, option_map entry_slot e.1)) (parented (Some a) under)) (map (λ (e : Entry × Option Entry). (e.0, option_map entry_slot e.1)) (parented above others))
    ∙ (λ i. slots_parented (Some a) under i ++ slots_parented above others i)
    ∙ sym (map-append (λ (e : Entry). e.slot) (preorder under) (preorder others)))

pub slots_are : (f : Forest Entry) → map slot_of (derivations_of f) ≡ slots f
slots_are f = slots_parented None f

pub slots_apart : (p : ProfileName) (list given : List Derivation) (f : Forest Entry) → given ≡ list → map (derivation_view p) list ≡ derivations_of f →
    IsDistinct (λ (a b : ℕ). a == b) (slots f) → IsDistinct (λ (a b : ℕ). a == b) (map (slot_address p) given)
slots_apart p list given f same is apart =
    subst (IsDistinct (λ (a b : ℕ). a == b))
    (sym (ap (map (slot_address p)) same ∙ sym (slots_of p list) ∙ ap (map slot_of) is ∙ slots_are f))
    apart
