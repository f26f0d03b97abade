-- A list of which each key has as many elements as it made, and no others.
use Rattle.std.proofs.Common.{◌≡◌, ℕ, ◌+◌, ◌<◌, ◌≤◌, ◌==◌, ◌&&◌, nat_lt, Bool, true, false, List, [], ◌++◌, filter, count_by, length, take, drop, map, refl, ap, sym, ◌∙◌, arith, length-append}
use Rattle.std.proofs.lemmas.List.{append-nil, length-map, take-append-drop, length-take-le}
use Rattle.std.proofs.lemmas.List.Sums.{length-filter}
use Rattle.std.proofs.lemmas.List.Elements.{filter-append}
use Rattle.std.proofs.lemmas.Bool.Decides.{nat_tests}
use Rattle.kernel_lists.specs.Shares.{total, of_key, count_key, HasMade}
use Rattle.kernel_lists.proofs.Counting.{total-same, total-keys-le, total-mono, squeezed, no_others, both_le, both_same, none_pass, no_length}

count_more : {X : Type 0} (p : X → Bool) (front rest : List X) → count_by p (front ++ rest) ≡ count_by p front + count_by p rest
count_more p front rest =
    let a = length-filter p (front ++ rest) in
    let b = length-filter p front in
    let c = length-filter p rest in
    let d = ap length (filter-append p front rest) in
    let e = length-append (filter p front) (filter p rest) in
    omega arith

module _ {X C : Type 0} (key : X → ℕ) (call : X → C) (h : List X) where
  -- how many it has
  as_many : (i done : ℕ) (calls : List C) (made : HasMade key call h i done calls) → count_by (λ x. (key x == i) && made.passes x) made.front ≡ done
  as_many i done calls made =
      sym (length-filter _ made.front) ∙ (sym (length-map (filter (λ x. (key x == i) && made.passes x) made.front) call) ∙ (ap length made.carry ∙ length-take-le done calls made.within))

  at_least : (i done : ℕ) (calls : List C) → HasMade key call h i done calls → done ≤ count_key key i h
  at_least i done calls made =
      let a = as_many i done calls made in
      let b = both_le (λ x. key x == i) made.passes made.front in
      let c = count_more (λ x. key x == i) made.front made.rest in
      let d = ap (count_key key i) made.begins in
      omega arith

  -- where it has no more of the key, these are all
  carries : (i done : ℕ) (calls : List C) → HasMade key call h i done calls → count_key key i h ≤ done → map call (of_key key i h) ≡ take done calls
  carries i done calls made most =
      let a = as_many i done calls made in
      let b = both_le (λ x. key x == i) made.passes made.front in
      let c = count_more (λ x. key x == i) made.front made.rest in
      let d = ap (count_key key i) made.begins in
      let none : filter (λ x. key x == i) made.rest ≡ [] = none_pass (λ x. key x == i) made.rest (omega arith) in
      let same = both_same (λ x. key x == i) made.passes made.front (omega arith) in
      ap (λ l. map call (of_key key i l)) made.begins
      ∙ ap (map call) (filter-append (λ x. key x == i) made.front made.rest ∙ (ap (λ l. filter (λ x. key x == i) made.front ++ l) none ∙ (append-nil (filter (λ x. key x == i) made.front) ∙ sym same)))
      ∙ made.carry

  module _ (n : ℕ) (done : ℕ → ℕ) (lists : ℕ → List C) (made : (i : ℕ) → i < n → HasMade key call h i (done i) (lists i)) (whole : length h ≤ total n done) where
    pub counts : (i : ℕ) → i < n → done i ≡ count_key key i h
    counts i lt =
        squeezed n done (λ i. count_key key i h) (λ i lt. at_least i (done i) (lists i) (made i lt))
        (let l = total-keys-le key n h in omega arith) i lt

    pub counts_whole : length h ≤ total n (λ i. count_key key i h)
    counts_whole = let e = total-same n done (λ i. count_key key i h) counts in omega arith

    pub no_more : (i : ℕ) → n ≤ i → of_key key i h ≡ []
    no_more i le = none_pass (λ x. key x == i) h (no_others key n i h le counts_whole)

    pub carry_all : (i : ℕ) → i < n → map call (of_key key i h) ≡ take (done i) (lists i)
    carry_all i lt = carries i (done i) (lists i) (made i lt) (let e = counts i lt in omega arith)

    -- each key's elements carry a beginning of its calls
    pub each_begins : (i : ℕ) → (rest : List C) × (lists i ≡ map call (of_key key i h) ++ rest)
    each_begins i =
        elim (nat_lt i n) as (λ t. nat_lt i n ≡ t → (rest : List C) × (lists i ≡ map call (of_key key i h) ++ rest)) [
          | true ↦ λ e. (let lt : i < n = grind (arith, nat_tests) in (drop (done i) (lists i), sym (take-append-drop (done i) (lists i)) ∙ ap (λ l. l ++ drop (done i) (lists i)) (sym (carry_all i lt))))
          | false ↦ λ e. (let le : n ≤ i = grind (arith, nat_tests) in (lists i, ap (λ l. map call l ++ lists i) (sym (no_more i le))))
        ] refl

-- where each key's elements carry a beginning of its calls, and there are as many elements as calls, they carry all of them
module _ {X Y C : Type 0} (key : X → ℕ) (call : X → C) (key' : Y → ℕ) (call' : Y → C) (h : List X) (calls : List Y) (n : ℕ)
    (whole : length h ≤ total n (λ i. count_key key i h)) (same : length h ≡ length calls)
    (begins : (i : ℕ) → (rest : List C) × (map call' (of_key key' i calls) ≡ map call (of_key key i h) ++ rest)) where
  lengths : (i : ℕ) → count_key key' i calls ≡ count_key key i h + length (begins i).0
  lengths i =
      let a = length-filter (λ y. key' y == i) calls in
      let b = length-filter (λ x. key x == i) h in
      let c = length-map (of_key key' i calls) call' in
      let d = length-map (of_key key i h) call in
      let e = ap length (begins i).1 in
      let f = length-append (map call (of_key key i h)) (begins i).0 in
      omega arith

  pub carry_whole : (i : ℕ) → map call (of_key key i h) ≡ map call' (of_key key' i calls)
  carry_whole i =
      let l = lengths i in
      let all : count_key key' i calls ≡ count_key key i h =
      elim (nat_lt i n) as (λ t. nat_lt i n ≡ t → count_key key' i calls ≡ count_key key i h) [
        | true ↦ λ e. sym (squeezed n (λ i. count_key key i h) (λ i. count_key key' i calls) (λ i lt. let l = lengths i in omega arith)
            (let m = total-keys-le key' n calls in omega arith) i (grind (arith, nat_tests)))
        | false ↦ λ e. (let z = no_others key' n i calls (grind (arith, nat_tests)) (let m = more in omega arith) in omega arith)
      ] refl in
      let none = no_length (begins i).0 (omega arith) in
      sym ((begins i).1 ∙ (ap (λ l. map call (of_key key i h) ++ l) none ∙ append-nil (map call (of_key key i h))))
    where
      more : total n (λ i. count_key key i h) ≤ total n (λ i. count_key key' i calls)
      more = total-mono n (λ i. count_key key i h) (λ i. count_key key' i calls) (λ i lt. let l = lengths i in omega arith)
