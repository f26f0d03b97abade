-- Places by rising keys: those of one key are found by halving, and stay in their order.
use Rattle.std.proofs.Common.{◌≡◌, ℕ, suc, ◌+◌, ◌<◌, ◌≤◌, refl, sym, ap, ◌∙◌, arith, Bool, true, false, cond, not, ◌==◌, ◌&&◌, List, [], ◌∷◌, ◌++◌, length, take, drop, get_or, filter, nat_lt, nat_le}
use Rattle.std.specs.List.{All}
use Rattle.std.specs.List.Sorted.{IsPartitionPoint, IsStableByKey}
use Rattle.std.specs.Cmp.{nat_cmp_is}
use Rattle.std.specs.Ordering.{nat_cmp, is_lt}
use Rattle.std.specs.declared.cmp.Ordering.TheVariants.{Less, Equal, Greater}
use Rattle.std.proofs.lemmas.Bool.{eq-eqb, ne_eqb, ltb-true, ltb-false, leb-true, leb-false}
use Rattle.std.proofs.lemmas.List.{append-nil, take-append-drop, length-take, length-drop, get_or-take, get_or-drop}
use Rattle.std.proofs.lemmas.List.Elements.{filter-append}
use Rattle.query_revoke.specs.declared.keyed.Keyed.{Keyed}
use Rattle.query_revoke.specs.Keyed.{is_keyed_by}

filter_all : {X : Type 0} (p : X → Bool) (xs : List X) → All (λ (x : X). p x ≡ true) xs → filter p xs ≡ xs
filter_all p [] h = refl
filter_all p (x ∷ xs) h =
    ap (λ (b : Bool). cond b (x ∷ filter p xs) (filter p xs)) (h 0 x (omega arith))
    ∙ ap (λ (l : List _). x ∷ l) (filter_all p xs (λ k d lt. h (suc k) d (omega arith)))

filter_none : {X : Type 0} (p : X → Bool) (xs : List X) → All (λ (x : X). p x ≡ false) xs → filter p xs ≡ []
filter_none p [] h = refl
filter_none p (x ∷ xs) h =
    ap (λ (b : Bool). cond b (x ∷ filter p xs) (filter p xs)) (h 0 x (omega arith))
    ∙ filter_none p xs (λ k d lt. h (suc k) d (omega arith))

-- ---- a stable sort

tie_less : (a b : ℕ) → a < b → (not (is_lt (nat_cmp a b)) && not (is_lt (nat_cmp b a))) ≡ (b == a)
tie_less a b h =
    (λ i. not (is_lt ((sym (nat_cmp_is a b Less h)) i)) && not (is_lt (nat_cmp b a))) ∙ sym (ne_eqb b a (λ e. omega arith))

tie_same : (a b : ℕ) → a ≡ b → (not (is_lt (nat_cmp a b)) && not (is_lt (nat_cmp b a))) ≡ (b == a)
tie_same a b h =
    (λ i. not (is_lt ((sym (nat_cmp_is a b Equal h)) i)) && not (is_lt ((sym (nat_cmp_is b a Equal (sym h))) i))) ∙ sym (eq-eqb b a (sym h))

tie_more : (a b : ℕ) → b < a → (not (is_lt (nat_cmp a b)) && not (is_lt (nat_cmp b a))) ≡ (b == a)
tie_more a b h =
    (λ i. not (is_lt ((sym (nat_cmp_is a b Greater h)) i)) && not (is_lt ((sym (nat_cmp_is b a Less h)) i))) ∙ sym (ne_eqb b a (λ e. omega arith))

tie : (a b : ℕ) → (not (is_lt (nat_cmp a b)) && not (is_lt (nat_cmp b a))) ≡ (b == a)
tie a b = elim (nat_lt a b) as (λ c. nat_lt a b ≡ c → (not (is_lt (nat_cmp a b)) && not (is_lt (nat_cmp b a))) ≡ (b == a)) [
  | true ↦ λ e. tie_less a b (ltb-true a b e)
  | false ↦ λ e. elim (nat_lt b a) as (λ c. nat_lt b a ≡ c → (not (is_lt (nat_cmp a b)) && not (is_lt (nat_cmp b a))) ≡ (b == a)) [
    | true ↦ λ f. tie_more a b (ltb-true b a f)
    | false ↦ λ f. tie_same a b (let le = ltb-false a b e in let ge = ltb-false b a f in omega arith)
  ] refl
] refl

abbrev of_key : ℕ → Keyed
of_key n = record { key = n; place = 0 }

pub same_at : (n : ℕ) (xs ys : List Keyed) → IsStableByKey (λ (v : Keyed). v.key) nat_cmp xs ys → filter (is_keyed_by n) ys ≡ filter (is_keyed_by n) xs
same_at n xs ys stable =
    (λ i. filter (λ (y : Keyed). (sym (tie n y.key)) i) ys)
    ∙ (stable (of_key n) ∙ (λ i. filter (λ (y : Keyed). (tie n y.key) i) xs))

-- ---- by halving

less_at : (e n : ℕ) → nat_lt n e ≡ true → (n == e) ≡ false
less_at e n h = ne_eqb n e (λ eq. let l = ltb-true n e h in omega arith)

more_at : (e n : ℕ) → nat_le n e ≡ false → (n == e) ≡ false
more_at e n h = ne_eqb n e (λ eq. let l = leb-false n e h in omega arith)

exact_at : (e n : ℕ) → nat_lt n e ≡ false → nat_le n e ≡ true → (n == e) ≡ true
exact_at e n h k = eq-eqb n e (let l = ltb-false n e h in let m = leb-true n e k in omega arith)

pub between : (e : ℕ) (xs : List Keyed) (i j : ℕ) → i ≤ length xs →
    IsPartitionPoint (λ (y : Keyed). nat_lt y.key e ≡ true) (λ (y : Keyed). nat_lt y.key e ≡ false) xs i →
    IsPartitionPoint (λ (y : Keyed). nat_le y.key e ≡ true) (λ (y : Keyed). nat_le y.key e ≡ false) (drop i xs) j →
    take j (drop i xs) ≡ filter (is_keyed_by e) xs
between e xs i j in' low high =
    sym (ap (filter (is_keyed_by e)) (sym (take-append-drop i xs))
    ∙ (filter-append (is_keyed_by e) (take i xs) rest
    ∙ (ap (λ (l : List Keyed). l ++ filter (is_keyed_by e) rest) (filter_none (is_keyed_by e) (take i xs) front)
    ∙ (ap (filter (is_keyed_by e)) (sym (take-append-drop j rest))
    ∙ (filter-append (is_keyed_by e) (take j rest) (drop j rest)
    ∙ ((λ k. (filter_all (is_keyed_by e) (take j rest) middle) k ++ (filter_none (is_keyed_by e) (drop j rest) back) k)
    ∙ append-nil (take j rest)))))))
  where
    rest : List Keyed
    rest = drop i xs

    front : All (λ (y : Keyed). is_keyed_by e y ≡ false) (take i xs)
    front k d lt =
        let short = length-take i xs in
        ap (is_keyed_by e) (get_or-take i xs k d (omega arith)) ∙ less_at e (get_or xs k d).key (low.0 k d (omega arith) (omega arith))

    middle : All (λ (y : Keyed). is_keyed_by e y ≡ true) (take j rest)
    middle k d lt =
        let short = length-take j rest in
        let long = length-drop i xs in
        let at = ap (λ (y : Keyed). nat_le y.key e) (get_or-drop i xs k d) in
        ap (is_keyed_by e) (get_or-take j rest k d (omega arith) ∙ get_or-drop i xs k d)
        ∙ exact_at e (get_or xs (i + k) d).key (low.1 (i + k) d (omega arith) (omega arith)) (sym at ∙ high.0 k d (omega arith) (omega arith))

    back : All (λ (y : Keyed). is_keyed_by e y ≡ false) (drop j rest)
    back k d lt =
        let long = length-drop j rest in
        ap (is_keyed_by e) (get_or-drop j rest k d) ∙ more_at e (get_or rest (j + k) d).key (high.1 (j + k) d (omega arith) (omega arith))
