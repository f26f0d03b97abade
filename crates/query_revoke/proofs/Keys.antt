-- The places of one key in a list of keys.
use Rattle.std.proofs.Common.{◌≡◌, ℕ, zero, suc, ◌+◌, ◌<◌, ◌≤◌, Bool, true, false, cond, ◌==◌, List, [], ◌∷◌, ◌++◌, filter, length, map, get_or, take, Option, Some, None, option_map, refl, sym, ap, ◌∙◌, arith, eq-eqb}
use Rattle.std.specs.List.{slice_get}
use Rattle.std.proofs.lemmas.Bool.{eqb-true}
use Rattle.std.proofs.lemmas.List.{map-append, length-map, take_more}
use Rattle.query_revoke.specs.declared.keyed.Keyed.{Keyed}
use Rattle.query_revoke.specs.Keyed.{is_keyed_by, keyed_by_place, AreKeyed}
use Rattle.query_revoke.specs.Private.{AreAscending}

abbrev at : ℕ → ℕ → Keyed
at key place = record { key = key; place = place }

-- one key more
numbered_append : (base : ℕ) (keys : List ℕ) (key : ℕ) → keyed_by_place base (keys ++ key ∷ []) ≡ keyed_by_place base keys ++ at key (base + length keys) ∷ []
numbered_append base [] key = let e : base + 0 ≡ base = omega arith in rw e refl
numbered_append base (k ∷ keys) key =
    let e : suc base + length keys ≡ base + suc (length keys) = omega arith in
    ap (λ (l : List Keyed). at k base ∷ l) (numbered_append (suc base) keys key ∙ ap (λ (n : ℕ). keyed_by_place (suc base) keys ++ at key n ∷ []) e)

take_length : {X : Type 0} (i : ℕ) (xs : List X) → i ≤ length xs → length (take i xs) ≡ i
take_length zero xs h = refl
take_length (suc i) [] h = absurd (omega arith)
take_length (suc i) (x ∷ xs) h = ap suc (take_length i xs (omega arith))

pub numbered_more : {X : Type 0} (key : X → ℕ) (xs : List X) (i : ℕ) (d : X) (old : List Keyed) (n : ℕ) → i < length xs → old ≡ keyed_by_place 0 (map key (take i xs)) → n ≡ key (get_or xs i d) →
    old ++ at n i ∷ [] ≡ keyed_by_place 0 (map key (take (i + 1) xs))
numbered_more key xs i d old n within is e =
    let short : length (map key (take i xs)) ≡ i = length-map (take i xs) key ∙ take_length i xs (omega arith) in
    let long : 0 + length (map key (take i xs)) ≡ i = omega (arith, short) in
    sym (ap (λ (l : List _). keyed_by_place 0 (map key l)) (take_more xs i d within)
    ∙ ap (keyed_by_place 0) (map-append key (take i xs) (get_or xs i d ∷ []))
    ∙ numbered_append 0 (map key (take i xs)) (key (get_or xs i d))
    ∙ (λ j. (sym is) j ++ at ((sym e) j) (long j) ∷ []))

-- where a key stands, and what stands there
pub found_in : (n base : ℕ) (keys : List ℕ) (i : ℕ) (k : Keyed) → slice_get (filter (is_keyed_by n) (keyed_by_place base keys)) i ≡ Some k →
    (j : ℕ) × ((k.place ≡ base + j) × ((k.key ≡ n) × (slice_get keys j ≡ Some n)))
found_in n base [] i k e = cc
found_in n base (key ∷ keys) i k e = go (key == n) refl (λ i'. found_in n (suc base) keys i' k) i e
  where
    later : (w : (j : ℕ) × ((k.place ≡ suc base + j) × ((k.key ≡ n) × (slice_get keys j ≡ Some n)))) → (j : ℕ) × ((k.place ≡ base + j) × ((k.key ≡ n) × (slice_get (key ∷ keys) j ≡ Some n)))
    later w = (suc w.0, ((let p = w.1.0 in omega arith), (w.1.1.0, w.1.1.1)))

    go : (t : Bool) → (key == n) ≡ t →
        ((i : ℕ) → slice_get (filter (is_keyed_by n) (keyed_by_place (suc base) keys)) i ≡ Some k → (j : ℕ) × ((k.place ≡ suc base + j) × ((k.key ≡ n) × (slice_get keys j ≡ Some n)))) →
        (i : ℕ) → slice_get (cond t (at key base ∷ filter (is_keyed_by n) (keyed_by_place (suc base) keys)) (filter (is_keyed_by n) (keyed_by_place (suc base) keys))) i ≡ Some k →
        (j : ℕ) × ((k.place ≡ base + j) × ((k.key ≡ n) × (slice_get (key ∷ keys) j ≡ Some n)))
    go true same more zero e' =
        let is : at key base ≡ k = cc in
        let key_is : key ≡ n = eqb-true key n same in
        let here : base ≡ base + 0 = omega arith in
        (0, (sym (ap (λ (x : Keyed). x.place) is) ∙ here, (sym (ap (λ (x : Keyed). x.key) is) ∙ key_is, ap Some key_is)))
    go true same more (suc i) e' = later (more i e')
    go false other more i e' = later (more i e')

pub found_all : (n base : ℕ) (keys : List ℕ) (j : ℕ) → slice_get keys j ≡ Some n →
    (i : ℕ) × (slice_get (filter (is_keyed_by n) (keyed_by_place base keys)) i ≡ Some (at n (base + j)))
found_all n base [] j e = cc
found_all n base (key ∷ keys) zero e = (0, first)
  where
    key_is : key ≡ n
    key_is = cc

    first : slice_get (cond (key == n) (at key base ∷ filter (is_keyed_by n) (keyed_by_place (suc base) keys)) (filter (is_keyed_by n) (keyed_by_place (suc base) keys))) 0 ≡ Some (at n (base + 0))
    first =
        let e' : base ≡ base + 0 = omega arith in
        ap (λ (t : Bool). slice_get (cond t (at key base ∷ filter (is_keyed_by n) (keyed_by_place (suc base) keys)) (filter (is_keyed_by n) (keyed_by_place (suc base) keys))) 0) (eq-eqb key n key_is)
        ∙ (λ i. Some (at (key_is i) (e' i)))
found_all n base (key ∷ keys) (suc j) e =
    let w = found_all n (suc base) keys j e in
    let same : suc base + j ≡ base + suc j = omega arith in
    go w.0 (w.1 ∙ ap (λ (p : ℕ). Some (at n p)) same) (key == n)
  where
    go : (i : ℕ) → slice_get (filter (is_keyed_by n) (keyed_by_place (suc base) keys)) i ≡ Some (at n (base + suc j)) → (t : Bool) →
        (i' : ℕ) × (slice_get (cond t (at key base ∷ filter (is_keyed_by n) (keyed_by_place (suc base) keys)) (filter (is_keyed_by n) (keyed_by_place (suc base) keys))) i' ≡ Some (at n (base + suc j)))
    go i h true = (suc i, h)
    go i h false = (i, h)

-- the places of one key rise
above : (n base : ℕ) (keys : List ℕ) (i : ℕ) (k : Keyed) → slice_get (filter (is_keyed_by n) (keyed_by_place base keys)) i ≡ Some k → base ≤ k.place
above n base keys i k e = let w = found_in n base keys i k e in let p = w.1.0 in omega arith

ascending : (n base : ℕ) (keys : List ℕ) → AreAscending (filter (is_keyed_by n) (keyed_by_place base keys))
ascending n base [] i j a b less ha hb = cc
ascending n base (key ∷ keys) i j a b less ha hb = go (key == n) (ascending n (suc base) keys) i j a b less ha hb
  where
    go : (t : Bool) → AreAscending (filter (is_keyed_by n) (keyed_by_place (suc base) keys)) →
        AreAscending (cond t (at key base ∷ filter (is_keyed_by n) (keyed_by_place (suc base) keys)) (filter (is_keyed_by n) (keyed_by_place (suc base) keys)))
    go false more i j a b less ha hb = more i j a b less ha hb
    go true more zero zero a b less ha hb = absurd (omega arith)
    go true more zero (suc j) a b less ha hb =
        let is : at key base ≡ a = cc in
        let low = above n (suc base) keys j b hb in
        let place : base ≡ a.place = ap (λ (x : Keyed). x.place) is in
        omega (arith, low, place)
    go true more (suc i) zero a b less ha hb = absurd (omega arith)
    go true more (suc i) (suc j) a b less ha hb = more i j a b (omega arith) ha hb

pub ascending_at : (keys : List ℕ) (list : List Keyed) → AreKeyed keys list → (n : ℕ) → AreAscending (filter (is_keyed_by n) list)
ascending_at keys list h n i j a b less ha hb =
    ascending n 0 keys i j a b less (ap (λ (l : List Keyed). slice_get l i) (sym (h.same n)) ∙ ha) (ap (λ (l : List Keyed). slice_get l j) (sym (h.same n)) ∙ hb)

-- the place of a number that stands once
pub place_of : (keys : List ℕ) (list : List Keyed) (n i : ℕ) → AreKeyed keys list → option_map (λ (k : Keyed). k.place) (slice_get (filter (is_keyed_by n) list) 0) ≡ Some i →
    slice_get keys i ≡ Some n
place_of keys list n i h e =
    go (slice_get (filter (is_keyed_by n) list) 0) refl e
  where
    go : (o : Option Keyed) → slice_get (filter (is_keyed_by n) list) 0 ≡ o → option_map (λ (k : Keyed). k.place) o ≡ Some i → slice_get keys i ≡ Some n
    go None is e' = cc
    go (Some k) is e' =
        let w = found_in n 0 keys 0 k (ap (λ (l : List Keyed). slice_get l 0) (sym (h.same n)) ∙ is) in
        let here : k.place ≡ i = cc in
        let at_j : w.0 ≡ i = (let p = w.1.0 in omega (arith, p, here)) in
        rw (← at_j) w.1.1.1

pub no_place : (keys : List ℕ) (list : List Keyed) (n : ℕ) → AreKeyed keys list → option_map (λ (k : Keyed). k.place) (slice_get (filter (is_keyed_by n) list) 0) ≡ None →
    (i : ℕ) → slice_get keys i ≡ Some n → ⊥
no_place keys list n h e i there =
    let w = found_all n 0 keys i there in
    some w.0 (filter (is_keyed_by n) list) (ap (λ (l : List Keyed). slice_get l w.0) (h.same n) ∙ w.1) e
  where
    some : (j : ℕ) (l : List Keyed) → slice_get l j ≡ Some (at n (0 + i)) → option_map (λ (k : Keyed). k.place) (slice_get l 0) ≡ None → ⊥
    some j [] is e' = cc
    some j (k ∷ l) is e' = cc
