-- Parts of lists.
use Rattle.std.proofs.Common.{◌≡◌, inl, inr, ℕ, zero, suc, ◌+◌, ◌-◌, ◌<◌, ◌≤◌, Bool, true, false, ◌==◌, ◌&&◌, nat_le, nat_lt, List, [], ◌∷◌, ◌++◌, length, map, take, drop, get_or, Some, option_map, refl, sym, ap, ◌∙◌, arith, eq-eqb}
use Rattle.std.specs.List.{slice_get, list_any}
use Rattle.std.proofs.lemmas.Bool.{eqb-true, leb-true, ltb-true, le-leb, lt-ltb}
use Rattle.std.proofs.lemmas.List.{take_more, length-drop, length-take-le}
use Rattle.std.proofs.lemmas.Option.{slice_get-map}
use Rattle.kernel_delete.specs.Members.{In}
use Rattle.kernel_delete.proofs.Members.{any_of, any_in, tells, same_truth, both_true}
use Rattle.query_revoke.specs.Runs.{part, AreOnce}

-- an element, and its place
pub got_in : {X : Type 0} (xs : List X) (i : ℕ) (x : X) → slice_get xs i ≡ Some x → In x xs
got_in [] i x e = cc
got_in (y ∷ xs) zero x e = let same : y ≡ x = cc in inl (sym same)
got_in (y ∷ xs) (suc i) x e = inr (got_in xs i x e)

pub in_got : {X : Type 0} (xs : List X) (x : X) → In x xs → (i : ℕ) × (slice_get xs i ≡ Some x)
in_got [] x h = absurd h
in_got (y ∷ xs) x (inl e) = (0, ap Some (sym e))
in_got (y ∷ xs) x (inr h) = let w = in_got xs x h in (suc w.0, w.1)

drop_none : {X : Type 0} (n i : ℕ) (x : X) → slice_get (drop n []) i ≡ Some x → ⊥
drop_none zero i x e = cc
drop_none (suc n) i x e = cc

pub got_part : {X : Type 0} (xs : List X) (a b i k : ℕ) (x : X) → k ≡ a + i → slice_get (part a b xs) i ≡ Some x → (slice_get xs k ≡ Some x) × (k < b)
got_part xs a zero i k x at e = absurd (drop_none a i x e)
got_part [] a (suc b) i k x at e = absurd (drop_none a i x e)
got_part (y ∷ xs) zero (suc b) zero zero x at e = (e, omega arith)
got_part (y ∷ xs) zero (suc b) zero (suc k) x at e = absurd (omega arith)
got_part (y ∷ xs) zero (suc b) (suc i) zero x at e = absurd (omega arith)
got_part (y ∷ xs) zero (suc b) (suc i) (suc k) x at e = let w = got_part xs zero b i k x (omega arith) e in (w.0, (let l = w.1 in omega arith))
got_part (y ∷ xs) (suc a) (suc b) i zero x at e = absurd (omega arith)
got_part (y ∷ xs) (suc a) (suc b) i (suc k) x at e = let w = got_part xs a b i k x (omega arith) e in (w.0, (let l = w.1 in omega arith))

pub part_got : {X : Type 0} (xs : List X) (a b i k : ℕ) (x : X) → k ≡ a + i → slice_get xs k ≡ Some x → k < b → slice_get (part a b xs) i ≡ Some x
part_got xs a zero i k x at e low = absurd (omega arith)
part_got [] a (suc b) i k x at e low = cc
part_got (y ∷ xs) zero (suc b) zero zero x at e low = e
part_got (y ∷ xs) zero (suc b) zero (suc k) x at e low = absurd (omega arith)
part_got (y ∷ xs) zero (suc b) (suc i) zero x at e low = absurd (omega arith)
part_got (y ∷ xs) zero (suc b) (suc i) (suc k) x at e low = part_got xs zero b i k x (omega arith) e (omega arith)
part_got (y ∷ xs) (suc a) (suc b) i zero x at e low = absurd (omega arith)
part_got (y ∷ xs) (suc a) (suc b) i (suc k) x at e low = part_got xs a b i k x (omega arith) e (omega arith)

pub in_part : {X : Type 0} (xs : List X) (a b k : ℕ) (x : X) → slice_get xs k ≡ Some x → a ≤ k → k < b → In x (part a b xs)
in_part xs a b k x e high low = got_in (part a b xs) (k - a) x (part_got xs a b (k - a) k x (omega arith) e low)

pub part_in : {X : Type 0} (xs : List X) (a b : ℕ) (x : X) → In x (part a b xs) → (k : ℕ) × ((slice_get xs k ≡ Some x) × ((a ≤ k) × (k < b)))
part_in xs a b x h =
    let w = in_got (part a b xs) x h in
    let g = got_part xs a b w.0 (a + w.0) x refl w.1 in
    (a + w.0, (g.0, (omega arith, g.1)))

-- one more
drop_front : {X : Type 0} (a : ℕ) (u v : List X) → a ≤ length u → drop a (u ++ v) ≡ drop a u ++ v
drop_front zero u v h = refl
drop_front (suc a) [] v h = absurd (omega arith)
drop_front (suc a) (x ∷ u) v h = drop_front a u v (omega arith)

pub part_more : {X : Type 0} (xs : List X) (a b : ℕ) (d : X) → a ≤ b → b < length xs → part a (b + 1) xs ≡ part a b xs ++ get_or xs b d ∷ []
part_more xs a b d le within =
    let long = length-take-le b xs (omega arith) in
    ap (drop a) (take_more xs b d within) ∙ drop_front a (take b xs) (get_or xs b d ∷ []) (omega (arith, long, le))

pub part_none : {X : Type 0} (xs : List X) (a : ℕ) → part a a xs ≡ []
part_none xs zero = refl
part_none [] (suc a) = refl
part_none (x ∷ xs) (suc a) = part_none xs a

pub drop_more : {X : Type 0} (xs : List X) (b n : ℕ) (d : X) → n ≡ b + 1 → b < length xs → drop b xs ≡ get_or xs b d ∷ drop n xs
drop_more [] b n d e h = absurd (omega arith)
drop_more (x ∷ xs) zero zero d e h = absurd (omega arith)
drop_more (x ∷ xs) zero (suc n) d e h = let none : n ≡ 0 = omega arith in rw none refl
drop_more (x ∷ xs) (suc b) zero d e h = absurd (omega arith)
drop_more (x ∷ xs) (suc b) (suc n) d e h = drop_more xs b n d (omega arith) (omega arith)

pub drop_past : {X : Type 0} (xs : List X) (b : ℕ) → length xs ≤ b → drop b xs ≡ []
drop_past [] zero h = refl
drop_past [] (suc b) h = refl
drop_past (x ∷ xs) zero h = absurd (omega arith)
drop_past (x ∷ xs) (suc b) h = drop_past xs b (omega arith)

pub part_length : {X : Type 0} (xs : List X) (a b : ℕ) → b ≤ length xs → length (part a b xs) ≡ b - a
part_length xs a b h = length-drop a (take b xs) ∙ ap (λ (n : ℕ). n - a) (length-take-le b xs h)

pub map_part : {X Y : Type 0} (f : X → Y) (a b : ℕ) (xs : List X) → map f (part a b xs) ≡ part a b (map f xs)
map_part f a zero xs = nothing a
  where
    nothing : (a : ℕ) → map f (drop a []) ≡ drop a []
    nothing zero = refl
    nothing (suc a) = refl
map_part f zero (suc b) [] = refl
map_part f (suc a) (suc b) [] = refl
map_part f zero (suc b) (x ∷ xs) = ap (λ (l : List _). f x ∷ l) (map_part f zero b xs)
map_part f (suc a) (suc b) (x ∷ xs) = map_part f a b xs

-- whether a number that stands once in a list of numbers stands in a part of it
pub any_within : {X : Type 0} (number : X → ℕ) (xs : List X) (a b n place : ℕ) → slice_get (map number xs) place ≡ Some n → AreOnce (map number xs) →
    list_any (λ (x : X). number x == n) (part a b xs) ≡ (nat_le a place && nat_lt place b)
any_within {X} number xs a b n place e once = same_truth (list_any (λ (x : X). number x == n) (part a b xs)) (nat_le a place && nat_lt place b) there back
  where
    both : (s t : Bool) → s ≡ true → t ≡ true → (s && t) ≡ true
    both s t h k = rw (h, k) refl

    there : list_any (λ (x : X). number x == n) (part a b xs) ≡ true → (nat_le a place && nat_lt place b) ≡ true
    there h =
        let w = any_of (λ (x : X). number x == n) (part a b xs) h in
        let k = part_in xs a b w.0 w.1.0 in
        let is : slice_get (map number xs) k.0 ≡ Some n = slice_get-map number xs k.0 ∙ ap (option_map number) k.1.0 ∙ ap Some (eqb-true (number w.0) n w.1.1) in
        let same : k.0 ≡ place = once k.0 place n is e in
        both (nat_le a place) (nat_lt place b) (le-leb a place (let l = k.1.1.0 in omega arith)) (lt-ltb place b (let l = k.1.1.1 in omega arith))

    back : (nat_le a place && nat_lt place b) ≡ true → list_any (λ (x : X). number x == n) (part a b xs) ≡ true
    back h =
        let t = both_true (nat_le a place) (nat_lt place b) h in
        let at = element xs place e in
        any_in (λ (x : X). number x == n) (part a b xs) at.0 (in_part xs a b place at.0 at.1.0 (leb-true a place t.0) (ltb-true place b t.1)) (eq-eqb (number at.0) n at.1.1)
      where
        element : (xs : List X) (i : ℕ) → slice_get (map number xs) i ≡ Some n → (x : X) × ((slice_get xs i ≡ Some x) × (number x ≡ n))
        element [] i e = cc
        element (x ∷ xs) zero e = let is : number x ≡ n = cc in (x, (refl, is))
        element (x ∷ xs) (suc i) e = element xs i e

pub none_within : {X : Type 0} (number : X → ℕ) (xs : List X) (a b n : ℕ) → ((i : ℕ) → slice_get (map number xs) i ≡ Some n → ⊥) →
    list_any (λ (x : X). number x == n) (part a b xs) ≡ false
none_within {X} number xs a b n none = elim (tells (list_any (λ (x : X). number x == n) (part a b xs))) [
  | inr fails ↦ fails
  | inl h ↦ absurd (
      let w = any_of (λ (x : X). number x == n) (part a b xs) h in
      let k = part_in xs a b w.0 w.1.0 in
      none k.0 (slice_get-map number xs k.0 ∙ ap (option_map number) k.1.0 ∙ ap Some (eqb-true (number w.0) n w.1.1)))
]
