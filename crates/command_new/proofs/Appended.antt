-- Texts that are added one behind the other.
use Rattle.std.proofs.Common.{◌≡◌, ℕ, zero, suc, ◌+◌, List, [], ◌∷◌, ◌++◌, length, take, get_or, ◌<◌, ap, sym, ◌∙◌, append_assoc, add-one, zero-add, arith}
use Rattle.std.specs.List.{flat_map, range_with_len}
use Rattle.std.proofs.lemmas.Grind.{flat_map-append}
use Rattle.std.proofs.lemmas.List.{append-nil, take_more}

-- a text behind another
pub both : (old a b before after : List ℕ) → before ≡ old ++ a → after ≡ before ++ b → after ≡ old ++ (a ++ b)
both old a b before after first then = then ∙ (ap (λ (l : List ℕ). l ++ b) first ∙ append_assoc old a b)

range_more : (a n : ℕ) → range_with_len a (suc n) ≡ range_with_len a n ++ (a + n) ∷ []
range_more a zero = let e : a ≡ a + 0 = omega arith in ap (λ (x : ℕ). x ∷ []) e
range_more a (suc n) =
    let e : a + 1 + n ≡ a + suc n = omega arith in
    ap (λ (l : List ℕ). a ∷ l) (range_more (a + 1) n ∙ ap (λ (x : ℕ). range_with_len (a + 1) n ++ x ∷ []) e)

number_more : (f : ℕ → List ℕ) (n : ℕ) → flat_map f (range_with_len 0 n) ++ f n ≡ flat_map f (range_with_len 0 (n + 1))
number_more f n =
    let next : range_with_len 0 (n + 1) ≡ range_with_len 0 n ++ n ∷ [] = rw add-one (range_more 0 n ∙ ap (λ (x : ℕ). range_with_len 0 n ++ x ∷ []) (zero-add n)) in
    sym (ap (flat_map f) next ∙ (flat_map-append f (range_with_len 0 n) (n ∷ []) ∙ ap (λ (l : List ℕ). flat_map f (range_with_len 0 n) ++ l) (append-nil (f n))))

-- the text of one number more
pub one_more : (f : ℕ → List ℕ) (old before after : List ℕ) (n : ℕ) → before ≡ old ++ flat_map f (range_with_len 0 n) → after ≡ before ++ f n →
    after ≡ old ++ flat_map f (range_with_len 0 (n + 1))
one_more f old before after n so_far more =
    both old (flat_map f (range_with_len 0 n)) (f n) before after so_far more ∙ ap (λ (l : List ℕ). old ++ l) (number_more f n)

-- the text of one element more
pub element_more : {X : Type 0} (f : X → List ℕ) (xs : List X) (i : ℕ) (d : X) (old before after : List ℕ) → i < length xs →
    before ≡ old ++ flat_map f (take i xs) → after ≡ before ++ f (get_or xs i d) → after ≡ old ++ flat_map f (take (i + 1) xs)
element_more f xs i d old before after within so_far more =
    let one : flat_map f (get_or xs i d ∷ []) ≡ f (get_or xs i d) = append-nil (f (get_or xs i d)) in
    let whole : flat_map f (take i xs) ++ f (get_or xs i d) ≡ flat_map f (take (i + 1) xs) =
    sym (ap (flat_map f) (take_more xs i d within) ∙ (flat_map-append f (take i xs) (get_or xs i d ∷ []) ∙ ap (λ (l : List ℕ). flat_map f (take i xs) ++ l) one)) in
    both old (flat_map f (take i xs)) (f (get_or xs i d)) before after so_far more ∙ ap (λ (l : List ℕ). old ++ l) whole
