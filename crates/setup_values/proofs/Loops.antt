-- Loops that read each element of a list in turn.
use Rattle.std.proofs.Common.{◌≡◌, ℕ, ◌+◌, ◌<◌, ◌≤◌, List, [], ◌∷◌, ◌++◌, length, get_or, drop, map, Result, Ok, Err, refl, sym, ap, ◌∙◌, append_assoc, arith, cond, Some, le-leb}
use Rattle.std.proofs.lemmas.List.{drop_more, append-nil, length-map}
use Rattle.std.proofs.lemmas.Bool.{lt-leb}
use Rattle.toml.specs.Data.{Data, as_array}
use Rattle.toml.specs.View.{view, items_view}
use Rattle.toml.specs.declared.value.Value.{Value}
use Rattle.setup_values.specs.declared.values.Wrong.TheVariants.{OtherValue}
use Rattle.cap_core.specs.declared.profile.ProfileName.{ProfileName}
use Rattle.cap_core.specs.declared.limits.TheConstants.{MAX_MESSAGE_WORDS}
use Rattle.setup_values.specs.Names.{Names}
use Rattle.cap_core.specs.Checks.{◌>>=◌}
use Rattle.setup_values.specs.Kinds.{each, item_list, array_in, between, word, words, filled}

-- the elements of an array
pub item_list_view : (vs : List Value) → item_list (items_view vs) ≡ map view vs
item_list_view [] = refl
item_list_view (v ∷ vs) = ap (λ ds. view v ∷ ds) (item_list_view vs)

abbrev pub with_front : {B E : Type 0} → List B → Result (List B) E → Result (List B) E
with_front front (Ok xs) = Ok (front ++ xs)
with_front front (Err e) = Err e

pub starts : {B E : Type 0} (r : Result (List B) E) → with_front [] r ≡ r
starts (Ok xs) = refl
starts (Err e) = refl

regroup : {B E : Type 0} (front : List B) (y : B) (r : Result (List B) E) → with_front front (r >>= λ ys. Ok (y ∷ ys)) ≡ with_front (front ++ y ∷ []) r
regroup front y (Ok ys) = ap Ok (sym (append_assoc front (y ∷ []) ys))
regroup front y (Err e) = refl

-- one element more
pub goes_on : {X A B E : Type 0} (v : X → A) (read : ℕ → A → Result B E) (front : List B) (n i : ℕ) (xs : List X) (d : X) (y : B) (total : Result (List B) E) → i < length xs
    → read (n + i) (v (get_or xs i d)) ≡ Ok y → with_front front (each read (n + i) (map v (drop i xs))) ≡ total
    → with_front (front ++ y ∷ []) (each read (n + (i + 1)) (map v (drop (i + 1) xs))) ≡ total
unfolding each
goes_on v read front n i xs d y total lt h so_far =
    let next : n + (i + 1) ≡ n + i + 1 = omega arith in
    let one : with_front front (each read (n + i) (map v (drop i xs))) ≡ with_front (front ++ y ∷ []) (each read (n + i + 1) (map v (drop (i + 1) xs))) = rw (drop_more xs i d lt, h) (regroup front y (each read (n + i + 1) (map v (drop (i + 1) xs)))) in
    rw next (sym one ∙ so_far)

-- the element is refused
pub ends : {X A B E : Type 0} (v : X → A) (read : ℕ → A → Result B E) (front : List B) (n i : ℕ) (xs : List X) (d : X) (e : E) (total : Result (List B) E) → i < length xs
    → read (n + i) (v (get_or xs i d)) ≡ Err e → with_front front (each read (n + i) (map v (drop i xs))) ≡ total → total ≡ Err e
unfolding each
ends v read front n i xs d e total lt h so_far =
    let one : with_front front (each read (n + i) (map v (drop i xs))) ≡ Err e = rw (drop_more xs i d lt, h) refl in
    sym so_far ∙ one

-- no element is left
pub is_done : {X A B E : Type 0} (v : X → A) (read : ℕ → A → Result B E) (front : List B) (n i : ℕ) (xs : List X) (total : Result (List B) E) → drop i xs ≡ []
    → with_front front (each read (n + i) (map v (drop i xs))) ≡ total → total ≡ Ok front
unfolding each
is_done v read front n i xs total none so_far =
    let one : with_front front (each read (n + i) (map v (drop i xs))) ≡ Ok front = rw none (ap Ok (append-nil front)) in
    sym so_far ∙ one

-- ---- the length of an array

array_is : (low high : ℕ) (vs : List Value) → array_in low high (Some (items_view vs)) ≡ cond (between low high (length vs)) (Ok (map view vs)) (Err OtherValue)
array_is low high vs = rw (item_list_view, length-map)

pub array_short : (low high : ℕ) (vs : List Value) → length vs < low → array_in low high (Some (items_view vs)) ≡ Err OtherValue
array_short low high vs lt = array_is low high vs ∙ rw (lt-leb low (length vs) lt)

pub array_long : (low high : ℕ) (vs : List Value) → low ≤ length vs → high < length vs → array_in low high (Some (items_view vs)) ≡ Err OtherValue
array_long low high vs le lt = array_is low high vs ∙ rw (le-leb low (length vs) le, lt-leb (length vs) high lt)

pub array_fits : (low high : ℕ) (vs : List Value) → low ≤ length vs → length vs ≤ high → array_in low high (Some (items_view vs)) ≡ Ok (map view vs)
array_fits low high vs le le' = array_is low high vs ∙ rw (le-leb low (length vs) le, le-leb (length vs) high le')

pub words_are : (p : ProfileName) (names : Names) (d : Data) (xs : List Data) → Ok xs ≡ array_in 0 MAX_MESSAGE_WORDS (as_array d) → words p names d ≡ (each (λ _. word p names) 0 xs >>= λ ws. Ok (filled ws))
words_are p names d xs e = rw (← e) refl
