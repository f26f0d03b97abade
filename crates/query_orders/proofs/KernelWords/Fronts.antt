-- A list of the threads that wait is read from its front.
use Rattle.std.proofs.Common.{◌≡◌, ℕ, suc, ◌<◌, ◌≤◌, List, [], ◌∷◌, ◌++◌, length, drop, map, slice_get, None, Some, option_map, sym, ap, ◌∙◌, append-nil, append_assoc, arith}
use Rattle.std.proofs.Math.Seq.{drop-cons}
use Rattle.std.proofs.Math.Logic.{⊎_elim}
use Rattle.std.proofs.lemmas.List.{length-append, drop_all}
use Rattle.std.proofs.lemmas.Option.{slice_get-map, slice_get_within, slice_get_cases, get_or_from_slice_get}
use Rattle.ipc_core.specs.declared.waiter.Waiter.{Waiter}
use Rattle.ipc_core.specs.Waits.{thread_of}

more : (L xs : List ℕ) (t : ℕ) → L ≡ xs ++ drop (length xs) L → slice_get L (length xs) ≡ Some t → L ≡ (xs ++ t ∷ []) ++ drop (length (xs ++ t ∷ [])) L
more L xs t e s =
    let within : length xs < length L = slice_get_within L (length xs) t s in
    let first : drop (length xs) L ≡ t ∷ drop (suc (length xs)) L =
    drop-cons L (length xs) t within ∙ ap (λ x. x ∷ drop (suc (length xs)) L) (get_or_from_slice_get L (length xs) t t s) in
    let count : suc (length xs) ≡ length (xs ++ t ∷ []) = omega (arith, length-append xs (t ∷ [])) in
    e ∙ ap (λ l. xs ++ l) first ∙ sym (append_assoc xs (t ∷ []) (drop (suc (length xs)) L)) ∙ ap (λ n. (xs ++ t ∷ []) ++ drop n L) count

pub front_more : (l : List Waiter) (xs : List ℕ) (t n : ℕ) → map thread_of l ≡ xs ++ drop (length xs) (map thread_of l) → option_map thread_of (slice_get l n) ≡ Some t → n ≡ length xs → map thread_of l ≡ (xs ++ t ∷ []) ++ drop (length (xs ++ t ∷ [])) (map thread_of l)
front_more l xs t n e s is = more (map thread_of l) xs t e (ap (slice_get (map thread_of l)) (sym is) ∙ slice_get-map thread_of l n ∙ s)

pub front_within : (l : List Waiter) (n t : ℕ) → option_map thread_of (slice_get l n) ≡ Some t → n < length (map thread_of l)
front_within l n t s = slice_get_within (map thread_of l) n t (slice_get-map thread_of l n ∙ s)

past : (L : List ℕ) (n : ℕ) → slice_get L n ≡ None → length L ≤ n
past L n s = ⊎_elim (λ found. absurd (let h : Some found.0 ≡ None = sym found.2 ∙ s in cc)) (λ none. none.0) ((slice_get_cases L n).1)

pub front_all : (l : List Waiter) (xs : List ℕ) (n : ℕ) → map thread_of l ≡ xs ++ drop (length xs) (map thread_of l) → option_map thread_of (slice_get l n) ≡ None → n ≡ length xs → xs ≡ map thread_of l
front_all l xs n e s is =
    let ends : length (map thread_of l) ≤ n = past (map thread_of l) n (slice_get-map thread_of l n ∙ s) in
    let none : drop (length xs) (map thread_of l) ≡ [] = drop_all (length xs) (map thread_of l) (omega arith) in
    sym (e ∙ ap (λ r. xs ++ r) none ∙ append-nil xs)
