-- What is seen of each of some words.
use Rattle.std.proofs.Common.{◌≡◌, ℕ, ◌+◌, ◌<◌, List, [], ◌∷◌, ◌++◌, map, filter_map, length, take, get_or, Option, Some, None, Result, Ok, Err, IfOk, refl, sym, ap, ◌∙◌}
use Rattle.std.proofs.lemmas.List.{take_more}
use Rattle.std.specs.List.{cons_option}

pub filter_map_seen : {A B C : Type 0} (f : B → Option C) (g : A → B) (xs : List A) → filter_map f (map g xs) ≡ filter_map (λ x. f (g x)) xs
filter_map_seen f g [] = refl
filter_map_seen f g (x ∷ xs) = ap (cons_option (f (g x))) (filter_map_seen f g xs)

cons_more : {B : Type 0} (o : Option B) (xs ys : List B) → cons_option o (xs ++ ys) ≡ cons_option o xs ++ ys
cons_more None xs ys = refl
cons_more (Some b) xs ys = refl

appended : {A B : Type 0} (f : A → Option B) (xs : List A) (x : A) → filter_map f (xs ++ (x ∷ [])) ≡ filter_map f xs ++ cons_option (f x) []
appended f [] x = refl
appended f (y ∷ xs) x = ap (cons_option (f y)) (appended f xs x) ∙ cons_more (f y) (filter_map f xs) (cons_option (f x) [])

pub where_ok : {A E : Type 0} (P Q : A → Type 0) → ((a : A) → P a → Q a) → (r : Result A E) → IfOk r P → IfOk r Q
where_ok P Q f (Ok a) h = f a h
where_ok P Q f (Err e) h = h

pub more_meant : {A B : Type 0} (f : A → Option B) (xs : List A) (i : ℕ) (d : A) (before after : List B) → i < length xs →
    before ≡ filter_map f (take i xs) → after ≡ before ++ cons_option (f (get_or xs i d)) [] → after ≡ filter_map f (take (i + 1) xs)
more_meant {A} {B} f xs i d before after within is so =
    so ∙ ap (λ (l : List B). l ++ cons_option (f (get_or xs i d)) []) is
    ∙ sym (ap (filter_map f) (take_more xs i d within) ∙ appended f (take i xs) (get_or xs i d))
