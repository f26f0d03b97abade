-- Whether any element of a list is as wanted, and which are, of a list of what is seen of them.
use Rattle.std.proofs.Common.{◌≡◌, Bool, true, false, cond, ◌||◌, List, [], ◌∷◌, map, filter, refl, ap}
use Rattle.std.specs.List.{list_any}

pub any_seen : {A B : Type 0} (f : A → B) (p : B → Bool) (xs : List A) → list_any p (map f xs) ≡ list_any (λ x. p (f x)) xs
any_seen f p [] = refl
any_seen f p (x ∷ xs) = ap (λ (b : Bool). p (f x) || b) (any_seen f p xs)

pub filter_seen : {A B : Type 0} (f : A → B) (q : B → Bool) (xs : List A) → map f (filter (λ x. q (f x)) xs) ≡ filter q (map f xs)
filter_seen f q [] = refl
filter_seen f q (x ∷ xs) =
    elim (q (f x)) as (λ b. map f (cond b (x ∷ filter (λ y. q (f y)) xs) (filter (λ y. q (f y)) xs)) ≡ cond b (f x ∷ filter q (map f xs)) (filter q (map f xs))) [
      | true ↦ ap (λ l. f x ∷ l) (filter_seen f q xs)
      | false ↦ filter_seen f q xs
    ]
