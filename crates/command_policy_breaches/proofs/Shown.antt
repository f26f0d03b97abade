-- What is found of items as they are shown.
use Rattle.std.proofs.Common.{◌≡◌, List, [], ◌∷◌, Option, map, refl, ap}
use Rattle.std.specs.List.{cons_option, filter_map}

-- what is found of items as they are shown is what is found of the items
pub found_as_shown : {A B C : Type 0} (f : B → Option C) (g : A → B) (xs : List A) → filter_map f (map g xs) ≡ filter_map (λ x. f (g x)) xs
found_as_shown f g [] = refl
found_as_shown f g (x ∷ xs) = ap (λ l. cons_option (f (g x)) l) (found_as_shown f g xs)
