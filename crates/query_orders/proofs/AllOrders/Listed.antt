-- Where the elements of lists come from that are made of others.
use Rattle.std.proofs.Common.{◌≡◌, Bool, true, List, [], ◌∷◌, ◌++◌, map, filter, refl, ap, sym, ◌∙◌}
use Rattle.std.specs.List.{Contains, flat_map}
use Rattle.std.proofs.lemmas.List.{map-append}
use Rattle.std.proofs.lemmas.List.Concat.{flat_map-cons}
use Rattle.query_orders.proofs.Contained.{each-contained, each-flat_map}
use Rattle.query_orders.proofs.Apart.Lists.{each_filter, each_passes}
use Rattle.query_orders.proofs.Apart.Contents.{each_contained}

pub passed : {X : Type 0} (t : X → Bool) (xs : List X) (x : X) → Contains (filter t xs) x → Contains xs x × (t x ≡ true)
passed t xs x h = (
  each-contained (Contains xs) (filter t xs) x (each_filter (Contains xs) t xs (each_contained (Contains xs) xs (λ y c. c))) h,
  each-contained (λ y. t y ≡ true) (filter t xs) x (each_passes t xs) h,
)

pub given : {X Y : Type 0} (f : X → List Y) (xs : List X) (y : Y) → Contains (flat_map f xs) y → (x : X) × Contains xs x × Contains (f x) y
given {X} {Y} f xs y h =
    let From = λ (z : Y). (x : X) × Contains xs x × Contains (f x) z in
    each-contained From (flat_map f xs) y
    (each-flat_map (Contains xs) From f (λ x c. each_contained From (f x) (λ z d. (x, c, d))) xs (each_contained (Contains xs) xs (λ x c. c))) h

pub map-again : {X Y Z : Type 0} (g : Y → Z) (f : X → Y) (xs : List X) → map g (map f xs) ≡ map (λ x. g (f x)) xs
map-again g f [] = refl
map-again {X} {Y} {Z} g f (x ∷ xs) = ap (λ (l : List Z). g (f x) ∷ l) (map-again g f xs)

pub map-flat_map : {X Y Z : Type 0} (g : Y → Z) (f : X → List Y) (h : X → List Z) → ((x : X) → map g (f x) ≡ h x) → (xs : List X) → map g (flat_map f xs) ≡ flat_map h xs
map-flat_map g f h same [] = refl
map-flat_map {X} {Y} {Z} g f h same (x ∷ xs) =
    ap (map g) (flat_map-cons f x xs) ∙ map-append g (f x) (flat_map f xs) ∙ ap (λ (l : List Z). l ++ map g (flat_map f xs)) (same x)
    ∙ ap (λ (l : List Z). h x ++ l) (map-flat_map g f h same xs) ∙ sym (flat_map-cons h x xs)
