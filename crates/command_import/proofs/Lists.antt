-- What holds of each element of a list.
use Rattle.std.proofs.Common.{◌≡◌, ℕ, List, [], ◌∷◌, ◌++◌, Some, All, subst}
use Rattle.std.specs.Prelude.{slice_get}
use Rattle.std.specs.List.{AllByRecursion as Each, flat_map}
use Rattle.std.proofs.lemmas.List.Elements.{All-get_or}
use Rattle.std.proofs.lemmas.Option.{get_or_from_slice_get, slice_get_within}

pub each_both : {X : Type 0} (P : X → Type 0) (xs ys : List X) → Each P xs → Each P ys → Each P (xs ++ ys)
each_both P [] ys h k = k
each_both P (x ∷ xs) ys h k = (h.0, each_both P xs ys h.1 k)

-- of what is made of each of those
pub each_where : {X Y : Type 0} (Q : X → Type 0) (P : Y → Type 0) (f : X → List Y) → ((x : X) → Q x → Each P (f x)) → (xs : List X) → Each Q xs → Each P (flat_map f xs)
each_where Q P f h [] k = tt
each_where Q P f h (x ∷ xs) k = each_both P (f x) (flat_map f xs) (h x k.0) (each_where Q P f h xs k.1)

pub each_in : {X Y : Type 0} (P : Y → Type 0) (f : X → List Y) → ((x : X) → Each P (f x)) → (xs : List X) → Each P (flat_map f xs)
each_in P f h [] = tt
each_in P f h (x ∷ xs) = each_both P (f x) (flat_map f xs) (h x) (each_in P f h xs)

pub found : {X : Type 0} (P : X → Type 0) (xs : List X) (n : ℕ) (x : X) → All P xs → slice_get xs n ≡ Some x → P x
found P xs n x h e = subst P (get_or_from_slice_get xs n x x e) (All-get_or P xs n x (slice_get_within xs n x e) h)
