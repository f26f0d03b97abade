-- Members of mapped lists.
use Rattle.std.proofs.Common.{◌≡◌, Bool, true, false, ◌&&◌, List, [], ◌∷◌, map, inl, inr, refl, ap}
use Rattle.kernel_delete.specs.Members.{In}

pub in_mapped : {A B : Type 0} (w : A → B) (a : A) (l : List A) → In a l → In (w a) (map w l)
in_mapped w a [] i = i
in_mapped w a (x ∷ l) (inl same) = inl (ap w same)
in_mapped w a (x ∷ l) (inr more) = inr (in_mapped w a l more)

pub from_mapped : {A B : Type 0} (w : A → B) (l : List A) (b : B) → In b (map w l) → (a : A) × (In a l × (b ≡ w a))
from_mapped w [] b i = absurd i
from_mapped w (x ∷ l) b (inl same) = (x, (inl refl, same))
from_mapped w (x ∷ l) b (inr more) = let g = from_mapped w l b more in (g.0, (inr g.1.0, g.1.1))

pub and_true : (b c : Bool) → b ≡ true → c ≡ true → b && c ≡ true
and_true true c h k = k
and_true false c h k = h
