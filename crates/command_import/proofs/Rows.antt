-- Tests of the full slots of a state, as a kernel lists them.
use Rattle.std.proofs.Common.{◌≡◌, Bool, ◌&&◌, ◌||◌, List, [], ◌∷◌, map, refl, ap}
use Rattle.std.specs.List.{list_any, list_all}

-- a test of what is seen of the elements
pub any_seen : {X Y : Type 0} (p : X → Bool) (h : Y → X) (ys : List Y) → list_any (λ y. p (h y)) ys ≡ list_any p (map h ys)
any_seen p h [] = refl
any_seen p h (y ∷ ys) = ap (λ (b : Bool). p (h y) || b) (any_seen p h ys)

pub all_seen : {X Y : Type 0} (p : X → Bool) (h : Y → X) (ys : List Y) → list_all (λ y. p (h y)) ys ≡ list_all p (map h ys)
all_seen p h [] = refl
all_seen p h (y ∷ ys) = ap (λ (b : Bool). p (h y) && b) (all_seen p h ys)
