-- Readings of which one comes after another.
use Rattle.std.proofs.Common.{◌≡◌, Result, Ok, Err, refl}
use Rattle.cap_core.specs.Checks.{◌>>=◌}

-- a fault is no answer
pub no_answer : {A E Y : Type 0} (e : E) (x : A) → ◌≡◌ {A = Result A E} (Err e) (Ok x) → Y
no_answer e x h = absurd (cc)

-- where one reading after another gives something, the first one does, and then the second
pub parts : {A B E : Type 0} (r : Result A E) (f : A → Result B E) (y : B) → (r >>= f) ≡ Ok y → (x : A) × (r ≡ Ok x) × (f x ≡ Ok y)
parts (Ok x) f y e = (x, refl, e)
parts (Err wrong) f y e = no_answer wrong y e
