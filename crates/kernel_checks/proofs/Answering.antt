-- What is answered for a chain of checks.
use Rattle.std.proofs.Common.{◌≡◌, Result, Ok, Err, refl}
use Rattle.cap_core.specs.Checks.{◌>>=◌}
use Rattle.kernel_abstract.specs.declared.reason.Reason.{Reason}
use Rattle.kernel_abstract.specs.Reasons.{answering}

-- it is that of the first check that fails
pub answering_then : {X Y E : Type 0} (f : Reason → E) (m : Result X Reason) (k : X → Result Y Reason) →
    answering f (m >>= k) ≡ answering f m >>= (λ x. answering f (k x))
answering_then f (Ok x) k = refl
answering_then f (Err reason) k = refl

-- a result is not both
pub not_both : {X E : Type 0} (r : Result X E) (x : X) (e : E) → r ≡ Ok x → r ≡ Err e → ⊥
not_both (Ok y) x e h k = cc
not_both (Err d) x e h k = cc
