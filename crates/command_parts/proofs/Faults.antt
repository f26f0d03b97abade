-- A fault that is handed on.
use Rattle.std.proofs.Common.{Result, Ok, Err}
use Rattle.std.specs.Result.{IfErr, IsErrAnd}

pub err_of : {X E : Type 0} (r : Result X E) (P Q : E → Type 0) → ((e : E) → Q e → P e) → IsErrAnd r Q → IfErr r P
err_of (Ok x) P Q f h = tt
err_of (Err e) P Q f h = f e h
