-- What holds of a result where it is one.
use Rattle.std.proofs.Common.{Result, Ok, Err, IfOk}

pub where_ok : {A E : Type 0} (P Q : A → Type 0) → ((a : A) → P a → Q a) → (r : Result A E) → IfOk r P → IfOk r Q
where_ok P Q f (Ok a) p = f a p
where_ok P Q f (Err e) p = tt
