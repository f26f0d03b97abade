-- A chain of checks, one after another: the first that fails is the answer.
use Rattle.std.specs.Prelude.{Result, Ok, Err}

-- what passed a check, and the next check of it
infixl 10 ◌>>=◌
abbrev pub ◌>>=◌ : {X Y E : Type 0} → Result X E → (X → Result Y E) → Result Y E
(Ok x) >>= next = next x
(Err e) >>= next = Err e
