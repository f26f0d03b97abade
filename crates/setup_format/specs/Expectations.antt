-- What is expected of the reply to a call.
use Rattle.std.specs.Prelude.{ℕ, ◌==◌, List, [], ◌∷◌, Bool, false}

-- an expectation that begins with a question mark (63) asks
abbrev pub asks : List ℕ → Bool
asks [] = false
asks (c ∷ expected) = c == 63
