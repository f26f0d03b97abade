-- Texts with a mark in them, as they stand after options.
use Rattle.std.specs.Prelude.{◌==◌, ℕ, List}
use Rattle.std.specs.List.{before_first, after_first}

-- the texts before and after the first mark; without one, the whole text and none
abbrev pub before_mark : ℕ → List ℕ → List ℕ
before_mark mark text = before_first (λ c. c == mark) text

abbrev pub behind_mark : ℕ → List ℕ → List ℕ
behind_mark mark text = after_first (λ c. c == mark) text
