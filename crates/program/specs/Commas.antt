-- The words of a text between its commas.
use Rattle.std.specs.Prelude.{◌==◌, ℕ, List, [], Option, Some, None}
use Rattle.std.specs.List.{slice_split}

-- none, if there is no text
abbrev pub words_in : Option (List ℕ) → List (List ℕ)
words_in None = []
words_in (Some text) = slice_split (λ c. c == 44) text
