-- How much an engine reads: this project's profile.
use Rattle.std.specs.Prelude.{ℕ}

-- the number of bytes that an input has to stay below
abbrev pub input_limit : ℕ
input_limit = 67108864
