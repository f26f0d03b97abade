-- The bounds of values: this project's profile.
use Rattle.std.specs.Prelude.{ℕ}

-- the bytes of an expectation
abbrev pub max_expect_bytes : ℕ
max_expect_bytes = 120

-- the bytes of a name
abbrev pub max_name_bytes : ℕ
max_name_bytes = 40
