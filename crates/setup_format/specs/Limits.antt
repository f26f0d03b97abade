-- The bounds of a set-up, and its formats: this project's profile.
use Rattle.std.specs.Prelude.{ℕ}

-- the first format, which has no names
abbrev pub first_format : ℕ
first_format = 1

-- the newest format
abbrev pub newest_format : ℕ
newest_format = 2

-- the calls of a set-up
abbrev pub max_calls : ℕ
max_calls = 65536

-- the bytes of a key that the line of a refusal shows
abbrev pub max_shown_key_bytes : ℕ
max_shown_key_bytes = 40
