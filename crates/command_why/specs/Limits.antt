-- How much a reason lists; the project's own choice.
use Rattle.std.specs.Prelude.{ℕ}

-- the live threads that are written
abbrev pub threads_told : ℕ
threads_told = 8
