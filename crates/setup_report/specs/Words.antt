-- The number that a word gives.
use Rattle.std.specs.Prelude.{ℕ, ◌+◌, ◌-◌, ◌*◌, ◌^◌, ◌==◌, nat_lt, cond, List, [], ◌∷◌, Option, Some, None, option_and_then}
use Rattle.setup_values.specs.Names.{Names, word_named}
use Rattle.setup_values.specs.Kinds.{between}

abbrev pub decimal_digit : ℕ → Option ℕ
decimal_digit c = cond (between 48 57 c) (Some (c - 48)) None

-- the number of decimal digits, after those that stand for the first number; None from 19 digits on
abbrev pub number_after : ℕ → List ℕ → Option ℕ
number_after n [] = Some n
number_after n (c ∷ cs) = cond (nat_lt n (10 ^ 18)) (option_and_then (λ d. number_after (10 * n + d) cs) (decimal_digit c)) None

abbrev pub or_named : Names → List ℕ → Option ℕ → Option ℕ
or_named names text None = word_named names text
or_named names text (Some n) = Some n

-- decimal digits, or a name of the set-up, also after a `@`, which is 64
abbrev pub number_meant : Names → List ℕ → Option ℕ
number_meant names [] = None
number_meant names (c ∷ cs) = cond (c == 64) (word_named names cs) (or_named names (c ∷ cs) (number_after 0 (c ∷ cs)))
