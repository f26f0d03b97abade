-- The numbers of a set-up's calls, from 1 on, and what is said of the call with a number.
pub use Rattle.command_check.specs.Numbers.{call_number_at, client_numbers, client_numbers_of, expectation_of, numbers_in, view_numbered}
use Rattle.std.specs.Prelude.{codes, ℕ, ◌+◌, ◌==◌, ◌&&◌, Bool, true, cond, List, [], ◌∷◌, ◌++◌, length, count_by}
use Rattle.std.specs.List.{flat_map}
use Rattle.std.specs.Fmt.{decimal}

-- the numbers of an order's calls behind others
abbrev pub order_numbers : List (List ℕ) → List ℕ → List ℕ → List ℕ
order_numbers numbers made [] = []
order_numbers numbers made (client ∷ order) = call_number_at numbers client (count_by (λ c. c == client) made) ∷ order_numbers numbers (made ++ client ∷ []) order

-- whether numbers count up by one, from this one on
abbrev pub count_up : ℕ → List ℕ → Bool
count_up number [] = true
count_up number (n ∷ numbers) = (n == number) && count_up (number + 1) numbers

-- numbers, each after a space
abbrev pub numbers_text : List ℕ → List ℕ
numbers_text numbers = flat_map (λ n. codes " " ++ decimal n) numbers

-- an order by the numbers of its calls: if these are the first calls of the set-up, in its own order, only by the last one
abbrev pub order_text : List ℕ → List ℕ → List ℕ
order_text by numbers = cond (count_up 1 numbers) (codes " in order to " ++ decimal (length numbers)) (codes " " ++ (by ++ numbers_text numbers))
