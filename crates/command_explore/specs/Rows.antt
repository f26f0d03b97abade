-- The answers of each call.
use Rattle.std.specs.Prelude.{◌≡◌, ℕ, List, [], ◌++◌, filter, Option, None, Some, IfSome, slice_get}
use Rattle.std.specs.Global.{Vec}
use Rattle.query_orders.specs.Answers.{Answered}
use Rattle.query_orders.specs.declared.exploring.found.FoundAnswer.{FoundAnswer}
use Rattle.query_orders.specs.Found.{answers_of}
use Rattle.command_explore.specs.Text.{is_answer_of}

-- rows with nothing in them
abbrev pub AreEmptyRows : List (Vec FoundAnswer) → Type 0
AreEmptyRows rows = (n : ℕ) → IfSome (slice_get rows n) (λ (row : Vec FoundAnswer). row.items ≡ [])

-- the row with a number has the answers of the call that has it
abbrev pub AreRows : List (List ℕ) → List Answered → List (Vec FoundAnswer) → Type 0
AreRows numbers answers rows = (n : ℕ) → IfSome (slice_get rows n) (λ (row : Vec FoundAnswer). answers_of row.items ≡ filter (is_answer_of numbers n) answers)

-- where there is a row, it was there before, with these answers less
abbrev pub HasMore : Option (Vec FoundAnswer) → Option (Vec FoundAnswer) → List Answered → Type 0
HasMore before None more = Unit {0}
HasMore None (Some row) more = ⊥
HasMore (Some row) (Some row') more = answers_of row'.items ≡ answers_of row.items ++ more
