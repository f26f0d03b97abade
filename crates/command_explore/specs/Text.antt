-- What is told of calls and of ends over all orders. Threads and endpoints stand as `texts` tells them.
use Rattle.std.specs.Prelude.{codes, ℕ, ◌+◌, ◌-◌, ◌^◌, ◌==◌, ◌&&◌, ◌||◌, not, Bool, true, false, cond, List, [], ◌∷◌, ◌++◌, Option, None, Some, is_some}
use Rattle.std.specs.List.{flat_map, list_any}
use Rattle.std.specs.Fmt.{decimal}
use Rattle.kernel_abstract.specs.declared.call.Call.{Call}
use Rattle.kernel_abstract.specs.declared.call.Reply.{Reply}
use Rattle.kernel_abstract.specs.declared.call.ThreadState.{ThreadState}
use Rattle.setup_format.specs.Views.{CallView}
use Rattle.setup_values.specs.Operations.{op_text}
use Rattle.setup_format.specs.Operations.{op_name}
use Rattle.setup_report.specs.declared.objects.Object.{Object}
use Rattle.setup_report.specs.Naming.{Texts, plain}
use Rattle.setup_report.specs.Text.{reply_told, reply_text, state_text, begins_as}
use Rattle.setup_report.specs.Report.{terminated}
use Rattle.query_orders.specs.declared.answer.Answer.{Answer}
use Rattle.query_orders.specs.declared.answer.Answer.TheVariants.{Replied, Served, Cancelled, Waits, NotMade}
use Rattle.query_orders.specs.declared.left.LeftCall.{LeftCall}
use Rattle.query_orders.specs.Answers.{Answered}
use Rattle.query_orders.specs.Ends.{StuckEnd}
use Rattle.command_explore.specs.Numbers.{call_number_at, order_numbers, order_text}

-- ---- answers

-- what a call comes to, as text
abbrev pub call_answer_text : Texts → Answer → List ℕ
call_answer_text texts (Replied reply) = reply_told texts reply
call_answer_text texts (Served reply) = codes "waiting then " ++ reply_told texts reply
call_answer_text texts Cancelled = codes "waiting then cancelled"
call_answer_text texts Waits = codes "waiting"
call_answer_text texts NotMade = codes "not made"

abbrev pub reply_meets : List ℕ → Reply → Bool
reply_meets expected reply = begins_as (reply_text reply) expected

-- whether an answer meets an expectation: by its text, or, where the call waited, by what the wait came to; either by addresses
abbrev pub meets_expectation : List ℕ → Answer → Bool
meets_expectation expected (Replied reply) = reply_meets expected reply
meets_expectation expected (Served reply) = begins_as (call_answer_text plain (Served reply)) expected || reply_meets expected reply
meets_expectation expected Cancelled = begins_as (call_answer_text plain Cancelled) expected || begins_as (codes "cancelled") expected
meets_expectation expected Waits = begins_as (codes "waiting") expected
meets_expectation expected NotMade = begins_as (codes "not made") expected

abbrev pub misses : Option (List ℕ) → Answer → Bool
misses None answer = false
misses (Some expected) answer = not (meets_expectation expected answer)

-- whether an answer is one of the call with this number
abbrev pub is_answer_of : List (List ℕ) → ℕ → Answered → Bool
is_answer_of numbers number a = call_number_at numbers a.client a.place == number

-- the order with an answer, where it does not meet the expectation
abbrev pub unmet_order_text : List (List ℕ) → Bool → List ℕ → List ℕ
unmet_order_text numbers false order = []
unmet_order_text numbers true order = codes " [not met]" ++ order_text (codes "by") (order_numbers numbers [] order)

abbrev pub call_answer_line : Texts → List (List ℕ) → ℕ → ℕ → Option (List ℕ) → Answered → List ℕ
call_answer_line texts numbers number place expected a =
    codes "  " ++ (decimal number ++ (codes "." ++ (decimal place ++ (codes " " ++ (call_answer_text texts a.answer ++ (unmet_order_text numbers (misses expected a.answer) a.order ++ codes "\n"))))))

-- a line for each answer of a call, with its place among them, from this one on
abbrev pub answer_lines : Texts → List (List ℕ) → ℕ → ℕ → Option (List ℕ) → List Answered → List ℕ
answer_lines texts numbers number place expected [] = []
answer_lines texts numbers number place expected (a ∷ answers) =
    cond (is_answer_of numbers number a) (call_answer_line texts numbers number place expected a ++ answer_lines texts numbers number (place + 1) expected answers) (answer_lines texts numbers number place expected answers)

-- ---- expectations

abbrev pub some_met : List (List ℕ) → ℕ → List ℕ → List Answered → Bool
some_met numbers number expected answers = list_any (λ (a : Answered). is_answer_of numbers number a && meets_expectation expected a.answer) answers

abbrev pub some_missed : List (List ℕ) → ℕ → List ℕ → List Answered → Bool
some_missed numbers number expected answers = list_any (λ (a : Answered). is_answer_of numbers number a && not (meets_expectation expected a.answer)) answers

-- what is said of an expectation, by whether all orders are explored, and whether some answer meets it and some does not
abbrev pub orders_mark_text : Bool → Bool → Bool → List ℕ → List ℕ
orders_mark_text true true false expected = codes " [met]"
orders_mark_text false true false expected = codes " [met so far]"
orders_mark_text whole true true expected = codes " [met in some orders: " ++ (expected ++ codes "]")
orders_mark_text true false true expected = codes " [met in no order: " ++ (expected ++ codes "]")
orders_mark_text false false true expected = codes " [met in no order so far: " ++ (expected ++ codes "]")
orders_mark_text whole false false expected = codes " [not made so far: " ++ (expected ++ codes "]")

abbrev pub expected_in_orders : List (List ℕ) → ℕ → Option (List ℕ) → Bool → List Answered → List ℕ
expected_in_orders numbers number None whole answers = []
expected_in_orders numbers number (Some expected) whole answers =
    orders_mark_text whole (some_met numbers number expected answers) (some_missed numbers number expected answers) expected

-- an expectation is met in every order where all are explored, and each answer meets it
abbrev pub met_one : List (List ℕ) → ℕ → Option (List ℕ) → Bool → List Answered → ℕ
met_one numbers number None whole answers = 0
met_one numbers number (Some expected) whole answers =
    cond (whole && some_met numbers number expected answers && not (some_missed numbers number expected answers)) 1 0

abbrev pub expected_one : Option (List ℕ) → ℕ
expected_one expected = cond (is_some expected) 1 0

abbrev pub met_in_orders : List (List ℕ) → ℕ → Bool → List Answered → List CallView → ℕ
met_in_orders numbers number whole answers [] = 0
met_in_orders numbers number whole answers (call ∷ calls) = met_one numbers number call.expect whole answers + met_in_orders numbers (number + 1) whole answers calls

abbrev pub expectations_of_calls : List CallView → ℕ
expectations_of_calls [] = 0
expectations_of_calls (call ∷ calls) = expected_one call.expect + expectations_of_calls calls

-- ---- calls

abbrev pub call_head : Texts → ℕ → ℕ → Call → List ℕ
call_head texts number client call =
    decimal number ++ (codes " client " ++ (decimal client ++ (codes ": " ++ (texts.object (Object.Thread call.thread) ++ (codes " " ++ op_text (op_name call.op))))))

-- a call with all that it comes to
abbrev pub call_block : Texts → List (List ℕ) → ℕ → Bool → List Answered → CallView → List ℕ
call_block texts numbers number whole answers call =
    call_head texts number call.client call.call
    ++ (expected_in_orders numbers number call.expect whole answers ++ (codes "\n" ++ answer_lines texts numbers number 1 call.expect answers))

abbrev pub call_blocks : Texts → List (List ℕ) → ℕ → Bool → List Answered → List CallView → List ℕ
call_blocks texts numbers number whole answers [] = []
call_blocks texts numbers number whole answers (call ∷ calls) =
    call_block texts numbers number whole answers call ++ call_blocks texts numbers (number + 1) whole answers calls

-- ---- ends

abbrev pub reason_text : Texts → Option ThreadState → List ℕ
reason_text texts None = codes "gone"
reason_text texts (Some state) = state_text texts state

abbrev pub left_line : Texts → List (List ℕ) → LeftCall → List ℕ
left_line texts numbers call =
    terminated (codes "  " ++ (decimal (call_number_at numbers call.client call.place) ++ (codes " " ++ (texts.object (Object.Thread call.thread) ++ (codes " " ++ reason_text texts call.state)))))

abbrev pub stuck_block : Texts → List (List ℕ) → ℕ → StuckEnd → List ℕ
stuck_block texts numbers place s =
    codes "stuck." ++ (decimal place ++ (order_text (codes "by") (order_numbers numbers [] s.order) ++ (codes "\n" ++ flat_map (left_line texts numbers) s.left)))

abbrev pub stuck_blocks : Texts → List (List ℕ) → ℕ → List StuckEnd → List ℕ
stuck_blocks texts numbers place [] = []
stuck_blocks texts numbers place (s ∷ stuck) = stuck_block texts numbers place s ++ stuck_blocks texts numbers (place + 1) stuck

-- a count that goes up to 2^64 - 1
abbrev pub capped_count_text : ℕ → List ℕ
capped_count_text n = decimal n ++ cond (n == 2 ^ 64 - 1) (codes " or more") []
