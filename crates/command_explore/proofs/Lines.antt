-- The lines of calls, from the front.
use Rattle.std.proofs.Common.{◌≡◌, ℕ, ◌+◌, ◌≤◌, codes, Bool, true, false, cond, List, ◌++◌, drop, Option, None, Some, sym, ap, ◌∙◌, append_assoc, add-one, arith}
use Rattle.kernel_abstract.specs.declared.call.Call.{Call}
use Rattle.setup_format.specs.Views.{CallView}
use Rattle.setup_report.specs.Naming.{Texts}
use Rattle.query_orders.specs.Answers.{Answered}
use Rattle.command_explore.specs.Text.{call_head, expected_in_orders, answer_lines, call_block, call_blocks, met_one, expected_one, met_in_orders, expectations_of_calls}
use Rattle.command_explore.proofs.Places.{IsAt}

module _ (numbers : List (List ℕ)) (whole : Bool) (answers : List Answered) (calls : List CallView) (i : ℕ) (a : IsAt calls i) where
  pub blocks_added : (texts : Texts) (total before after : List ℕ) → before ++ call_blocks texts numbers (i + 1) whole answers (drop i calls) ≡ total → after ≡ before ++ call_block texts numbers (i + 1) whole answers a.view →
      after ++ call_blocks texts numbers (i + 1 + 1) whole answers (drop (i + 1) calls) ≡ total
  blocks_added texts total before after so now =
      let block = call_block texts numbers (i + 1) whole answers a.view in
      ap (λ t. t ++ call_blocks texts numbers (i + 1 + 1) whole answers (drop (i + 1) calls)) now
      ∙ append_assoc before block (call_blocks texts numbers (i + 1 + 1) whole answers (drop (i + 1) calls))
      ∙ ap (λ n. before ++ (block ++ call_blocks texts numbers (i + 1 + 1) whole answers (drop n calls))) (add-one i)
      ∙ ap (λ l. before ++ call_blocks texts numbers (i + 1) whole answers l) (sym a.there)
      ∙ so

  pub met_added : (total met one : ℕ) → met + met_in_orders numbers (i + 1) whole answers (drop i calls) ≡ total → one ≡ met_one numbers (i + 1) (a.view).expect whole answers →
      (met + one) + met_in_orders numbers (i + 1 + 1) whole answers (drop (i + 1) calls) ≡ total
  met_added total met one so now =
      let here : met_in_orders numbers (i + 1) whole answers (drop i calls) ≡ met_one numbers (i + 1) (a.view).expect whole answers + met_in_orders numbers (i + 1 + 1) whole answers (drop (i + 1) calls) =
      ap (met_in_orders numbers (i + 1) whole answers) a.there ∙ ap (λ n. met_one numbers (i + 1) (a.view).expect whole answers + met_in_orders numbers (i + 1 + 1) whole answers (drop n calls)) (sym (add-one i)) in
      omega arith

  pub expected_added : (total expected one : ℕ) → expected + expectations_of_calls (drop i calls) ≡ total → one ≡ expected_one (a.view).expect → (expected + one) + expectations_of_calls (drop (i + 1) calls) ≡ total
  expected_added total expected one so now =
      let here : expectations_of_calls (drop i calls) ≡ expected_one (a.view).expect + expectations_of_calls (drop (i + 1) calls) =
      ap expectations_of_calls a.there ∙ ap (λ n. expected_one (a.view).expect + expectations_of_calls (drop n calls)) (sym (add-one i)) in
      omega arith

at_most_one : (b : Bool) → cond b 1 0 ≤ 1
at_most_one true = omega arith
at_most_one false = omega arith

pub one_met-le : (numbers : List (List ℕ)) (number : ℕ) (expected : Option (List ℕ)) (whole : Bool) (answers : List Answered) → met_one numbers number expected whole answers ≤ 1
one_met-le numbers number None whole answers = omega arith
one_met-le numbers number (Some expected) whole answers = at_most_one _

pub one_expected-le : (expected : Option (List ℕ)) → expected_one expected ≤ 1
one_expected-le None = omega arith
one_expected-le (Some expected) = omega arith

pub within_more : (m i one one' : ℕ) → m ≤ i → one ≡ one' → one' ≤ 1 → m + one ≤ i + 1
within_more m i one one' le is small = omega arith

-- the block of a call, written in four parts
pub block_written : (texts : Texts) (numbers : List (List ℕ)) (whole : Bool) (answers : List Answered) (number : ℕ) (v call : CallView) → v ≡ call → (client : ℕ) (made : Call) (expected : Option (List ℕ)) (out out1 out2 out3 out4 : List ℕ) →
    v.client ≡ client → made ≡ v.call → v.expect ≡ expected → out1 ≡ out ++ call_head texts number client made → out2 ≡ out1 ++ expected_in_orders numbers number expected whole answers → out3 ≡ out2 ++ codes "\n" → out4 ≡ out3 ++ answer_lines texts numbers number 1 expected answers →
    out4 ≡ out ++ call_block texts numbers number whole answers call
block_written texts numbers whole answers number v call same client made expected out out1 out2 out3 out4 is_client is_made is_expected w1 w2 w3 w4 =
    let head = call_head texts number client made in
    let mark = expected_in_orders numbers number expected whole answers in
    let lines = answer_lines texts numbers number 1 expected answers in
    w4 ∙ ap (λ l. l ++ lines) (w3 ∙ ap (λ l. l ++ codes "\n") (w2 ∙ ap (λ l. l ++ mark) w1))
    ∙ append_assoc ((out ++ head) ++ mark) (codes "\n") lines ∙ append_assoc (out ++ head) mark (codes "\n" ++ lines) ∙ append_assoc out head (mark ++ (codes "\n" ++ lines))
    ∙ ap (λ (n : ℕ). out ++ (call_head texts number n made ++ (mark ++ (codes "\n" ++ lines)))) (sym is_client)
    ∙ ap (λ (k : Call). out ++ (call_head texts number v.client k ++ (mark ++ (codes "\n" ++ lines)))) is_made
    ∙ ap (λ (o : Option (List ℕ)). out ++ (call_head texts number v.client v.call ++ (expected_in_orders numbers number o whole answers ++ (codes "\n" ++ answer_lines texts numbers number 1 o answers)))) (sym is_expected)
    ∙ ap (λ (k : CallView). out ++ call_block texts numbers number whole answers k) same
