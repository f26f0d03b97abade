-- The answers of a call tell all that is told of it.
use Rattle.std.proofs.Common.{◌≡◌, ℕ, ◌+◌, ◌==◌, ◌&&◌, ◌||◌, not, Bool, true, false, cond, List, [], ◌∷◌, ◌++◌, filter, zero, suc, codes, Option, None, Some, IfSome, slice_get, refl, ap, sym, subst, ◌∙◌}
use Rattle.std.proofs.lemmas.Bool.{eqb-true, eqb-false}
use Rattle.std.proofs.lemmas.List.{append-nil}
use Rattle.std.specs.List.{list_any}
use Rattle.std.specs.Global.{Vec}
use Rattle.std.specs.Prelude.{slice_set}
use Rattle.setup_format.specs.Views.{CallView}
use Rattle.setup_report.specs.Naming.{Texts}
use Rattle.query_orders.specs.Answers.{Answered}
use Rattle.query_orders.specs.declared.exploring.found.FoundAnswer.{FoundAnswer}
use Rattle.query_orders.specs.Found.{answers_of}
use Rattle.command_explore.specs.Text.{is_answer_of, meets_expectation, call_answer_line, answer_lines, some_met, some_missed, orders_mark_text, expected_in_orders, met_one, call_head, call_block}
use Rattle.command_explore.specs.Rows.{AreEmptyRows, HasMore}

-- what holds of what is there
pub if_some : {X : Type 0} (o : Option X) {P Q : X → Type 0} → IfSome o P → ((x : X) → P x → Q x) → IfSome o Q
if_some None h f = tt
if_some (Some x) h f = f x h

-- ---- rows with nothing in them

each_pushed : {X : Type 0} (P : X → Type 0) (xs : List X) (x : X) → ((n : ℕ) → IfSome (slice_get xs n) P) → P x → (n : ℕ) → IfSome (slice_get (xs ++ x ∷ []) n) P
each_pushed P [] x all one zero = one
each_pushed P [] x all one (suc n) = tt
each_pushed P (y ∷ xs) x all one zero = all zero
each_pushed P (y ∷ xs) x all one (suc n) = each_pushed P xs x (λ k. all (suc k)) one n

pub empty_none : (rows : List (Vec FoundAnswer)) → rows ≡ [] → AreEmptyRows rows
empty_none rows none = subst AreEmptyRows (sym none) (λ n. tt)

pub empty_more : (rows rows' : List (Vec FoundAnswer)) (row : Vec FoundAnswer) → AreEmptyRows rows → row.items ≡ [] → rows' ≡ rows ++ row ∷ [] → AreEmptyRows rows'
empty_more rows rows' row are none more = subst AreEmptyRows (sym more) (each_pushed (λ (r : Vec FoundAnswer). r.items ≡ []) rows row are none)

-- ---- one row written

pub set_same : {X : Type 0} (xs : List X) (i : ℕ) (x y : X) → slice_get xs i ≡ Some x → slice_get (slice_set xs i y) i ≡ Some y
set_same [] i x y h = cc
set_same (z ∷ xs) zero x y h = refl
set_same (z ∷ xs) (suc i) x y h = set_same xs i x y h

pub set_other : {X : Type 0} (xs : List X) (i j : ℕ) (y : X) → (i ≡ j → ⊥) → slice_get (slice_set xs i y) j ≡ slice_get xs j
set_other [] i j y other = refl
set_other (z ∷ xs) zero zero y other = absurd (other refl)
set_other (z ∷ xs) zero (suc j) y other = refl
set_other (z ∷ xs) (suc i) zero y other = refl
set_other (z ∷ xs) (suc i) (suc j) y other = set_other xs i j y (λ e. other (ap suc e))

no_more : (row : Option (Vec FoundAnswer)) → HasMore row row []
no_more None = tt
no_more (Some row) = sym (append-nil (answers_of row.items))

-- an answer comes to the row with a number
pub row_written : (rows rows' : List (Vec FoundAnswer)) (number : ℕ) (row row' : Vec FoundAnswer) (a : Answered) → slice_get rows number ≡ Some row → rows' ≡ slice_set rows number row' →
    answers_of row'.items ≡ answers_of row.items ++ a ∷ [] → (n : ℕ) → HasMore (slice_get rows n) (slice_get rows' n) (cond (number == n) (a ∷ []) [])
row_written rows rows' number row row' a is written more n =
    elim (number == n) as (λ b. (number == n) ≡ b → HasMore (slice_get rows n) (slice_get rows' n) (cond b (a ∷ []) [])) [
      | true ↦ λ h.
          (let at : number ≡ n = eqb-true number n h in
          let before : slice_get rows n ≡ Some row = ap (slice_get rows) (sym at) ∙ is in
          let after : slice_get rows' n ≡ Some row' = ap (slice_get rows') (sym at) ∙ ap (λ l. slice_get l number) written ∙ set_same rows number row row' is in
          subst (λ o. HasMore o (slice_get rows' n) (a ∷ [])) (sym before) (subst (λ o. HasMore (Some row) o (a ∷ [])) (sym after) more))
      | false ↦ λ h.
          (let after : slice_get rows' n ≡ slice_get rows n = ap (λ l. slice_get l n) written ∙ set_other rows number n row' (eqb-false number n h) in
          subst (λ o. HasMore (slice_get rows n) o []) (sym after) (no_more (slice_get rows n)))
    ] refl

-- it comes to no row where there is none
pub row_missing : (rows : List (Vec FoundAnswer)) (number : ℕ) (a : Answered) → slice_get rows number ≡ None → (n : ℕ) → HasMore (slice_get rows n) (slice_get rows n) (cond (number == n) (a ∷ []) [])
row_missing rows number a none n =
    elim (number == n) as (λ b. (number == n) ≡ b → HasMore (slice_get rows n) (slice_get rows n) (cond b (a ∷ []) [])) [
      | true ↦ λ h. (let before : slice_get rows n ≡ None = ap (slice_get rows) (sym (eqb-true number n h)) ∙ none in subst (λ o. HasMore o o (a ∷ [])) (sym before) tt)
      | false ↦ λ h. no_more (slice_get rows n)
    ] refl

-- ---- the answers of one call

pub twice : {X : Type 0} (p : X → Bool) (xs : List X) → filter p (filter p xs) ≡ filter p xs
twice p [] = refl
twice p (x ∷ xs) =
    elim (p x) as (λ b. p x ≡ b → filter p (cond b (x ∷ filter p xs) (filter p xs)) ≡ cond b (x ∷ filter p xs) (filter p xs)) [
      | true ↦ λ h. ap (λ b. cond b (x ∷ filter p (filter p xs)) (filter p (filter p xs))) h ∙ ap (λ l. x ∷ l) (twice p xs)
      | false ↦ λ h. twice p xs
    ] refl

module _ (numbers : List (List ℕ)) (number : ℕ) where
  abbrev own : List Answered → List Answered
  own answers = filter (is_answer_of numbers number) answers

  lines_alone : (texts : Texts) (place : ℕ) (expected : Option (List ℕ)) (answers : List Answered) → answer_lines texts numbers number place expected answers ≡ answer_lines texts numbers number place expected (own answers)
  lines_alone texts place expected [] = refl
  lines_alone texts place expected (a ∷ answers) =
      let line = call_answer_line texts numbers number place expected a in
      elim (is_answer_of numbers number a) as (λ b. is_answer_of numbers number a ≡ b →
      cond b (line ++ answer_lines texts numbers number (place + 1) expected answers) (answer_lines texts numbers number place expected answers) ≡ answer_lines texts numbers number place expected (cond b (a ∷ own answers) (own answers))) [
        | true ↦ λ h.
            ap (λ l. line ++ l) (lines_alone texts (place + 1) expected answers)
            ∙ sym (ap (λ b. cond b (line ++ answer_lines texts numbers number (place + 1) expected (own answers)) (answer_lines texts numbers number place expected (own answers))) h)
        | false ↦ λ h. lines_alone texts place expected answers
      ] refl

  any_alone : (t : Answered → Bool) (answers : List Answered) → list_any (λ (a : Answered). is_answer_of numbers number a && t a) answers ≡ list_any (λ (a : Answered). is_answer_of numbers number a && t a) (own answers)
  any_alone t [] = refl
  any_alone t (a ∷ answers) =
      let f = λ (x : Answered). is_answer_of numbers number x && t x in
      elim (is_answer_of numbers number a) as (λ b. is_answer_of numbers number a ≡ b → ((b && t a) || list_any f answers) ≡ list_any f (cond b (a ∷ own answers) (own answers))) [
        | true ↦ λ h. ap (λ r. t a || r) (any_alone t answers) ∙ sym (ap (λ b. (b && t a) || list_any f (own answers)) h)
        | false ↦ λ h. any_alone t answers
      ] refl

  -- two lists with the same answers of the call
  module _ (answers answers' : List Answered) (same : own answers ≡ own answers') where
    met_same : (expected : List ℕ) → some_met numbers number expected answers ≡ some_met numbers number expected answers'
    met_same expected =
        let t = λ (a : Answered). meets_expectation expected a.answer in
        any_alone t answers ∙ ap (list_any (λ (a : Answered). is_answer_of numbers number a && t a)) same ∙ sym (any_alone t answers')

    missed_same : (expected : List ℕ) → some_missed numbers number expected answers ≡ some_missed numbers number expected answers'
    missed_same expected =
        let t = λ (a : Answered). not (meets_expectation expected a.answer) in
        any_alone t answers ∙ ap (list_any (λ (a : Answered). is_answer_of numbers number a && t a)) same ∙ sym (any_alone t answers')

    expectation_same : (expected : Option (List ℕ)) (whole : Bool) → expected_in_orders numbers number expected whole answers ≡ expected_in_orders numbers number expected whole answers'
    expectation_same None whole = refl
    expectation_same (Some expected) whole =
        ap (λ b. orders_mark_text whole b (some_missed numbers number expected answers) expected) (met_same expected)
        ∙ ap (λ b. orders_mark_text whole (some_met numbers number expected answers') b expected) (missed_same expected)

    pub one_met_same : (expected : Option (List ℕ)) (whole : Bool) → met_one numbers number expected whole answers ≡ met_one numbers number expected whole answers'
    one_met_same None whole = refl
    one_met_same (Some expected) whole =
        ap (λ b. cond (whole && b && not (some_missed numbers number expected answers)) 1 0) (met_same expected)
        ∙ ap (λ b. cond (whole && some_met numbers number expected answers' && not b) 1 0) (missed_same expected)

    pub block_same : (texts : Texts) (whole : Bool) (call : CallView) → call_block texts numbers number whole answers call ≡ call_block texts numbers number whole answers' call
    block_same texts whole call =
        let head = call_head texts number call.client call.call in
        ap (λ l. head ++ (l ++ (codes "\n" ++ answer_lines texts numbers number 1 call.expect answers))) (expectation_same call.expect whole)
        ∙ ap (λ l. head ++ (expected_in_orders numbers number call.expect whole answers' ++ (codes "\n" ++ l)))
        (lines_alone texts 1 call.expect answers ∙ ap (answer_lines texts numbers number 1 call.expect) same ∙ sym (lines_alone texts 1 call.expect answers'))
