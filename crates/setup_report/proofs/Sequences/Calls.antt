-- The calls of a set-up and their replies, read from the front.
use Rattle.std.proofs.Common.{◌≡◌, ℕ, suc, ◌+◌, ◌<◌, ◌≤◌, List, [], ◌∷◌, ◌++◌, length, drop, map, slice_get, get_or, Option, None, Some, option_map, true, false, if◌then◌else◌, sym, ap, ◌∙◌, append_assoc, add-one, arith}
use Rattle.std.proofs.Math.Seq.{drop-cons}
use Rattle.std.proofs.Math.Logic.{⊎_elim}
use Rattle.std.proofs.lemmas.List.{drop_all, length-map}
use Rattle.std.proofs.lemmas.Option.{slice_get_within, slice_get_cases, get_or_from_slice_get, slice_get-map, slice_get-get_or}
use Rattle.kernel_abstract.specs.declared.call.Call.{Call}
use Rattle.kernel_abstract.specs.declared.call.Reply.{Reply}
use Rattle.setup_format.specs.Views.{CallView}
use Rattle.setup_report.specs.Naming.{Texts}
use Rattle.setup_report.specs.Text.{reply_text}
use Rattle.setup_report.specs.Report.{terminated, call_text, call_lines, is_met, one_met, one_expected, met_count, expectation_count}

-- the call at a place, and what is expected of its reply
pub record IsCallAt (calls : List CallView) (i : ℕ) (call : Call) (expected : Option (List ℕ)) : Type 0 where
  pub view : CallView
  pub there : drop i calls ≡ view ∷ drop (suc i) calls
  pub call_is : view.call ≡ call
  pub expected_is : view.expect ≡ expected

pub call_at : (calls : List CallView) (i : ℕ) (call : Call) (expected : Option (List ℕ)) → option_map (λ (c : CallView). c.call) (slice_get calls i) ≡ Some call → option_map (λ (c : CallView). c.expect) (slice_get calls i) ≡ Some expected → IsCallAt calls i call expected
call_at calls i call expected e f =
    ⊎_elim
    (λ found.
    let x : CallView = found.0 in
    let c : Some x.call ≡ Some call = sym (ap (option_map (λ (c : CallView). c.call)) found.2) ∙ e in
    let d : Some x.expect ≡ Some expected = sym (ap (option_map (λ (c : CallView). c.expect)) found.2) ∙ f in
    record {
      view = x;
      there = drop-cons calls i x found.1 ∙ ap (λ y. y ∷ drop (suc i) calls) found.3;
      call_is = cc;
      expected_is = cc;
    })
    (λ none. absurd (let h : Some call ≡ None = sym e ∙ ap (option_map (λ (c : CallView). c.call)) none.1 in cc))
    ((slice_get_cases calls i).1)

pub reply_at : (replies : List Reply) (i : ℕ) (reply : Reply) → slice_get replies i ≡ Some reply → drop i replies ≡ reply ∷ drop (suc i) replies
reply_at replies i reply e =
    drop-cons replies i reply (slice_get_within replies i reply e) ∙ ap (λ y. y ∷ drop (suc i) replies) (get_or_from_slice_get replies i reply reply e)

pub lines_more : (texts : Texts) (calls : List CallView) (replies : List Reply) (i : ℕ) (call : Call) (expected : Option (List ℕ)) (reply : Reply) → IsCallAt calls i call expected → slice_get replies i ≡ Some reply → call_lines texts (i + 1) (drop i calls) (drop i replies) ≡ terminated (call_text texts (i + 1) call reply expected) ++ call_lines texts (i + 1 + 1) (drop (i + 1) calls) (drop (i + 1) replies)
lines_more texts calls replies i call expected reply at e =
    ap (λ cs. call_lines texts (i + 1) cs (drop i replies)) at.there
    ∙ ap (λ rs. call_lines texts (i + 1) (at.view ∷ drop (suc i) calls) rs) (reply_at replies i reply e)
    ∙ ap (λ c. terminated (call_text texts (i + 1) c reply at.view.expect) ++ call_lines texts (i + 1 + 1) (drop (suc i) calls) (drop (suc i) replies)) at.call_is
    ∙ ap (λ x. terminated (call_text texts (i + 1) call reply x) ++ call_lines texts (i + 1 + 1) (drop (suc i) calls) (drop (suc i) replies)) at.expected_is
    ∙ ap (λ n. terminated (call_text texts (i + 1) call reply expected) ++ call_lines texts (i + 1 + 1) (drop n calls) (drop n replies)) (sym (add-one i))

-- one more line is added
pub added : (texts : Texts) (calls : List CallView) (replies : List Reply) (i : ℕ) (call : Call) (expected : Option (List ℕ)) (reply : Reply) (total before after : List ℕ) → before ++ call_lines texts (i + 1) (drop i calls) (drop i replies) ≡ total → option_map (λ (c : CallView). c.call) (slice_get calls i) ≡ Some call → option_map (λ (c : CallView). c.expect) (slice_get calls i) ≡ Some expected → slice_get replies i ≡ Some reply → after ≡ before ++ terminated (call_text texts (i + 1) call reply expected) → after ++ call_lines texts (i + 1 + 1) (drop (i + 1) calls) (drop (i + 1) replies) ≡ total
added texts calls replies i call expected reply total before after e c x r a =
    ap (λ t. t ++ call_lines texts (i + 1 + 1) (drop (i + 1) calls) (drop (i + 1) replies)) a
    ∙ append_assoc before (terminated (call_text texts (i + 1) call reply expected)) (call_lines texts (i + 1 + 1) (drop (i + 1) calls) (drop (i + 1) replies))
    ∙ ap (λ t. before ++ t) (sym (lines_more texts calls replies i call expected reply (call_at calls i call expected c x) r))
    ∙ e

pub none_left : (texts : Texts) (calls : List CallView) (replies : List Reply) (i n : ℕ) → length calls ≤ i → call_lines texts n (drop i calls) (drop i replies) ≡ []
none_left texts calls replies i n h = ap (λ cs. call_lines texts n cs (drop i replies)) (drop_all i calls h)

pub call_here : (calls : List CallView) (items : List Call) (i : ℕ) (d : Call) → items ≡ map (λ (c : CallView). c.call) calls → i < length items → option_map (λ (c : CallView). c.call) (slice_get calls i) ≡ Some (get_or items i d)
call_here calls items i d e h = sym (slice_get-map (λ (c : CallView). c.call) calls i) ∙ ap (λ xs. slice_get xs i) (sym e) ∙ slice_get-get_or items i d h

pub reply_here : (calls : List CallView) (items : List Call) (replies : List Reply) (i : ℕ) (d : Reply) → items ≡ map (λ (c : CallView). c.call) calls → length replies ≡ length calls → i < length items → slice_get replies i ≡ Some (get_or replies i d)
reply_here calls items replies i d e same h =
    let count : length items ≡ length calls = ap length e ∙ length-map calls (λ (c : CallView). c.call) in
    let within : i < length replies = omega arith in
    slice_get-get_or replies i d within

-- what is expected of the reply to the call at a place
pub record IsExpectedAt (calls : List CallView) (i : ℕ) (expected : Option (List ℕ)) : Type 0 where
  pub view : CallView
  pub there : drop i calls ≡ view ∷ drop (suc i) calls
  pub expected_is : view.expect ≡ expected

pub expected_at : (calls : List CallView) (i : ℕ) (expected : Option (List ℕ)) → option_map (λ (c : CallView). c.expect) (slice_get calls i) ≡ Some expected → IsExpectedAt calls i expected
expected_at calls i expected f =
    ⊎_elim
    (λ found.
    let x : CallView = found.0 in
    let d : Some x.expect ≡ Some expected = sym (ap (option_map (λ (c : CallView). c.expect)) found.2) ∙ f in
    record { view = x; there = drop-cons calls i x found.1 ∙ ap (λ y. y ∷ drop (suc i) calls) found.3; expected_is = cc })
    (λ none. absurd (let h : Some expected ≡ None = sym f ∙ ap (option_map (λ (c : CallView). c.expect)) none.1 in cc))
    ((slice_get_cases calls i).1)

pub met_more : (calls : List CallView) (replies : List Reply) (i : ℕ) (expected : Option (List ℕ)) (reply : Reply) → option_map (λ (c : CallView). c.expect) (slice_get calls i) ≡ Some expected → slice_get replies i ≡ Some reply → met_count (drop i calls) (drop i replies) ≡ one_met expected (reply_text reply) + met_count (drop (i + 1) calls) (drop (i + 1) replies)
met_more calls replies i expected reply x r =
    let at : IsExpectedAt calls i expected = expected_at calls i expected x in
    ap (λ cs. met_count cs (drop i replies)) at.there
    ∙ ap (λ rs. met_count (at.view ∷ drop (suc i) calls) rs) (reply_at replies i reply r)
    ∙ ap (λ e. one_met e (reply_text reply) + met_count (drop (suc i) calls) (drop (suc i) replies)) at.expected_is
    ∙ ap (λ n. one_met expected (reply_text reply) + met_count (drop n calls) (drop n replies)) (sym (add-one i))

pub expectation_more : (calls : List CallView) (replies : List Reply) (i : ℕ) (expected : Option (List ℕ)) (reply : Reply) → option_map (λ (c : CallView). c.expect) (slice_get calls i) ≡ Some expected → slice_get replies i ≡ Some reply → expectation_count (drop i calls) (drop i replies) ≡ one_expected expected + expectation_count (drop (i + 1) calls) (drop (i + 1) replies)
expectation_more calls replies i expected reply x r =
    let at : IsExpectedAt calls i expected = expected_at calls i expected x in
    ap (λ cs. expectation_count cs (drop i replies)) at.there
    ∙ ap (λ rs. expectation_count (at.view ∷ drop (suc i) calls) rs) (reply_at replies i reply r)
    ∙ ap (λ e. one_expected e + expectation_count (drop (suc i) calls) (drop (suc i) replies)) at.expected_is
    ∙ ap (λ n. one_expected expected + expectation_count (drop n calls) (drop n replies)) (sym (add-one i))

pub one_met-le : (expected : Option (List ℕ)) (text : List ℕ) → one_met expected text ≤ 1
one_met-le expected text = elim (is_met expected text) as (λ b. (if b then 1 else 0) ≤ 1) [ true ↦ omega arith | false ↦ omega arith ]

pub one_expected-le : (expected : Option (List ℕ)) → one_expected expected ≤ 1
one_expected-le None = omega arith
one_expected-le (Some text) = omega arith

-- a count goes on, by at most one
pub count_more : (count got one before after total : ℕ) → count + before ≡ total → before ≡ one + after → got ≡ one → count + got + after ≡ total
count_more count got one before after total e f g = omega arith

pub count_within : (count got one i : ℕ) → count ≤ i → got ≡ one → one ≤ 1 → count + got ≤ i + 1
count_within count got one i h g l = omega arith
