-- The marks of the calls so far by the questions of an exercise, with one more.
use Rattle.std.proofs.Common.{◌≡◌, ℕ, suc, ◌+◌, List, [], ◌∷◌, ◌++◌, drop, slice_get, Option, Some, option_map, sym, ap, ◌∙◌, append_assoc, add-one}
use Rattle.kernel_abstract.specs.declared.call.Reply.{Reply}
use Rattle.setup_format.specs.Views.{CallView}
use Rattle.setup_report.proofs.Sequences.Calls.{IsExpectedAt, expected_at, reply_at}
use Rattle.command_marks.specs.declared.mark.Mark.{Mark}
use Rattle.command_marks.specs.Against.{mark_by_question, marks_by}

marks_more : (exercise calls : List CallView) (replies : List Reply) (i : ℕ) (question answer : Option (List ℕ)) (reply : Reply)
    → option_map (λ (c : CallView). c.expect) (slice_get exercise i) ≡ Some question → option_map (λ (c : CallView). c.expect) (slice_get calls i) ≡ Some answer
    → slice_get replies i ≡ Some reply
    → marks_by (drop i exercise) (drop i calls) (drop i replies) ≡ mark_by_question question answer reply ∷ marks_by (drop (i + 1) exercise) (drop (i + 1) calls) (drop (i + 1) replies)
marks_more exercise calls replies i question answer reply q a r =
    let asked : IsExpectedAt exercise i question = expected_at exercise i question q in
    let given : IsExpectedAt calls i answer = expected_at calls i answer a in
    ap (λ es. marks_by es (drop i calls) (drop i replies)) asked.there
    ∙ ap (λ cs. marks_by (asked.view ∷ drop (suc i) exercise) cs (drop i replies)) given.there
    ∙ ap (λ rs. marks_by (asked.view ∷ drop (suc i) exercise) (given.view ∷ drop (suc i) calls) rs) (reply_at replies i reply r)
    ∙ ap (λ e. mark_by_question e given.view.expect reply ∷ marks_by (drop (suc i) exercise) (drop (suc i) calls) (drop (suc i) replies)) asked.expected_is
    ∙ ap (λ e. mark_by_question question e reply ∷ marks_by (drop (suc i) exercise) (drop (suc i) calls) (drop (suc i) replies)) given.expected_is
    ∙ ap (λ n. mark_by_question question answer reply ∷ marks_by (drop n exercise) (drop n calls) (drop n replies)) (sym (add-one i))

pub answered_more : (exercise calls : List CallView) (replies : List Reply) (i : ℕ) (question answer : Option (List ℕ)) (reply : Reply) (mark : Mark) (total before after : List Mark)
    → before ++ marks_by (drop i exercise) (drop i calls) (drop i replies) ≡ total
    → option_map (λ (c : CallView). c.expect) (slice_get exercise i) ≡ Some question → option_map (λ (c : CallView). c.expect) (slice_get calls i) ≡ Some answer
    → slice_get replies i ≡ Some reply → mark ≡ mark_by_question question answer reply → after ≡ before ++ mark ∷ []
    → after ++ marks_by (drop (i + 1) exercise) (drop (i + 1) calls) (drop (i + 1) replies) ≡ total
answered_more exercise calls replies i question answer reply mark total before after e q x r m a =
    ap (λ t. t ++ marks_by (drop (i + 1) exercise) (drop (i + 1) calls) (drop (i + 1) replies)) (a ∙ ap (λ k. before ++ k ∷ []) m)
    ∙ append_assoc before (mark_by_question question answer reply ∷ []) (marks_by (drop (i + 1) exercise) (drop (i + 1) calls) (drop (i + 1) replies))
    ∙ ap (λ t. before ++ t) (sym (marks_more exercise calls replies i question answer reply q x r))
    ∙ e
