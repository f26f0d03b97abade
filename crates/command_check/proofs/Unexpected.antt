-- The calls that were refused and of which nothing was expected, read from the front.
use Rattle.std.proofs.Common.{◌≡◌, ℕ, suc, ◌+◌, ◌≤◌, List, [], ◌∷◌, ◌++◌, length, drop, slice_get, Option, Some, option_map, sym, ap, ◌∙◌, append_assoc, add-one}
use Rattle.std.proofs.lemmas.List.{drop_all}
use Rattle.kernel_abstract.specs.declared.call.Reply.{Reply}
use Rattle.setup_format.specs.Views.{CallView}
use Rattle.setup_report.proofs.Sequences.Calls.{reply_at, expected_at}
use Rattle.command_check.specs.Notes.{unexpected_at, unexpected_from}

-- the call at a place, and those behind it
more : (calls : List CallView) (replies : List Reply) (i : ℕ) (expected : Option (List ℕ)) (reply : Reply)
    → option_map (λ (c : CallView). c.expect) (slice_get calls i) ≡ Some expected → slice_get replies i ≡ Some reply
    → unexpected_from (i + 1) (drop i calls) (drop i replies)
    ≡ unexpected_at (i + 1) expected reply ++ unexpected_from (i + 1 + 1) (drop (i + 1) calls) (drop (i + 1) replies)
more calls replies i expected reply e r =
    let at = expected_at calls i expected e in
    ap (λ cs. unexpected_from (i + 1) cs (drop i replies)) at.there
    ∙ ap (λ rs. unexpected_from (i + 1) (at.view ∷ drop (suc i) calls) rs) (reply_at replies i reply r)
    ∙ ap (λ x. unexpected_at (i + 1) x reply ++ unexpected_from (i + 1 + 1) (drop (suc i) calls) (drop (suc i) replies)) at.expected_is
    ∙ ap (λ n. unexpected_at (i + 1) expected reply ++ unexpected_from (i + 1 + 1) (drop n calls) (drop n replies)) (sym (add-one i))

-- what is found of one call more
pub found_more : (calls : List CallView) (replies : List Reply) (i : ℕ) (expected : Option (List ℕ)) (reply : Reply) (total before after : List ℕ)
    → before ++ unexpected_from (i + 1) (drop i calls) (drop i replies) ≡ total
    → option_map (λ (c : CallView). c.expect) (slice_get calls i) ≡ Some expected → slice_get replies i ≡ Some reply
    → after ≡ before ++ unexpected_at (i + 1) expected reply
    → after ++ unexpected_from (i + 1 + 1) (drop (i + 1) calls) (drop (i + 1) replies) ≡ total
found_more calls replies i expected reply total before after e x r a =
    let rest = unexpected_from (i + 1 + 1) (drop (i + 1) calls) (drop (i + 1) replies) in
    ap (λ t. t ++ rest) a
    ∙ append_assoc before (unexpected_at (i + 1) expected reply) rest
    ∙ ap (λ t. before ++ t) (sym (more calls replies i expected reply x r))
    ∙ e

pub none_left : (calls : List CallView) (replies : List Reply) (i n : ℕ) → length calls ≤ i → unexpected_from n (drop i calls) (drop i replies) ≡ []
none_left calls replies i n h = ap (λ cs. unexpected_from n cs (drop i replies)) (drop_all i calls h)
