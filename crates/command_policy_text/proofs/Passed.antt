-- The calls of a set-up that break a policy, read from the front.
use Rattle.std.proofs.Common.{◌≡◌, ℕ, suc, ◌+◌, ◌≤◌, List, [], ◌∷◌, ◌++◌, length, drop, slice_get, Option, Some, option_map, sym, ap, refl, ◌∙◌, append_assoc, add-one}
use Rattle.std.proofs.lemmas.List.{drop_all}
use Rattle.kernel_abstract.specs.declared.call.Call.{Call}
use Rattle.kernel_abstract.specs.declared.call.Reply.{Reply}
use Rattle.setup_format.specs.Views.{CallView}
use Rattle.setup_report.proofs.Sequences.Calls.{IsCallAt, call_at, reply_at}
use Rattle.command_policy_text.specs.Calls.{call_breach, call_breaches}

more : (calls : List CallView) (replies : List Reply) (i : ℕ) (call : Call) (expected : Option (List ℕ)) (reply : Reply) → IsCallAt calls i call expected →
    slice_get replies i ≡ Some reply →
    call_breaches (i + 1) (drop i calls) (drop i replies) ≡ call_breach (i + 1) call expected reply ++ call_breaches (i + 1 + 1) (drop (i + 1) calls) (drop (i + 1) replies)
more calls replies i call expected reply at e =
    ap (λ cs. call_breaches (i + 1) cs (drop i replies)) at.there
    ∙ ap (λ rs. call_breaches (i + 1) (at.view ∷ drop (suc i) calls) rs) (reply_at replies i reply e)
    ∙ ap (λ c. call_breach (i + 1) c at.view.expect reply ++ call_breaches (i + 1 + 1) (drop (suc i) calls) (drop (suc i) replies)) at.call_is
    ∙ ap (λ x. call_breach (i + 1) call x reply ++ call_breaches (i + 1 + 1) (drop (suc i) calls) (drop (suc i) replies)) at.expected_is
    ∙ ap (λ n. call_breach (i + 1) call expected reply ++ call_breaches (i + 1 + 1) (drop n calls) (drop n replies)) (sym (add-one i))

-- one call more
pub passed : (calls : List CallView) (replies : List Reply) (i : ℕ) (call : Call) (expected : Option (List ℕ)) (reply : Reply) (total before after : List (List ℕ)) →
    before ++ call_breaches (i + 1) (drop i calls) (drop i replies) ≡ total →
    option_map (λ (c : CallView). c.call) (slice_get calls i) ≡ Some call → option_map (λ (c : CallView). c.expect) (slice_get calls i) ≡ Some expected →
    slice_get replies i ≡ Some reply → after ≡ before ++ call_breach (i + 1) call expected reply →
    after ++ call_breaches (i + 1 + 1) (drop (i + 1) calls) (drop (i + 1) replies) ≡ total
passed calls replies i call expected reply total before after e c x r a =
    ap (λ t. t ++ call_breaches (i + 1 + 1) (drop (i + 1) calls) (drop (i + 1) replies)) a
    ∙ append_assoc before (call_breach (i + 1) call expected reply) (call_breaches (i + 1 + 1) (drop (i + 1) calls) (drop (i + 1) replies))
    ∙ ap (λ t. before ++ t) (sym (more calls replies i call expected reply (call_at calls i call expected c x) r))
    ∙ e

no_replies : (n : ℕ) (calls : List CallView) → call_breaches n calls [] ≡ []
no_replies n [] = refl
no_replies n (call ∷ calls) = refl

-- behind the last reply no call is left
pub none_left : (calls : List CallView) (replies : List Reply) (i n : ℕ) → length replies ≤ i → call_breaches n (drop i calls) (drop i replies) ≡ []
none_left calls replies i n h = ap (λ rs. call_breaches n (drop i calls) rs) (drop_all i replies h) ∙ no_replies n (drop i calls)
