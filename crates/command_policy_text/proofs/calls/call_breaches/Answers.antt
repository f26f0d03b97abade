-- The proof of `call_breaches`: the goals that a search leaves open.
use Rattle.std.proofs.Common.{◌≡◌, ◌++◌, ◌+◌, ◌<◌, length, map, string_bytes, sym, ap, ◌∙◌, append-nil, arith}
use Rattle.std.proofs.lemmas.List.{length-map}
use Rattle.std.proofs.lemmas.Option.{slice_get-get_or}
use Rattle.kernel_abstract.specs.declared.call.Reply.TheVariants.{Done}
use Rattle.setup_format.specs.Views.{CallView}
use Rattle.setup_report.proofs.Sequences.Calls.{call_here}
use Rattle.command_policy_text.proofs.Passed.{passed, none_left}
use Rattle.command_policy_text.proofs.calls.call_breaches.Goals as goal

pub loop-i-preserved : goal.loop-i-preserved
loop-i-preserved c =
    let calls = c.args.setup.now.calls in
    let replies = c.args.replies.now in
    let items = c.calls.result.now in
    let long : length items ≡ length calls = ap length c.calls.ensures ∙ length-map calls (λ (v : CallView). v.call) in
    let here : c.loop-i.i < length items = omega (arith, long, c.requires, c.loop-i-test.true) in
    passed calls replies c.loop-i.i _ _ _ _ _ _ c.loop-i.invariant
    (call_here calls items c.loop-i.i _ c.calls.ensures here)
    c.expect.ensures (slice_get-get_or replies c.loop-i.i Done c.loop-i-test.true) c.in_ok-add_call.ensures

pub returns : goal.returns
returns c =
    sym (append-nil (map string_bytes c.loop-i.lines.items))
    ∙ ap (λ t. map string_bytes c.loop-i.lines.items ++ t) (sym (none_left c.args.setup.now.calls c.args.replies.now c.loop-i.i (c.loop-i.i + 1) c.loop-i-test.false))
    ∙ c.loop-i.invariant
