use Rattle.std.proofs.Common.{◌≡◌, ◌-◌, drop, length, map, option_map, take, ap, ◌∙◌}
use Rattle.std.proofs.lemmas.List.{drop-map, take_rest}
use Rattle.setup_format.specs.Views.{CallView}
use Rattle.command_threads.proofs.OwnCalls.{own_pushed, own_kept, slice_get-drop}
use Rattle.command_threads.proofs.client_calls.calls_of_client.Goals as goal
use Rattle.command_threads.proofs.client_calls.calls_of_client.Goals.{then-client_of-client+in_ok-push, else-client_of-client}

pub loop-i-preserved : goal.loop-i-preserved
loop-i-preserved c =
    let all = c.args.setup.now.calls in
    let made = c.min-begin.result in
    let calls = drop made all in
    let listed = c.calls-2.result.now in
    let items = take (length listed - made) (drop made listed) in
    let is : items ≡ map (λ (v : CallView). v.call) calls =
    take_rest listed made ∙ (ap (drop made) c.calls-2.ensures ∙ drop-map (λ (v : CallView). v.call) made all) in
    let from = ap (option_map (λ (v : CallView). v.client)) (slice_get-drop made all c.loop-i.i) ∙ c.client_of.ensures in
    elim c.if-client_of-client.branch [
      | then-client_of-client+in_ok-push w ↦ own_pushed c.args.client calls items c.loop-i.own.items _ c.loop-i.i _ c.client_of.result is c.loop-i-test.true from c.loop-i.invariant w.if-client_of-client.true (ap (λ v. v.items) w.own-is ∙ w.in_ok-push.ensures.items)
      | else-client_of-client w ↦ ap (λ v. v.items) w.own-is ∙ own_kept c.args.client calls items c.loop-i.own.items c.loop-i.i c.client_of.result is c.loop-i-test.true from c.loop-i.invariant w.if-client_of-client.false
    ]
