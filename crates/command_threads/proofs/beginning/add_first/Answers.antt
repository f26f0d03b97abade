use Rattle.std.proofs.Common.{◌≡◌, ◌<◌, ◌+◌, length, ap, ◌∙◌, arith, length-append}
use Rattle.std.proofs.lemmas.List.{length-map}
use Rattle.setup_format.specs.Views.{CallView}
use Rattle.command_threads.proofs.Growing.{first_more}
use Rattle.command_threads.proofs.beginning.add_first.Goals as goal

pub loop-i-preserved : goal.loop-i-preserved
loop-i-preserved c =
    let calls = c.args.setup.now.calls in
    let long : length c.calls.result.now ≡ length calls = ap length c.calls.ensures ∙ length-map calls (λ (v : CallView). v.call) in
    let within : c.loop-i.i < length calls = omega (arith, c.loop-i-test.true, c.requires.within) in
    record {
      many = ap length c.in_ok-push.ensures.entries ∙ length-append c.loop-i.history.entries.items _ ∙ ap (λ n. n + 1) c.loop-i.invariant.many;
      so = first_more calls c.calls.result.now c.args.replies.now c.loop-i.history.entries.items _ c.loop-i.i c.client_of.result _ _ _ c.calls.ensures within c.loop-i-test.true c.client_of.ensures c.loop-i.invariant.so c.in_ok-push.ensures.entries;
    }
