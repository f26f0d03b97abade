use Rattle.std.proofs.Common.{◌≡◌, length, map, min, ap, ◌∙◌, arith}
use Rattle.std.proofs.lemmas.List.{length-map}
use Rattle.setup_format.specs.Views.{CallView}
use Rattle.command_explore.proofs.Places.{is_at, clients_more, take_least}
use Rattle.command_explore.proofs.report.clients.first_clients.Goals as goal

pub loop-i-preserved : goal.loop-i-preserved
loop-i-preserved c =
    let calls = c.args.setup.now.calls in
    let i = c.loop-i.i in
    let many : length c.calls.result.now ≡ length calls = ap length c.calls.ensures ∙ length-map calls (λ (k : CallView). k.call) in
    let a = is_at calls i (omega (arith, c.loop-i-test.true, many)) in
    clients_more calls i a c.loop-i.first.items c.push.new.self.items c.client_of.result c.client_of.ensures c.loop-i.invariant c.in_ok-push.ensures.items

pub returns : goal.returns
returns c =
    let calls = c.args.setup.now.calls in
    let many : length c.calls.result.now ≡ length calls = ap length c.calls.ensures ∙ length-map calls (λ (k : CallView). k.call) in
    let end : c.loop-i.i ≡ min c.args.count (length calls) = omega (arith, c.loop-i-test.false, many) in
    c.loop-i.invariant ∙ ap (map (λ (k : CallView). k.client)) (take_least calls c.args.count c.loop-i.i end)
