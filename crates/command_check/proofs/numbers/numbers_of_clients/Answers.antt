use Rattle.std.proofs.Common.{ℕ, List}
use Rattle.std.specs.Global.{Vec}
use Rattle.command_check.specs.Numbers.{client_numbers}
use Rattle.command_check.proofs.Places.{lists_more}
use Rattle.command_check.proofs.numbers.numbers_of_clients.Goals as goal

pub loop-client-preserved : goal.loop-client-preserved
loop-client-preserved c =
    let f : ℕ → List ℕ = λ client. client_numbers client 1 c.args.setup.now.calls in
    lists_more (λ (v : Vec ℕ). v.items) f c.loop-client.lists.items c.push.new.self.items c.in_ok-own.own c.loop-client.client c.loop-client.invariant c.in_ok-own.ensures c.in_ok-push.ensures.items
