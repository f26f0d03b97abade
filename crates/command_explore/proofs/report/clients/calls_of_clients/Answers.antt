use Rattle.std.specs.Global.{Vec}
use Rattle.kernel_abstract.specs.declared.call.Call.{Call}
use Rattle.command_explore.specs.Clients.{calls_of_client}
use Rattle.command_explore.proofs.Places.{lists_more}
use Rattle.command_explore.proofs.report.clients.calls_of_clients.Goals as goal

pub loop-client-preserved : goal.loop-client-preserved
loop-client-preserved c =
    lists_more (λ (v : Vec Call). v.items) (calls_of_client c.args.setup.now.calls) c.loop-client.lists.items c.push.new.self.items c.in_ok-own.own c.loop-client.client c.loop-client.invariant c.in_ok-own.ensures c.in_ok-push.ensures.items
