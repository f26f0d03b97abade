use Rattle.ipc_core.specs.Representation.Linked.{waits_in}
use Rattle.ipc_core.proofs.Histories.Cancelling.{endpoint_by_histories}
use Rattle.std.proofs.Common.{sym, subst}
use Rattle.ipc_core.specs.Agreement.{AreAlike}
use Rattle.ipc_core.proofs.SendersOrReceivers.{alike_cancel_endpoint}
use Rattle.ipc_core.proofs.linked.LinkedWaitersWaiters.cancel_endpoint.Goals as goal

pub returns-clause-histories : goal.returns-clause-histories
returns-clause-histories g c =
    endpoint_by_histories c.args.endpoint (waits_in g.P.Profile.profile c.args.self.now.tables) (waits_in g.P.Profile.profile c.cancel_endpoint.new.self) c.cancel_endpoint.ensures.waits

pub invariant_of-self-clause-alike : goal.invariant_of-self-clause-alike
invariant_of-self-clause-alike g c =
    let own = c.args.self.now in
    subst AreAlike (sym c.cancel_endpoint.ensures.waits) (alike_cancel_endpoint (waits_in g.P.Profile.profile own.tables) own.alike c.args.endpoint)
