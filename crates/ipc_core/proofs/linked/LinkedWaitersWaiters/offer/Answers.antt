use Rattle.std.proofs.Common.{ap, ◌∙◌}
use Rattle.ipc_core.specs.Representation.Linked.{offer_in}
use Rattle.ipc_core.proofs.QueueForm.Offers.{queue_offer}
use Rattle.ipc_core.proofs.linked.LinkedWaitersWaiters.offer.Goals as goal

pub returns : goal.returns
returns g c =
    c.offer.ensures ∙ ap (offer_in c.args.thread) c.thread.ensures
    ∙ queue_offer g.P.Profile.profile c.args.self.now.tables c.args.self.now.linked c.args.thread
