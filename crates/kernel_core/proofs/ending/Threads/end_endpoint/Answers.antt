-- The proof of `end_endpoint`: the goals that a search leaves open.
use Rattle.std.proofs.Common.{refl}
use Rattle.kernel_core.proofs.Endings.EndedObjects.{endpoint_left}
use Rattle.kernel_core.proofs.ending.Threads.end_endpoint.Goals as goal

pub returns-then-is_endpoint_address : goal.returns-then-is_endpoint_address
returns-then-is_endpoint_address g c placed =
    let own = c.args.self.now in
    endpoint_left c.args.endpoint (g.W.Waiters.waits own.waiters) (g.met.W.Waiters.agree own.waiters) g.P.Profile.profile own.memory_bits own.memory_bits own.rows own.rows (g.W.Waiters.waits c.cancel_endpoint.new.self) refl refl c.cancel_endpoint.ensures.waits
