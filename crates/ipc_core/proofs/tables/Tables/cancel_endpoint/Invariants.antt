use Rattle.std.proofs.Common.{◌≡◌, length}
use Rattle.ipc_core.specs.Representation.Linked.{IsLinked, waits_in, orders_in}
use Rattle.ipc_core.specs.Cancelled.{after_cancel_endpoint}
use Rattle.ipc_core.proofs.tables.Tables.cancel_endpoint.Given as goal

abbrev pub invariant-loop-thread : goal.invariant-loop-thread
invariant-loop-thread g l =
    record {
      linked : IsLinked g.P.Profile.profile l.self;
      waits : after_cancel_endpoint l.endpoint (waits_in g.P.Profile.profile l.self) ≡ after_cancel_endpoint l.endpoint (waits_in g.P.Profile.profile l.fn.self);
      threads : length l.self.threads.items ≡ length l.fn.self.threads.items;
      endpoints : length l.self.endpoints.items ≡ length l.fn.self.endpoints.items;
    }

abbrev pub decreases-loop-thread : goal.decreases-loop-thread
decreases-loop-thread g l = length (orders_in g.P.Profile.profile l.self l.endpoint)
