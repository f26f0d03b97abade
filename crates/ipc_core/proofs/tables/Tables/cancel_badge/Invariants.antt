use Rattle.std.proofs.Common.{◌≡◌, length}
use Rattle.ipc_core.specs.Representation.Chains.{walk}
use Rattle.ipc_core.specs.Representation.Linked.{IsLinked, links_of, waits_in}
use Rattle.ipc_core.specs.Cancelled.{after_cancel_badge, is_sender_with}
use Rattle.ipc_core.proofs.QueueForm.Drained.{StandsBefore}
use Rattle.ipc_core.proofs.tables.Tables.cancel_badge.Given as goal

abbrev pub invariant-loop-here : goal.invariant-loop-here
invariant-loop-here g l =
    record {
      linked : IsLinked g.P.Profile.profile l.self;
      waits : after_cancel_badge l.endpoint l.badge (waits_in g.P.Profile.profile l.self) ≡ after_cancel_badge l.endpoint l.badge (waits_in g.P.Profile.profile l.fn.self);
      stands : StandsBefore g.P.Profile.profile l.self l.endpoint l.here (is_sender_with l.badge);
      threads : length l.self.threads.items ≡ length l.fn.self.threads.items;
      endpoints : length l.self.endpoints.items ≡ length l.fn.self.endpoints.items;
    }

abbrev pub decreases-loop-here : goal.decreases-loop-here
decreases-loop-here g l =
    length (walk (λ i. ((links_of g.P.Profile.profile l.self).thread i).next) (length l.self.threads.items) l.here)
