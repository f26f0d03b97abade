use Rattle.std.proofs.Common.{◌≡◌, map}
use Rattle.setup_format.specs.Views.{CallView}
use Rattle.command_policy_places.specs.Places.{waited_by}
use Rattle.command_policy_places.proofs.calls.FirstCalls.waits_since.Given as goal

abbrev pub invariant-loop-i : goal.invariant-loop-i
invariant-loop-i l = l.since ≡ waited_by (map (λ (c : CallView). c.call) l.self.setup.now.calls) l.self.replies.now l.thread l.i
