use Rattle.std.proofs.Common.{◌≡◌, map}
use Rattle.kernel_abstract.specs.State.{shown}
use Rattle.setup_report.specs.Behind.{state_behind}
use Rattle.command_policy_places.specs.Places.{fill_of}
use Rattle.command_policy_places.proofs.calls.fills.Given as goal

abbrev pub invariant-loop-i : goal.invariant-loop-i
invariant-loop-i g l =
    let p = g.P.Profile.profile in
    record {
      shows : l.kernel ≡ shown (state_behind p l.setup l.i);
      are : l.fills.items ≡ map (fill_of p l.setup l.i) l.slots;
    }
