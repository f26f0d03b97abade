use Rattle.std.proofs.Common.{◌≡◌, ◌-◌, ◌≤◌, length, take}
use Rattle.std.specs.List.{flat_map}
use Rattle.setup_report.specs.Naming.{Texts}
use Rattle.command_trace.proofs.lines.rows.same_front.Given as goal

abbrev pub invariant-loop-count : goal.invariant-loop-count
invariant-loop-count g l =
    record {
      old : l.count ≤ length l.old;
      new : l.count ≤ length l.new;
      same : (texts : Texts) → flat_map (g.R.Row.lines texts) (take l.count l.old) ≡ flat_map (g.R.Row.lines texts) (take l.count l.new);
    }

abbrev pub decreases-loop-count : goal.decreases-loop-count
decreases-loop-count g l = length l.old - l.count
