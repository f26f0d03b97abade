use Rattle.std.proofs.Common.{◌≡◌, ◌++◌, ◌+◌, ◌-◌, ◌≤◌, map, drop, length, string_bytes}
use Rattle.command_trace.specs.Changes.{line_changes}
use Rattle.command_trace.specs.Views.{line_view}
use Rattle.command_trace.proofs.lines.changes.add_changes.Given as goal

abbrev pub invariant-loop-i : goal.invariant-loop-i
invariant-loop-i l =
    record {
      old : l.i ≤ length l.old;
      new : l.j ≤ length l.new;
      text : string_bytes l.out ++ line_changes (drop l.i (map line_view l.old)) (drop l.j (map line_view l.new))
          ≡ string_bytes l.initial.out ++ line_changes (map line_view l.old) (map line_view l.new);
    }

abbrev pub decreases-loop-i : goal.decreases-loop-i
decreases-loop-i l = (length l.old - l.i) + (length l.new - l.j)
