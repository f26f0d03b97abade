use Rattle.std.proofs.Common.{◌≡◌, ◌++◌, ◌≤◌}
use Rattle.cspace_core.specs.Bits.{low_bits}
use Rattle.command_trace.proofs.bits.low_bits.Given as goal

abbrev pub invariant-loop-left : goal.invariant-loop-left
invariant-loop-left l =
    record {
      most : l.left ≤ 64;
      same : l.bits.items ++ low_bits l.left l.word ≡ low_bits l.count l.word;
    }

abbrev pub decreases-loop-left : goal.decreases-loop-left
decreases-loop-left l = l.left
