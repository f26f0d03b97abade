use Rattle.std.proofs.Common.{◌≡◌, ◌++◌, take, string_bytes}
use Rattle.command_tree.specs.Tree.{indent}
use Rattle.command_tree.proofs.lines.add_indent.Given as goal

abbrev pub invariant-loop-slot : goal.invariant-loop-slot
invariant-loop-slot l = string_bytes l.out ≡ string_bytes l.initial.out ++ indent (take l._slot-index l.above)
