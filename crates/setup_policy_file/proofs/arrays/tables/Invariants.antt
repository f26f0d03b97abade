use Rattle.toml.specs.View.{view}
use Rattle.setup_policy_file.proofs.Loops.{entries_before}
use Rattle.setup_policy_file.proofs.arrays.tables.Given as goal

abbrev pub invariant-loop-value : goal.invariant-loop-value
invariant-loop-value g l = entries_before view g.K.EntryKind.shown (g.K.EntryKind.reads l.top.version) l.value-index l.elements l.are_read l.entries.items
