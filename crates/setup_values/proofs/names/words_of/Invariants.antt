use Rattle.std.proofs.Common.{◌-◌, drop, length}
use Rattle.setup_values.specs.Names.{AreWordsOf}
use Rattle.setup_values.proofs.names.words_of.Given as goal

-- the table has the names that are behind
abbrev pub invariant-loop-behind : goal.invariant-loop-behind
invariant-loop-behind l = AreWordsOf (drop (length l.names - l.behind) l.names) l.words
