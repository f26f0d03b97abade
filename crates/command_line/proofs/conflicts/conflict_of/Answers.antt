-- Options that do not go together are told of.
use Rattle.std.proofs.Common.{rules}
use Rattle.command_line.specs.CommandLine.{agrees}
use Rattle.command_line.proofs.conflicts.conflict_of.Goals as goal

pub returns-then-is_some-2 : goal.returns-then-is_some-2
unfolding agrees
returns-then-is_some-2 c = search rules

pub returns-then-options : goal.returns-then-options
unfolding agrees
returns-then-options c = search rules

pub returns-then-options-2 : goal.returns-then-options-2
unfolding agrees
returns-then-options-2 c = search rules

pub returns-then-is_some-5 : goal.returns-then-is_some-5
unfolding agrees
returns-then-is_some-5 c = search rules

pub returns-else-options-3 : goal.returns-else-options-3
unfolding agrees
returns-else-options-3 c = search rules
