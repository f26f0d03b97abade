-- The command that is built is the definition's.
use Rattle.command_line.specs.CommandLine.{command}
use Rattle.command_line.proofs.CommandLines.{has_definition}
use Rattle.command_line.proofs.reading.command.Goals as goal

pub returns : goal.returns
unfolding command
returns c = has_definition c.with_subcommands.result _ (c.with_subcommands.ensures _ c.in_ok-bare.ensures)
