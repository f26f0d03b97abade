use Rattle.std.proofs.Common.{take}
use Rattle.clap.specs.Words.{App}
use Rattle.command_line.specs.CommandLine.{IsCommand, with_option_rules}
use Rattle.command_line.proofs.reading.with_options.Given as goal

abbrev pub invariant-loop-row : goal.invariant-loop-row
invariant-loop-row l = (app : App) → IsCommand app l.fn.command → IsCommand (with_option_rules app (take l.row-index l.rows)) l.wider
