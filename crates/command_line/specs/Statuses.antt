-- The program's exit status after a command line that is not taken.
use Rattle.std.specs.Prelude.{ℕ}
use Rattle.command_line.specs.declared.arguments.LineFault.{LineFault}
use Rattle.command_line.specs.declared.arguments.LineFault.TheVariants.{Help, Refused, Conflict, Memory}

-- the exit status of a command line that starts no run
abbrev pub line_status : LineFault → ℕ
line_status (Help text) = 0
line_status Refused = 4
line_status (Conflict text) = 4
line_status Memory = 3
