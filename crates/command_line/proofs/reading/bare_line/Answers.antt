-- The file is clap's value of FILE, and those behind it are its values of FILES; no option is there.
use Rattle.std.proofs.Common.{◌∙◌, ap₂, codes, false, sym}
use Rattle.clap.proofs.WalkLemmas.{first_value-rows}
use Rattle.clap.specs.Words.{found_of}
use Rattle.command_line.specs.CommandLine.{several_of}
use Rattle.command_line.proofs.reading.bare_line.Goals as goal

pub returns-clause-file : goal.returns-clause-file
returns-clause-file c = sym (c.get_str-file.ensures ∙ first_value-rows (found_of c.args.matches.now) (codes "FILE"))

pub returns-clause-several : goal.returns-clause-several
returns-clause-several c =
    sym (c.in_ok-several.ensures
    ∙ ap₂ (several_of false) (c.get_str-file.ensures ∙ first_value-rows (found_of c.args.matches.now) (codes "FILE")) c.more_in.ensures)
