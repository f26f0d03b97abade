-- The command with no subcommands is the definition's.
use Rattle.std.proofs.Common.{◌∙◌, ap}
use Rattle.clap.specs.Simple.{app_of_fields}
use Rattle.command_line.specs.CommandLine.{with_version}
use Rattle.command_line.proofs.reading.bare.Goals as goal

pub returns : goal.returns
returns c =
    c.with_files.ensures _ (
      ap app_of_fields c.after_help-command.ensures ∙ (ap app_of_fields c.about.ensures ∙ (ap app_of_fields c.version.ensures ∙ ap with_version c.new.ensures.app)),
      ap (λ f. f.has_globals) c.after_help-command.ensures ∙ (ap (λ f. f.has_globals) c.about.ensures ∙ (ap (λ f. f.has_globals) c.version.ensures ∙ c.new.ensures.local)),
    )
