-- The subcommand that is built is the row's.
use Rattle.std.proofs.Common.{◌∙◌, ap}
use Rattle.clap.specs.Simple.{app_of_fields}
use Rattle.command_line.proofs.reading.subcommand.Goals as goal

pub returns : goal.returns
returns c =
    c.with_options.ensures _ (c.in_ok-wider.ensures _ (
      ap app_of_fields c.about-command.ensures ∙ c.new.ensures.app,
      ap (λ f. f.has_globals) c.about-command.ensures ∙ c.new.ensures.local,
    ))
