-- The files behind the first are clap's values of FILES.
use Rattle.std.proofs.Common.{◌∙◌, [], ap, codes}
use Rattle.std.specs.Prelude.{unwrap_or}
use Rattle.clap.proofs.WalkLemmas.{raw_values-rows}
use Rattle.clap.specs.Words.{found_of}
use Rattle.command_line.proofs.CommandLines.{given_values}
use Rattle.command_line.proofs.reading.more_in.Goals as goal

pub returns : goal.returns
returns c =
    given_values c.get_raw.result ∙ ap (λ o. unwrap_or o []) (c.get_raw.ensures ∙ raw_values-rows (found_of c.args.matches.now) (codes "FILES"))
