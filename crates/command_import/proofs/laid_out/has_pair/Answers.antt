-- A test of the full slots as they are kept is one of what is seen of them.
use Rattle.std.proofs.Common.{◌∙◌}
use Rattle.slot_core.specs.Calls.{derivation_view}
use Rattle.command_import.specs.Laid.{is_pair}
use Rattle.command_import.proofs.Rows.{any_seen}
use Rattle.command_import.proofs.laid_out.has_pair.Goals as goal

pub returns : goal.returns
returns g c = c.is_pair_in.ensures ∙ any_seen (is_pair c.args.above c.args.below) (derivation_view g.P.Profile.profile) c.args.rows.now
