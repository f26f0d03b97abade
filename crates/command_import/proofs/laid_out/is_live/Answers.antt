-- A test of the full slots as they are kept is one of what is seen of them.
use Rattle.std.proofs.Common.{ℕ, Option, ◌∙◌}
use Rattle.kernel_forest.specs.Entries.{Entry}
use Rattle.slot_core.specs.Calls.{derivation_view}
use Rattle.command_import.specs.Laid.{is_capability_of}
use Rattle.command_import.proofs.Rows.{any_seen}
use Rattle.command_import.proofs.laid_out.is_live.Goals as goal

pub returns : goal.returns
returns g c = c.is_held_in.ensures ∙ any_seen (λ (row : Entry × Option ℕ). is_capability_of c.args.object.now.kind row.0.cap c.args.object.now) (derivation_view g.P.Profile.profile) c.args.rows.now
