use Rattle.std.proofs.Common.{sym}
use Rattle.std.proofs.lemmas.Iterator.Adapters.{position_from-zero}
use Rattle.ipc_core.specs.Representation.Rows.{is_at}
use Rattle.ipc_core.proofs.row.first_place.Goals as goal

pub loop-place-init : goal.loop-place-init
loop-place-init c = sym (position_from-zero (is_at c.args.endpoint) c.args.rows.now)
