use Rattle.std.proofs.Common.{sym, ◌==◌}
use Rattle.std.proofs.lemmas.Iterator.Adapters.{position_from-zero}
use Rattle.query_flow.specs.Private.{is_alike}
use Rattle.query_flow.proofs.listed.first_alike.Goals as goal

pub loop-place-init : goal.loop-place-init
loop-place-init c = sym (position_from-zero (is_alike c.args.caller.now) c.args.callers.now)
