use Rattle.std.proofs.Common.{sym, ◌==◌}
use Rattle.std.proofs.lemmas.Iterator.Adapters.{position_from-zero}
use Rattle.query_flow.specs.declared.listed.Caller.{Caller}
use Rattle.query_flow.proofs.listed.place_of.Goals as goal

pub loop-place-init : goal.loop-place-init
loop-place-init c = sym (position_from-zero (λ (k : Caller). k.set == c.args.set) c.args.callers.now)
