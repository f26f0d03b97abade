use Rattle.std.proofs.Common.{sym, ℕ, ◌==◌}
use Rattle.std.proofs.lemmas.Iterator.Adapters.{position_from-zero}
use Rattle.query_parts.proofs.arranged.place_of.Goals as goal

pub loop-place-init : goal.loop-place-init
loop-place-init c = sym (position_from-zero (λ (label : ℕ). label == c.args.part) c.args.labels.now)
