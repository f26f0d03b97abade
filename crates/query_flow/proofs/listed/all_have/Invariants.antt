use Rattle.std.proofs.Common.{◌≡◌, ℕ, true, take}
use Rattle.std.specs.List.{list_all}
use Rattle.query_flow.specs.Listed as spec
use Rattle.query_flow.proofs.listed.all_have.Given as goal

abbrev pub invariant-loop-set : goal.invariant-loop-set
invariant-loop-set l = list_all (λ (set : ℕ). spec.has_over l.all set l.what) (take l.set-index l.sets) ≡ true
