use Rattle.std.proofs.Common.{◌≡◌, ◌==◌, drop}
use Rattle.std.specs.List.{position, position_from}
use Rattle.query_flow.specs.declared.listed.Caller.{Caller}
use Rattle.query_flow.proofs.listed.place_of.Given as goal

abbrev pub invariant-loop-place : goal.invariant-loop-place
invariant-loop-place l = position_from (λ (k : Caller). k.set == l.set) l.place (drop l.place l.callers) ≡ position (λ (k : Caller). k.set == l.set) l.callers
