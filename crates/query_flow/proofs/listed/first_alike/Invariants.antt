use Rattle.std.proofs.Common.{◌≡◌, ◌==◌, drop}
use Rattle.std.specs.List.{position, position_from}
use Rattle.query_flow.specs.Private.{is_alike}
use Rattle.query_flow.proofs.listed.first_alike.Given as goal

abbrev pub invariant-loop-place : goal.invariant-loop-place
invariant-loop-place l = position_from (is_alike l.caller) l.place (drop l.place l.callers) ≡ position (is_alike l.caller) l.callers
