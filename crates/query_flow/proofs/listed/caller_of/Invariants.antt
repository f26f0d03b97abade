use Rattle.std.proofs.Common.{◌≡◌, drop}
use Rattle.query_flow.specs.Listed as spec
use Rattle.query_flow.proofs.listed.caller_of.Given as goal

abbrev pub invariant-loop-caller : goal.invariant-loop-caller
invariant-loop-caller l = spec.caller_of (drop l.caller-index l.callers) l.set ≡ spec.caller_of l.callers l.set
