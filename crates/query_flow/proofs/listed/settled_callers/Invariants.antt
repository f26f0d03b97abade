-- The proof of `settled_callers`: what is known of the callers so far.
use Rattle.std.proofs.Common.{◌≡◌, map, take}
use Rattle.query_flow.specs.Listed.{is_caller_settled}
use Rattle.query_flow.specs.Private.{verdict_on}
use Rattle.query_flow.proofs.listed.settled_callers.Given as goal

abbrev pub invariant-loop-caller : goal.invariant-loop-caller
invariant-loop-caller g l = record {
  known : l.known.items ≡ map (verdict_on g.P.Profile.profile l.memory l.all) (take l.caller-index l.callers);
  settled : l.settled.items ≡ map (is_caller_settled g.P.Profile.profile l.memory l.all) (take l.caller-index l.callers);
}
