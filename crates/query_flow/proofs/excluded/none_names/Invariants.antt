use Rattle.std.proofs.Common.{◌≡◌, true, take}
use Rattle.std.specs.List.{list_all}
use Rattle.query_flow.specs.declared.listed.Caller.{Caller}
use Rattle.query_flow.specs.Apart as spec
use Rattle.query_flow.proofs.excluded.none_names.Given as goal

abbrev pub invariant-loop-caller : goal.invariant-loop-caller
invariant-loop-caller g l = list_all (λ (k : Caller). spec.names_no_thread g.P.Profile.profile k.names.items l.flows.standing.items l.thread) (take l.caller-index l.callers) ≡ true
