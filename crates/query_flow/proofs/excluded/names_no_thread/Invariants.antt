use Rattle.std.proofs.Common.{◌≡◌, not, ◌&&◌, true, take}
use Rattle.std.specs.List.{list_all}
use Rattle.cap_core.specs.declared.capability.Cap.TheVariants.{Tcb}
use Rattle.query_flow.specs.declared.listed.MayStand.{MayStand}
use Rattle.query_flow.specs.Listed.{is_among, stands_for_cap}
use Rattle.query_flow.proofs.excluded.names_no_thread.Given as goal

abbrev pub invariant-loop-s : goal.invariant-loop-s
invariant-loop-s g l = list_all (λ (s : MayStand). not (is_among l.names s.set && stands_for_cap g.P.Profile.profile s.what (Tcb l.to))) (take l.s-index l.all) ≡ true
