use Rattle.std.proofs.Common.{◌≡◌, true, take}
use Rattle.std.specs.List.{list_all}
use Rattle.query_flow.specs.declared.listed.MayStand.{MayStand}
use Rattle.query_flow.specs.Private as private
use Rattle.query_flow.proofs.listed.stand_settled.Given as goal

abbrev pub invariant-loop-s : goal.invariant-loop-s
invariant-loop-s l =
    list_all (λ (s : MayStand). private.are_threads_settled l.memory l.known.callers.now l.known.settled.now l.trusted s.what) (take l.s-index l.all) ≡ true
