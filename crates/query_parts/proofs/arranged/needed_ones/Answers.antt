-- The proof of `needed_ones`: the goals that a search leaves open.
use Rattle.query_parts.proofs.Halving.{then_kept, else_kept}
use Rattle.query_parts.proofs.arranged.needed_ones.Goals as goal
use Rattle.query_parts.proofs.arranged.needed_ones.Goals.{then-is_needed+in_ok-push, else-is_needed}

pub loop-allowed-preserved : goal.loop-allowed-preserved
loop-allowed-preserved g c = elim c.if-is_needed.branch [
  | then-is_needed+in_ok-push w ↦
      rw w.kept-is (rw w.in_ok-push.ensures.items
      (then_kept g.P.Profile.profile c.args.memory.now c.args.uses.now c.in_ok-by_key.by_key.items c.as_slice.result.now c.in_ok-by_key.ensures.same c.as_slice.ensures.value
      c.loop-allowed.allowed-index _ c.loop-allowed-test.true c.is_needed.result c.is_needed.ensures c.loop-allowed.kept.items c.loop-allowed.invariant w.if-is_needed.true))
  | else-is_needed w ↦
      rw w.kept-is
      (else_kept g.P.Profile.profile c.args.memory.now c.args.uses.now c.in_ok-by_key.by_key.items c.as_slice.result.now c.in_ok-by_key.ensures.same c.as_slice.ensures.value
      c.loop-allowed.allowed-index _ c.loop-allowed-test.true c.is_needed.result c.is_needed.ensures c.loop-allowed.kept.items c.loop-allowed.invariant w.if-is_needed.false)
]
