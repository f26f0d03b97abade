-- The proof of `join_all`: the goals that a search leaves open.
use Rattle.std.proofs.Common.{◌∙◌, sym, refl, arith}
use Rattle.query_parts.proofs.Arranging.{joining_on, joining_next, joining_end}
use Rattle.query_parts.proofs.arranged.join_all.Goals as goal
use Rattle.query_parts.proofs.arranged.join_all.Goals.{then-goes_on, else-goes_on+in_ok-push}

pub loop-next-init : goal.loop-next-init
loop-next-init c = rw c.new-joined.ensures.items refl

pub loop-next-preserved : goal.loop-next-preserved
loop-next-preserved c = elim c.if-goes_on.branch [
  | then-goes_on w ↦
      rw w.joined-is (rw w.last-is (rw w.joined_with-last.ensures
      (joining_on c.args.others.now c.loop-next.joined.items _ c.loop-next.last c.loop-next.next-index _ (omega arith) c.loop-next.invariant
      (sym c.goes_on.ensures ∙ w.if-goes_on.true))))
  | else-goes_on+in_ok-push w ↦
      rw w.joined-is (rw w.last-is (rw w.in_ok-push.ensures.items
      (joining_next c.args.others.now c.loop-next.joined.items _ c.loop-next.last c.loop-next.next-index _ (omega arith) c.loop-next.invariant
      (sym c.goes_on.ensures ∙ w.if-goes_on.false))))
]

pub returns : goal.returns
returns c = rw c.in_ok-push-2.ensures.items
    (joining_end c.args.others.now c.loop-next.joined.items _ c.loop-next.last c.loop-next.next-index (omega arith) c.loop-next.invariant)
