-- The proof of `labels`: the goals that a search leaves open.
use Rattle.std.proofs.Common.{◌∙◌, sym, ap, arith}
use Rattle.std.specs.List.{list_any}
use Rattle.query_parts.proofs.Arranging.{label_known, label_new}
use Rattle.query_parts.proofs.arranged.labels.Goals as goal
use Rattle.query_parts.proofs.arranged.labels.Goals.{then-not-contains+in_ok-push, else-not-contains}

pub loop-stretch-preserved : goal.loop-stretch-preserved
loop-stretch-preserved c = elim c.if-not-contains.branch [
  | then-not-contains+in_ok-push w ↦
      rw w.seen-is (rw w.in_ok-push.ensures.items
      (label_new c.args.memory.now c.loop-stretch.seen.items _ c.loop-stretch.stretch-index _ (omega arith) c.loop-stretch.invariant
      (ap (list_any _) (sym c.as_slice.ensures.value) ∙ sym c.contains.ensures.value ∙ w.if-not-contains.true)))
  | else-not-contains w ↦
      rw w.seen-is
      (label_known c.args.memory.now c.loop-stretch.seen.items _ c.loop-stretch.stretch-index _ (omega arith) c.loop-stretch.invariant
      (ap (list_any _) (sym c.as_slice.ensures.value) ∙ sym c.contains.ensures.value ∙ w.if-not-contains.false))
]
