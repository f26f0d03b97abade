use Rattle.std.proofs.Common.{◌∙◌}
use Rattle.query_revoke.specs.Objects.{object_number}
use Rattle.query_revoke.proofs.Keys.{numbered_more}
use Rattle.query_revoke.proofs.Named.{small_more}
use Rattle.query_revoke.proofs.numbers.numbers.Goals as goal

pub loop-place-preserved : goal.loop-place-preserved
loop-place-preserved c = record {
  numbers = c.in_ok-push.ensures.items
      ∙ numbered_more (λ d. object_number d.cap) c.args.list.now c.loop-place.place c.index-list-place.result c.loop-place.keyed.items c.object_number.result c.loop-place-test.true c.loop-place.invariant.numbers
      c.object_number.ensures.number;
  small = small_more c.args.list.now c.loop-place.place c.index-list-place.result c.loop-place-test.true c.loop-place.invariant.small c.object_number.ensures.small;
}
