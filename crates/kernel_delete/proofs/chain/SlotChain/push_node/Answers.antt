use Rattle.std.proofs.Common.{◌∙◌, arith}
use Rattle.cap_core.specs.Numbers.{slot_size}
use Rattle.kernel_delete.proofs.Ranges.{next_of_range}
use Rattle.kernel_delete.proofs.chain.SlotChain.push_node.Goals as goal

pub push-requires-clause-absent : goal.push-requires-clause-absent
push-requires-clause-absent g c =
    let t = c.loop-left-test.true in
    (next_of_range (slot_size g.P.Profile.profile) c.args.base c.loop-left.left c.args.count _ c.args.self.now c.loop-left.self (omega arith) c.loop-left.invariant.within c.loop-left.invariant.pushed c.requires.distinct c.requires.within c.of_node.ensures).0

pub push-requires-clause-within : goal.push-requires-clause-within
push-requires-clause-within g c =
    let t = c.loop-left-test.true in
    (next_of_range (slot_size g.P.Profile.profile) c.args.base c.loop-left.left c.args.count _ c.args.self.now c.loop-left.self (omega arith) c.loop-left.invariant.within c.loop-left.invariant.pushed c.requires.distinct c.requires.within c.of_node.ensures).1

pub loop-left-preserved : goal.loop-left-preserved
loop-left-preserved g c =
    let t = c.loop-left-test.true in
    record {
      within = omega (arith, c.loop-left.invariant.within);
      pushed = c.push.ensures ∙ (next_of_range (slot_size g.P.Profile.profile) c.args.base c.loop-left.left c.args.count _ c.args.self.now c.loop-left.self (omega arith) c.loop-left.invariant.within c.loop-left.invariant.pushed c.requires.distinct c.requires.within c.of_node.ensures).2;
    }
