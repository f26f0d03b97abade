use Rattle.std.proofs.Common.{◌≡◌, ◌-◌, ◌∙◌, suc, zero, refl, arith}
use Rattle.command_trace.proofs.Digits.{one_more, all_bits}
use Rattle.command_trace.proofs.bits.low_bits.Goals as goal

pub loop-left-preserved : goal.loop-left-preserved
loop-left-preserved c =
    let more : suc (c.loop-left.left - 1) ≡ c.loop-left.left = omega (arith, c.loop-left-test.true) in
    record {
      most = omega (arith, c.loop-left.invariant.most);
      same =
          one_more c.loop-left.bits.items c.push.new.self.items _ (c.loop-left.left - 1) c.loop-left.left c.args.word c.in_ok-push.ensures.items refl more
          ∙ c.loop-left.invariant.same;
    }

pub returns : goal.returns
returns c =
    let none : c.loop-left.left ≡ zero = omega (arith, c.loop-left-test.false) in
    all_bits _ _ c.loop-left.left c.args.word none c.loop-left.invariant.same
