use Rattle.std.proofs.Common.{arith}
use Rattle.command_trace.proofs.Ends.{one_more_back}
use Rattle.command_trace.proofs.lines.rows.same_back.Goals as goal

pub loop-count-preserved : goal.loop-count-preserved
loop-count-preserved g c =
    let old = c.args.old.now in
    let new = c.args.new.now in
    let k = c.loop-count.count in
    record {
      old = omega (arith, c.loop-count-test.true);
      new = omega (arith, c.if-count-new.true);
      same = λ texts. one_more_back (g.R.Row.lines texts) old new k c.index-old-old.result c.index-new-new.result (omega (arith, c.loop-count-test.true)) (omega (arith, c.if-count-new.true))
          c.index-old-old.is c.index-new-new.is (c.is_same.ensures c.if-not-is_same.false texts) (c.loop-count.invariant.same texts);
    }
