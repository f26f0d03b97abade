-- Each call that is the same is counted.
use Rattle.std.proofs.Common.{◌≡◌, ◌∙◌, arith}
use Rattle.command_marks.specs.Differences.{same_front}
use Rattle.command_marks.proofs.Fronts.{front_goes, front_stops, front_ends}
use Rattle.command_marks.proofs.differences.same_front.Goals as goal

pub returns-then-not-is_same_call : goal.returns-then-not-is_same_call
returns-then-not-is_same_call c =
    front_stops c.args.a.now c.args.b.now c.loop-i.i (same_front c.args.a.now c.args.b.now) _ _ c.is_same_call.result (omega arith) c.is_same_call.ensures c.if-not-is_same_call.true
    c.loop-i.invariant

pub returns : goal.returns
returns c =
    let past : c.min-shorter.result ≡ c.loop-i.i = omega arith in
    past ∙ front_ends c.args.a.now c.args.b.now c.loop-i.i (same_front c.args.a.now c.args.b.now) (omega arith) c.loop-i.invariant

pub loop-i-preserved : goal.loop-i-preserved
loop-i-preserved c =
    front_goes c.args.a.now c.args.b.now c.loop-i.i (same_front c.args.a.now c.args.b.now) _ _ c.is_same_call.result (omega arith) c.is_same_call.ensures c.if-not-is_same_call.false
    c.loop-i.invariant
