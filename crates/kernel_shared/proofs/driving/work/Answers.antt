use Rattle.std.proofs.Common.{rules, ◌≡◌}
use Rattle.kernel_shared.proofs.Drives.{IsMade, made_more, ran_to, ran_by}
use Rattle.kernel_shared.proofs.driving.work.Goals as goal

pub loop-call-preserved : goal.loop-call-preserved
loop-call-preserved g c =
    let v = c.loop-call.invariant in
    let m : IsMade c.args.client c.args.calls.now c.loop-call.call-index c.loop-call.client = record { id = v.id; done = v.done; stray = v.stray; later = v.later; grown = v.grown } in
    let e = c.in_default.ensures in
    let r = made_more c.args.client c.loop-call.client c.call-reply.new.client c.args.calls.now c.loop-call.call-index _ m (search rules) (search rules) e.id e.answered.counted e.answered.whole e.later e.made in
    record { id = r.id; done = r.done; stray = r.stray; later = r.later; grown = r.grown }

pub returns-in-Err : goal.returns-in-Err
returns-in-Err g c =
    let v = c.loop-call.invariant in
    let m : IsMade c.args.client c.args.calls.now c.loop-call.call-index c.loop-call.client = record { id = v.id; done = v.done; stray = v.stray; later = v.later; grown = v.grown } in
    let e = c.in-Err.ensures in
    let d = c.thread_result-in-Err.ensures in
    let r = ran_to c.args.client c.loop-call.client c.call-reply.new.client c.args.calls.now c.loop-call.call-index _ g.G.Gate.ends g.N.Naming.limit c.end_of-end.result m (search rules) (search rules) e.id e.unanswered e.later c.end_of-end.ensures.stops (c.end_of-end.ensures.told _ e.told) e.unmade e.lost (λ l is. (e.stuck l is).1) in
    let n : c.thread_result-in-Err.result.made ≡ c.loop-call.call-index = search rules in
    ran_by g.G.Gate.ends g.N.Naming.limit c.args.client c.args.calls.now _ _ _ _ _ _ d.client n d.end r
