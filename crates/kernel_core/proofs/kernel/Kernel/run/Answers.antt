-- The proof of `run`: the goals that a search leaves open.
use Rattle.std.proofs.Common.{◌≡◌, ◌++◌, List, ap, ◌∙◌, take, arith}
use Rattle.std.proofs.lemmas.List.{take_all}
use Rattle.kernel_abstract.specs.declared.call.Call.{Call}
use Rattle.kernel_abstract.specs.Step.{state_after, replies_of}
use Rattle.kernel_abstract.proofs.Reached.Runs.{reached_after, run_more}
use Rattle.kernel_abstract.proofs.Messages.CompletedPairs.{replies_grow}
use Rattle.kernel_core.proofs.kernel.Kernel.run.Goals as goal

pub loop-call-preserved : goal.loop-call-preserved
loop-call-preserved g c =
    let p = g.P.Profile.profile in
    let calls = c.args.calls.now in
    let i = c.loop-call.call-index in
    record {
      room = omega arith;
      so_far = λ A r s. (run_more p A calls i _ _ _ _ _ _ c.loop-call-test.true (c.step-reply.ensures.stands (state_after p A (take i calls)) (reached_after p A (take i calls) r) (c.loop-call.invariant.stands A r s)) (c.loop-call.invariant.so_far A r s) c.push_reserved.ensures.items).0;
      stands = λ A r s. (run_more p A calls i _ _ _ _ _ _ c.loop-call-test.true (c.step-reply.ensures.stands (state_after p A (take i calls)) (reached_after p A (take i calls) r) (c.loop-call.invariant.stands A r s)) (c.loop-call.invariant.so_far A r s) c.push_reserved.ensures.items).1;
      within = λ memory h. c.step-reply.ensures.within memory (c.loop-call.invariant.within memory h);
    }

pub returns-clause-in_order : goal.returns-clause-in_order
returns-clause-in_order g c A r s e =
    let p = g.P.Profile.profile in
    let calls = c.args.calls.now in
    let whole : take c.loop-call.call-index calls ≡ calls = take_all c.loop-call.call-index calls (omega arith) in
    replies_grow p A calls c.args.replies.now.items _ r
    (c.loop-call.invariant.so_far A r s ∙ ap (λ (cs : List Call). c.args.replies.now.items ++ replies_of p A cs) whole) e
