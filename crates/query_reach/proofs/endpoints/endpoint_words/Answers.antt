use Rattle.std.proofs.Common.{arith, ap, ◌∙◌}
use Rattle.query_reach.specs.declared.reached.Reached.{Reached}
use Rattle.query_reach.specs.Endpoints.{endpoint_words}
use Rattle.query_reach.proofs.Sending.{words_some, words_none, all_of}
use Rattle.query_reach.proofs.endpoints.endpoint_words.Goals as goal
use Rattle.query_reach.proofs.endpoints.endpoint_words.Goals.{in-Some+in_ok-push, in_default}

pub loop-r-preserved : goal.loop-r-preserved
loop-r-preserved c =
    let none : Reached = record { word = 0; slot = 0 } in
    elim c.match-endpoint_word.branch [
      | in-Some+in_ok-push w ↦ rw (w.list-is, w.in_ok-push.ensures.items)
          (λ f are. words_some f c.args.thread c.args.shared c.args.reached.now c.loop-r.r-index none w.in-Some.found c.loop-r.list.items c.loop-r-test.true
          (c.loop-r.invariant f are) (w.in-Some.ensures f are))
      | in_default w ↦ rw w.list-is
          (λ f are. words_none f c.args.thread c.args.shared c.args.reached.now c.loop-r.r-index none c.loop-r.list.items c.loop-r-test.true
          (c.loop-r.invariant f are) (w.in_default.ensures f are))
    ]

pub returns : goal.returns
returns c f are = c.loop-r.invariant f are ∙ ap (endpoint_words f c.args.thread c.args.shared) (all_of c.args.reached.now c.loop-r.r-index (omega (arith, c.loop-r-test.false)))
