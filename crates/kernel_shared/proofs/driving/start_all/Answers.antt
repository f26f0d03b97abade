use Rattle.std.proofs.Common.{rules, ◌≡◌, Vec, Global, List, length, get_or, ap, sym, ◌∙◌, subst, arith}
use Rattle.std.proofs.lemmas.List.{map-id}
use Rattle.std.proofs.lemmas.Grind.{common_steps}
use Rattle.std.proofs.lemmas.Option.{get_or_from_slice_get}
use Rattle.std.proofs.lemmas.Iterator.Consumers.{YieldsList-end}
use Rattle.std.proofs.lemmas.Iterator.Adapters.{YieldsList-from_vec}
use Rattle.std.specs.declared.thread.PromisedHandle.{PromisedHandle}
use Rattle.kernel_abstract.specs.declared.call.Call.{Call}
use Rattle.kernel_shared.specs.ClientStates.{ClientState}
use Rattle.kernel_shared.specs.declared.driving.Owed.{Owed}
use Rattle.kernel_shared.specs.declared.driving.ThreadResult.{ThreadResult}
use Rattle.kernel_shared.specs.Driving.{EachThree}
use Rattle.kernel_shared.proofs.Threes.{three_pushed_at}
use Rattle.kernel_shared.proofs.driving.start_all.Goals as goal

pub loop-client-preserved : goal.loop-client-preserved
loop-client-preserved g c = record {
  place = grind (arith, common_steps);
  len = grind (arith, common_steps);
  room = grind (arith, common_steps);
  each =
      three_pushed_at (λ (x : ClientState) (y : Vec Call Global) (h : PromisedHandle (ThreadResult g.row.N.Denot g.row.T.Denot) (Owed g.row.N.Denot g.row.T.Denot g.row.G.Denot)). (h.promise.client.value ≡ x) × (h.promise.calls.value ≡ y)) _ _ _ _ _ _ c.push_reserved.ensures.items c.loop-client.invariant.len c.loop-client.invariant.each
      (λ y e. let h = c.in-Ok-spawn_with.ensures.ok in
      let at : c.index-lists-place.result ≡ y = c.index-lists-place.is ∙ (ap (λ i. get_or c.args.lists.now i c.index-lists-place.result) c.loop-client.invariant.place ∙ get_or_from_slice_get c.args.lists.now (length c.loop-client.yielded) y c.index-lists-place.result e) in
      (ap (λ p. p.client.value) h ∙ c.of.ensures, ap (λ p. p.calls.value) h ∙ (c.of-in-loop-client.ensures ∙ at)));
}

pub returns-clause-each : goal.returns-clause-each
returns-clause-each g c =
    let into = c.into_iter-client-iterator.ensures.into_iter_gives in
    let long : c.into_iter-client-iterator.result.rest.len ≡ length c.args.clients.items = search rules in
    let y = YieldsList-end (YieldsList-from_vec {Z = Global} c.args.clients.items into.0 long) c.loop-client.yielded c.loop-client.client-iterator c.loop-client.yielded_by _ c.next.new.self c.in-None.is c.next.ensures.steps in
    let all : c.loop-client.yielded ≡ c.args.clients.items = sym (map-id c.loop-client.yielded) ∙ y.0 in
    subst (λ (xs : List ClientState). EachThree xs c.args.lists.now c.loop-client.handles.items (λ x y h. (h.promise.client.value ≡ x) × (h.promise.calls.value ≡ y))) all c.loop-client.invariant.each
