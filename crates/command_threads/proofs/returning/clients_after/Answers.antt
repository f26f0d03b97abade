use Rattle.std.proofs.Common.{rules, ◌≡◌, List, [], ◌∷◌, ◌++◌, Global, All, None, length, map, ap, sym, ◌∙◌, subst, arith}
use Rattle.std.proofs.lemmas.List.{map-id, map_push}
use Rattle.std.proofs.lemmas.List.Elements.{All-push}
use Rattle.std.proofs.lemmas.Grind.{common_steps}
use Rattle.std.proofs.lemmas.Iterator.Consumers.{YieldsList-end}
use Rattle.std.proofs.lemmas.Iterator.Adapters.{YieldsList-from_vec}
use Rattle.kernel_shared.specs.declared.driving.Driven.{Driven}
use Rattle.kernel_shared.specs.ClientStates.{ClientState}
use Rattle.command_threads.specs.Private.Settled.{IsFinished}
use Rattle.command_threads.proofs.returning.clients_after.Goals as goal

pub loop-driven-preserved : goal.loop-driven-preserved
loop-driven-preserved g c =
    let f = λ (d : Driven g.row.N.Denot g.row.T.Denot). d.client in
    let before = c.loop-driven.invariant in
    let pushed = c.push_reserved.ensures.items in
    let client : ClientState = c.in_ok-client_after.field-0 in
    let is : client ≡ c.in-Some.driven.client = c.in_ok-client_after.ensures.same in
    let kept : client.stray ≡ None = c.in_ok-client_after.ensures.whole in
    record {
      len = grind (arith, common_steps);
      room = grind (arith, common_steps);
      same =
          pushed
          ∙ (ap (λ (l : List ClientState). l ++ client ∷ []) before.same
          ∙ (ap (λ (t : ClientState). map f c.loop-driven.yielded ++ t ∷ []) is ∙ sym (map_push f c.loop-driven.yielded c.in-Some.driven)));
      whole = subst (λ (l : List ClientState). All (λ (t : ClientState). t.stray ≡ None) l) (sym pushed) (All-push (λ (t : ClientState). t.stray ≡ None) c.loop-driven.clients.items client before.whole kept);
      finished = All-push (λ (d : Driven g.row.N.Denot g.row.T.Denot). IsFinished d.stopped) c.loop-driven.yielded c.in-Some.driven before.finished c.in_ok-client_after.ensures.finished;
    }

pub returns-clause-same : goal.returns-clause-same
returns-clause-same g c =
    let into = c.into_iter-driven-iterator.ensures.into_iter_gives in
    let long : c.into_iter-driven-iterator.result.rest.len ≡ length c.args.all.items = search rules in
    let y = YieldsList-end (YieldsList-from_vec {Z = Global} c.args.all.items into.0 long) c.loop-driven.yielded c.loop-driven.driven-iterator c.loop-driven.yielded_by _ c.next.new.self c.in-None.is c.next.ensures.steps in
    let all : c.loop-driven.yielded ≡ c.args.all.items = sym (map-id c.loop-driven.yielded) ∙ y.0 in
    c.loop-driven.invariant.same ∙ ap (map (λ (d : Driven g.row.N.Denot g.row.T.Denot). d.client)) all

pub returns-clause-finished : goal.returns-clause-finished
returns-clause-finished g c =
    let into = c.into_iter-driven-iterator.ensures.into_iter_gives in
    let long : c.into_iter-driven-iterator.result.rest.len ≡ length c.args.all.items = search rules in
    let y = YieldsList-end (YieldsList-from_vec {Z = Global} c.args.all.items into.0 long) c.loop-driven.yielded c.loop-driven.driven-iterator c.loop-driven.yielded_by _ c.next.new.self c.in-None.is c.next.ensures.steps in
    let all : c.loop-driven.yielded ≡ c.args.all.items = sym (map-id c.loop-driven.yielded) ∙ y.0 in
    subst (All (λ (d : Driven g.row.N.Denot g.row.T.Denot). IsFinished d.stopped)) all c.loop-driven.invariant.finished
