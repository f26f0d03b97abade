use Rattle.std.proofs.Common.{rules, ℕ, ◌≡◌, Global, List, Some, length, slice_get, sym, ◌∙◌, subst, arith}
use Rattle.std.proofs.lemmas.List.{map-id}
use Rattle.std.proofs.lemmas.Grind.{common_steps}
use Rattle.std.proofs.lemmas.Iterator.Consumers.{YieldsList-end}
use Rattle.std.proofs.lemmas.Iterator.Adapters.{YieldsList-from_vec}
use Rattle.kernel_shared.specs.declared.driving.ThreadResult.{ThreadResult}
use Rattle.kernel_shared.specs.declared.driving.Driven.{Driven}
use Rattle.kernel_shared.specs.Driving.{IsFinish}
use Rattle.kernel_shared.proofs.Drives.{two_pushed_at}
use Rattle.kernel_shared.proofs.driving.finish_all.Goals as goal

pub loop-ran-preserved : goal.loop-ran-preserved
loop-ran-preserved g c = let f = c.finish.ensures in record {
  len = grind (arith, common_steps);
  room = grind (arith, common_steps);
  each =
      two_pushed_at (λ (r : ThreadResult g.row.N.Denot g.row.T.Denot) (d : Driven g.row.N.Denot g.row.T.Denot). IsFinish g.G.Gate.ends g.N.Naming.limit r.client r.made r.end d.client d.made d.stopped) _ _ _ _ _ c.push_reserved.ensures.items c.loop-ran.invariant.len c.loop-ran.invariant.each
      (record { client_is = f.client; made_is = f.made; ended = f.ended; told = f.told });
}

pub returns-clause-each : goal.returns-clause-each
returns-clause-each g c =
    let into = c.into_iter-ran-iterator.ensures.into_iter_gives in
    let long : c.into_iter-ran-iterator.result.rest.len ≡ length c.args.all.items = search rules in
    let y = YieldsList-end (YieldsList-from_vec {Z = Global} c.args.all.items into.0 long) c.loop-ran.yielded c.loop-ran.ran-iterator c.loop-ran.yielded_by _ c.next.new.self c.in-None.is c.next.ensures.steps in
    let all : c.loop-ran.yielded ≡ c.args.all.items = sym (map-id c.loop-ran.yielded) ∙ y.0 in
    subst (λ (xs : List (ThreadResult g.row.N.Denot g.row.T.Denot)). (i : ℕ) (r : ThreadResult g.row.N.Denot g.row.T.Denot) (d : Driven g.row.N.Denot g.row.T.Denot) → slice_get xs i ≡ Some r → slice_get c.loop-ran.done.items i ≡ Some d → IsFinish g.G.Gate.ends g.N.Naming.limit r.client r.made r.end d.client d.made d.stopped) all c.loop-ran.invariant.each
