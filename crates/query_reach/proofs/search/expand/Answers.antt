use Rattle.std.proofs.Common.{arith, length}
use Rattle.query_reach.proofs.NextWords.{next_inside}
use Rattle.query_reach.proofs.Tabled.{same_shape, shapes, spread_more, spread_from, spread_all}
use Rattle.query_reach.proofs.search.expand.Goals as goal

pub loop-place-init : goal.loop-place-init
loop-place-init g c = record {
  shape = same_shape _ _ c.requires.wide;
  spreads = spread_from g.P.Profile.profile c.args.from c.args.left c.args.word c.args.filled.now _ _ (λ k t w n. (c.places_in-start.ensures.all k n.0 n.1.0 (next_inside g.P.Profile.profile c.args.from c.args.left c.args.word n.0.address n.0.cap t w n.1.1)).0);
}

pub loop-place-preserved : goal.loop-place-preserved
loop-place-preserved g c =
    record {
      shape = shapes _ _ _ _ c.loop-place.invariant.shape c.in_ok-visit.ensures.shape;
      spreads = spread_more g.P.Profile.profile c.args.from c.args.left c.args.word c.args.filled.now c.loop-place.place _ _ _
          c.loop-place.invariant.spreads c.in_ok-visit.ensures.visits;
    }

pub returns-clause-spreads : goal.returns-clause-spreads
returns-clause-spreads g c =
    spread_all g.P.Profile.profile c.args.from c.args.left c.args.word c.args.filled.now c.loop-place.place (length c.args.filled.now) _ _
    (λ k t w n. let b = (c.places_in-start.ensures.all k n.0 n.1.0 (next_inside g.P.Profile.profile c.args.from c.args.left c.args.word n.0.address n.0.cap t w n.1.1)).1 in omega (arith, b, c.loop-place-test.false))
    c.loop-place.invariant.spreads
