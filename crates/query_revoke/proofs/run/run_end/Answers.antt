use Rattle.std.proofs.Common.{◌≡◌, length, map, arith, refl, ap, sym, ◌∙◌, get_or, List}
use Rattle.std.proofs.lemmas.List.{length-map}
use Rattle.slot_core.specs.Calls.{derivation_view}
use Rattle.query_revoke.specs.Runs.{EntryBelow, part, is_below_one_of}
use Rattle.query_revoke.proofs.Named.{view_at}
use Rattle.query_revoke.proofs.Runs.{run_begins, run_goes_on, run_ends, run_all}
use Rattle.query_revoke.proofs.run.run_end.Goals as goal

pub loop-end-init : goal.loop-end-init
loop-end-init g c = record {
  low = omega arith;
  high = omega (arith, c.requires.start);
  run = λ once. run_begins c.args.start (map (derivation_view g.P.Profile.profile) c.args.list.now);
}

pub returns-then-not-is_below_one-clause-run : goal.returns-then-not-is_below_one-clause-run
returns-then-not-is_below_one-clause-run g c = λ once.
    let view = derivation_view g.P.Profile.profile in
    let list : List EntryBelow = map view c.args.list.now in
    let d = c.index-list-end.result in
    let m : length list ≡ length c.args.list.now = rw length-map refl in
    let there : get_or list c.loop-end.end (view d) ≡ view d = view_at view c.args.list.now c.loop-end.end d c.loop-end-test.true ∙ ap view (sym c.index-list-end.is) in
    run_ends c.args.start c.loop-end.end list (view d) (omega (arith, m, c.loop-end-test.true))
    (ap (is_below_one_of (part c.args.start c.loop-end.end list)) there ∙ (sym (c.is_below_one.ensures once) ∙ c.if-not-is_below_one.true))
    (c.loop-end.invariant.run once)

pub loop-end-preserved : goal.loop-end-preserved
loop-end-preserved g c =
    let view = derivation_view g.P.Profile.profile in
    let list : List EntryBelow = map view c.args.list.now in
    let d = c.index-list-end.result in
    let m : length list ≡ length c.args.list.now = rw length-map refl in
    let there : get_or list c.loop-end.end (view d) ≡ view d = view_at view c.args.list.now c.loop-end.end d c.loop-end-test.true ∙ ap view (sym c.index-list-end.is) in
    record {
      low = omega (arith, c.loop-end.invariant.low);
      high = omega (arith, c.loop-end-test.true);
      run = λ once. run_goes_on c.args.start c.loop-end.end list (view d) c.loop-end.invariant.low (omega (arith, m, c.loop-end-test.true))
          (ap (is_below_one_of (part c.args.start c.loop-end.end list)) there ∙ (sym (c.is_below_one.ensures once) ∙ c.if-not-is_below_one.false))
          (c.loop-end.invariant.run once);
    }

pub returns-clause-run : goal.returns-clause-run
returns-clause-run g c = λ once.
    let list : List EntryBelow = map (derivation_view g.P.Profile.profile) c.args.list.now in
    let m : length list ≡ length c.args.list.now = rw length-map refl in
    run_all c.args.start c.loop-end.end list (omega (arith, m, c.loop-end-test.false)) (c.loop-end.invariant.run once)
