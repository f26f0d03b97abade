use Rattle.std.proofs.Common.{◌≡◌, ◌+◌, subst, ◌++◌, ◌∷◌, [], map, length-append, sym, ap, ◌∙◌, arith}
use Rattle.std.proofs.lemmas.Result.{err_from_is_err_and}
use Rattle.std.proofs.lemmas.List.{drop_all}
use Rattle.std.proofs.lemmas.List.Elements.{All-push}
use Rattle.toml.specs.View.{table_view}
use Rattle.kernel_abstract.specs.Plan.{IsUntypedSize}
use Rattle.setup_values.specs.Kinds.{each}
use Rattle.setup_format.specs.Faults.{Fails}
use Rattle.setup_format.specs.Setups.{untyped_at}
use Rattle.setup_values.proofs.Loops.{goes_on, is_done}
use Rattle.setup_format.proofs.Grammar.Ends.{fails}
use Rattle.setup_format.proofs.reading.untypeds_of.Goals as goal

pub returns-in_err-region-clause-regions : goal.returns-in_err-region-clause-regions
returns-in_err-region-clause-regions g c =
    let read = untyped_at g.P.Profile.profile in
    let p = err_from_is_err_and c.from_residual.result c.from_residual.ensures.1 in
    let e = c.in_err-region.field-0.0 in
    let here : Fails e (read (1 + c.loop-i.i) (table_view c.index-tables-i.result.now)) = c.in_err-region.ensures.region in
    rw (p.1, p.2) (fails (λ t. table_view t.now) read c.loop-i.regions.items 1 c.loop-i.i c.args.tables.now c.index-tables-i.result e
    (each read 1 (map (λ t. table_view t.now) c.args.tables.now)) c.loop-i-test.true (subst (λ t. Fails e (read (1 + c.loop-i.i) (table_view t.now))) c.index-tables-i.is here) c.loop-i.invariant.so_far)

pub loop-i-preserved : goal.loop-i-preserved
loop-i-preserved g c =
    let read = untyped_at g.P.Profile.profile in
    let e : c.push.new.self.items ≡ c.loop-i.regions.items ++ c.in_ok-region.region ∷ [] = c.in_ok-push.ensures.items in
    record {
      count = rw e (length-append c.loop-i.regions.items (c.in_ok-region.region ∷ []) ∙ ap (λ n. n + 1) c.loop-i.invariant.count);
      sized = rw e (All-push (IsUntypedSize g.P.Profile.profile) c.loop-i.regions.items c.in_ok-region.region c.loop-i.invariant.sized c.in_ok-region.ensures.sized);
      so_far = rw e (goes_on (λ t. table_view t.now) read c.loop-i.regions.items 1 c.loop-i.i c.args.tables.now c.index-tables-i.result c.in_ok-region.region
          (each read 1 (map (λ t. table_view t.now) c.args.tables.now)) c.loop-i-test.true
          (ap (λ t. read (1 + c.loop-i.i) (table_view t.now)) (sym c.index-tables-i.is) ∙ c.in_ok-region.ensures.region) c.loop-i.invariant.so_far);
    }

pub returns-clause-regions : goal.returns-clause-regions
returns-clause-regions g c =
    let read = untyped_at g.P.Profile.profile in
    is_done (λ t. table_view t.now) read c.loop-i.regions.items 1 c.loop-i.i c.args.tables.now
    (each read 1 (map (λ t. table_view t.now) c.args.tables.now)) (drop_all c.loop-i.i c.args.tables.now (omega arith)) c.loop-i.invariant.so_far
