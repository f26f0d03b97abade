use Rattle.std.proofs.Common.{◌≡◌, ◌+◌, ◌<◌, subst, ◌++◌, ◌∷◌, [], map, length-append, sym, ap, ◌∙◌, arith}
use Rattle.std.proofs.lemmas.Result.{err_from_is_err_and}
use Rattle.std.proofs.lemmas.List.{drop_all}
use Rattle.std.proofs.lemmas.List.Elements.{All-push}
use Rattle.toml.specs.View.{table_view}
use Rattle.setup_values.specs.Kinds.{each}
use Rattle.setup_format.specs.Faults.{Fails}
use Rattle.setup_format.specs.Views.{call_view, CallView}
use Rattle.setup_values.specs.Names.{names_view}
use Rattle.setup_format.specs.Setups.{call_at}
use Rattle.setup_values.proofs.Loops.{goes_on, is_done}
use Rattle.setup_format.proofs.Grammar.Ends.{fails}
use Rattle.setup_format.proofs.reading.calls_of.Goals as goal

pub returns-in_err-row-clause-calls : goal.returns-in_err-row-clause-calls
returns-in_err-row-clause-calls g c =
    let read = call_at g.P.Profile.profile (names_view c.args.names.now) c.args.clients in
    let p = err_from_is_err_and c.from_residual.result c.from_residual.ensures.1 in
    let e = c.in_err-row.field-0.0 in
    let here : Fails e (read (1 + c.loop-i.i) (table_view c.index-tables-i.result.now)) = c.in_err-row.ensures.call in
    rw (p.1, p.2) (fails (λ t. table_view t.now) read c.loop-i.calls 1 c.loop-i.i c.args.tables.now c.index-tables-i.result e
    (each read 1 (map (λ t. table_view t.now) c.args.tables.now)) c.loop-i-test.true (subst (λ t. Fails e (read (1 + c.loop-i.i) (table_view t.now))) c.index-tables-i.is here) c.loop-i.invariant.so_far)

pub loop-i-preserved : goal.loop-i-preserved
loop-i-preserved g c =
    let read = call_at g.P.Profile.profile (names_view c.args.names.now) c.args.clients in
    let view = call_view c.in_ok-row.row.0 c.in_ok-row.row.1 in
    let e : c.push.new.self ≡ c.loop-i.calls ++ view ∷ [] = c.in_ok-push.ensures in
    record {
      count = rw e (length-append c.loop-i.calls (view ∷ []) ∙ ap (λ n. n + 1) c.loop-i.invariant.count);
      clients = rw e (All-push (λ (v : CallView). v.client < c.args.clients) c.loop-i.calls view c.loop-i.invariant.clients c.in_ok-row.ensures.client);
      so_far = rw e (goes_on (λ t. table_view t.now) read c.loop-i.calls 1 c.loop-i.i c.args.tables.now c.index-tables-i.result view
          (each read 1 (map (λ t. table_view t.now) c.args.tables.now)) c.loop-i-test.true
          (ap (λ t. read (1 + c.loop-i.i) (table_view t.now)) (sym c.index-tables-i.is) ∙ c.in_ok-row.ensures.call) c.loop-i.invariant.so_far);
    }

pub returns-clause-calls : goal.returns-clause-calls
returns-clause-calls g c =
    let read = call_at g.P.Profile.profile (names_view c.args.names.now) c.args.clients in
    is_done (λ t. table_view t.now) read c.loop-i.calls 1 c.loop-i.i c.args.tables.now
    (each read 1 (map (λ t. table_view t.now) c.args.tables.now)) (drop_all c.loop-i.i c.args.tables.now (omega arith)) c.loop-i.invariant.so_far
