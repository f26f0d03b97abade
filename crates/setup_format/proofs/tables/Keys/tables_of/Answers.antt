use Rattle.std.proofs.Common.{◌≡◌, ◌+◌, ◌++◌, ◌∷◌, [], map, length, length-append, sym, ap, ◌∙◌, arith}
use Rattle.std.proofs.lemmas.List.{map_push, drop_all}
use Rattle.std.proofs.lemmas.Result.{err_from_is_err_and}
use Rattle.toml.specs.Data.{as_table}
use Rattle.toml.specs.View.{view, table_view}
use Rattle.setup_values.specs.Kinds.{seen, each, table_in}
use Rattle.setup_format.specs.Tables.{at_key}
use Rattle.setup_values.proofs.Loops.{goes_on, ends, is_done}
use Rattle.setup_format.proofs.Grammar.Entries.{fails_at}
use Rattle.setup_format.proofs.tables.Keys.tables_of.Goals as goal

pub returns-in_err-table-clause-tables : goal.returns-in_err-table-clause-tables
returns-in_err-table-clause-tables g c =
    let total = each (λ _ e. table_in (as_table e)) 0 (map view c.args.elements.now) in
    let error = err_from_is_err_and c.from_residual.result c.from_residual.ensures.1 in
    rw (error.1, error.2) (fails_at c.in_err-table.field-0.0 c.args.self.now.place c.args.key.now c.table_in.result total
    (λ w is. ends view (λ _ e. table_in (as_table e)) (map (λ t. table_view t.now) c.loop-element.tables.items) 0 c.loop-element.element-index c.args.elements.now c.element-item.result w total c.loop-element-test.true
    (ap (λ v. table_in (as_table (view v))) (sym c.element-item.is) ∙ (sym c.table_in.ensures ∙ ap (seen (λ t. table_view t.now)) is)) c.loop-element.invariant.so_far)
    c.in_err-table.ensures.read)

pub loop-element-preserved : goal.loop-element-preserved
loop-element-preserved g c =
    let i = c.loop-element.element-index in
    let t = c.in_ok-table.table in
    let pushed : c.push.new.self.items ≡ c.loop-element.tables.items ++ t ∷ [] = c.in_ok-push.ensures.items in
    let e : map (λ t. table_view t.now) c.push.new.self.items ≡ map (λ t. table_view t.now) c.loop-element.tables.items ++ table_view t.now ∷ [] = rw pushed (map_push _ c.loop-element.tables.items t) in
    let more : length c.push.new.self.items ≡ i + 1 = ap length pushed ∙ (length-append c.loop-element.tables.items (t ∷ []) ∙ ap (λ n. n + 1) c.loop-element.invariant.count) in
    record {
      count = more;
      so_far = rw e (goes_on view (λ _ e. table_in (as_table e)) (map (λ t. table_view t.now) c.loop-element.tables.items) 0 i c.args.elements.now c.element-item.result (table_view t.now)
          (each (λ _ e. table_in (as_table e)) 0 (map view c.args.elements.now)) c.loop-element-test.true
          (ap (λ v. table_in (as_table (view v))) (sym c.element-item.is) ∙ (sym c.table_in.ensures ∙ ap (seen (λ t. table_view t.now)) c.in_ok-table.ensures.same)) c.loop-element.invariant.so_far);
    }

pub returns-clause-tables : goal.returns-clause-tables
returns-clause-tables g c =
    ap (at_key c.args.self.now.place c.args.key.now) (is_done view (λ _ e. table_in (as_table e)) (map (λ t. table_view t.now) c.loop-element.tables.items) 0 c.loop-element.element-index c.args.elements.now
    (each (λ _ e. table_in (as_table e)) 0 (map view c.args.elements.now)) (drop_all c.loop-element.element-index c.args.elements.now (omega arith)) c.loop-element.invariant.so_far)
