use Rattle.std.proofs.Common.{◌≡◌, sym, ap, ◌∙◌}
use Rattle.toml.specs.View.{table_view}
use Rattle.setup_migrate.specs.Migration.{migrated}
use Rattle.setup_migrate.proofs.Law.Bytes.{IsRewritten, table_of_bytes, setup_of_table, setup_as_read}
use Rattle.setup_migrate.proofs.migration.migrate.Goals.{in-Wide+in_ok-rewrite-in-Wide, in-Narrow+in_ok-rewrite-in-Narrow}
use Rattle.setup_migrate.proofs.migration.migrate.Goals as goal

rewritten : (c : goal.After-drop-setup-inside-4) → table_view c.match-profile.table ≡ migrated c.in_ok-setup.setup.profile c.in_ok-setup.setup.plan (table_view c.in_ok-table.table)
rewritten c =
    let t = table_view c.in_ok-table.table in
    let s = c.in_ok-setup.setup in
    elim c.match-profile.branch [
      | in-Wide+in_ok-rewrite-in-Wide w ↦
          ap table_view w.table-is
          ∙ (w.in_ok-rewrite-in-Wide.ensures
          ∙ (ap (λ q. migrated q w.plan.result.now t) (sym w.in-Wide.is ∙ c.profile.ensures) ∙ ap (λ q. migrated s.profile q t) w.plan.ensures.plan))
      | in-Narrow+in_ok-rewrite-in-Narrow w ↦
          ap table_view w.table-is
          ∙ (w.in_ok-rewrite-in-Narrow.ensures
          ∙ (ap (λ q. migrated q w.plan-in-Narrow.result.now t) (sym w.in-Narrow.is ∙ c.profile.ensures) ∙ ap (λ q. migrated s.profile q t) w.plan-in-Narrow.ensures.plan))
    ]

is_rewritten : (c : goal.After-drop-setup-inside-4) → IsRewritten c.args.bytes.now (table_view c.in_ok-table.table) (table_view c.match-profile.table) c.in_ok-setup.setup
is_rewritten c = record { document = c.in_ok-table.ensures; read = c.in_ok-setup.ensures.setup; rewritten = rewritten c }

pub returns-clause-table : goal.returns-clause-table
returns-clause-table c = table_of_bytes _ _ _ _ (is_rewritten c)

pub returns-clause-same_setup : goal.returns-clause-same_setup
returns-clause-same_setup c = setup_of_table _ _ _ _ (is_rewritten c) c.in_ok-setup.ensures.plan

pub returns-clause-same_as_read : goal.returns-clause-same_as_read
returns-clause-same_as_read c = setup_as_read _ _ _ _ (is_rewritten c) c.in_ok-setup.ensures.plan
