use Rattle.std.proofs.Common.{sym, ap, ◌∙◌}
use Rattle.toml.specs.Data.{table}
use Rattle.toml.proofs.Views.{view-Table}
use Rattle.setup_migrate.proofs.Law.Calls.{call_of_table, call_of_none}
use Rattle.setup_migrate.proofs.calls.name_call.Goals as goal

pub returns-in_ok-name_thread : goal.returns-in_ok-name_thread
returns-in_ok-name_thread g c =
    view-Table _ ∙ (ap table c.in_ok-name_thread.ensures ∙ sym (call_of_table g.P.Profile.profile c.args.plan.now _ _ c.in-Some.ensures.value))

pub returns-in_default : goal.returns-in_default
returns-in_default g c = sym (call_of_none g.P.Profile.profile c.args.plan.now _ c.in_default.ensures.value)
