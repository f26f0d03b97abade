use Rattle.std.proofs.Common.{ap, option_and_then, ◌∙◌}
use Rattle.slot_core.specs.declared.derivations.Derivation.{Derivation}
use Rattle.setup_values.specs.Names.{names_view}
use Rattle.setup_values.specs.Told.{name_of}
use Rattle.setup_report.proofs.objects.boot_name.Goals as goal

pub returns-in-Some : goal.returns-in-Some
returns-in-Some c =
    c.thread_name.ensures.name
    ∙ (ap (name_of (names_view c.args.names.now)) c.index.ensures
    ∙ ap (option_and_then (λ (d : Derivation). name_of (names_view c.args.names.now) d.slot.place)) c.in-Some.ensures)
