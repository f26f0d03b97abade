-- A test of the full slots as they are kept is one of what is seen of them.
use Rattle.std.proofs.Common.{ℕ, ◌*◌, ◌^◌, Option, ◌∙◌, ap₂}
use Rattle.std.specs.List.{list_all}
use Rattle.cap_core.specs.Numbers.{slot_size}
use Rattle.kernel_abstract.specs.Plan.{first_tcb}
use Rattle.kernel_forest.specs.Entries.{Entry}
use Rattle.slot_core.specs.declared.derivations.Derivation.{Derivation}
use Rattle.slot_core.specs.Calls.{derivation_view}
use Rattle.command_import.specs.Laid.{is_known}
use Rattle.command_import.proofs.Rows.{all_seen}
use Rattle.command_import.proofs.laid_out.are_known.Goals as goal

pub returns : goal.returns
returns g c =
    let p = g.P.Profile.profile in
    let objects = c.args.objects.now in
    let slots = c.args.slots.now in
    let plan = c.args.plan.now in
    c.all_known.ensures
    ∙ (ap₂ (λ (end : ℕ) (loader : ℕ). list_all (λ (d : Derivation). is_known p end loader objects slots (derivation_view p d).0.slot) c.args.rows.now) c.root_end-end.ensures c.first_tcb-loader.ensures
    ∙ all_seen (λ (row : Entry × Option ℕ). is_known p (slot_size p * 2 ^ plan.root_radix) (first_tcb p plan) objects slots row.0.slot) (derivation_view p) c.args.rows.now)
