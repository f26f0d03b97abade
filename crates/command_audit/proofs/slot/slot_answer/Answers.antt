use Rattle.std.proofs.Common.{◌≡◌, Bool, true, false, cond, Some, None, ap, sym, ◌∙◌}
use Rattle.cap_core.specs.Objects.{is_null}
use Rattle.kernel_forest.specs.Forest.{Forest}
use Rattle.kernel_forest.specs.Entries.{Entry, cap_at}
use Rattle.kernel_abstract.specs.Shown.{Shown}
use Rattle.kernel_abstract.specs.State.{State, shown}
use Rattle.kernel_abstract.proofs.Checks.FoundSlots.{full_at}
use Rattle.setup_values.specs.Names.{names_view}
use Rattle.setup_report.specs.Naming.{Texts, naming_view, texts_of}
use Rattle.command_audit.specs.Audit.{slot_audit}
use Rattle.setup_report.proofs.Runs.{derivations_shown}
use Rattle.command_audit.proofs.slot.slot_answer.Goals as goal

same_null : (v : Shown) (A : State) (slot : _) → v ≡ shown A → is_null (cap_at A.derivations slot) ≡ is_null (cap_at v.derivations slot)
same_null v A slot shows = sym (ap (λ (f : Forest Entry). is_null (cap_at f slot)) (ap (λ (w : Shown). w.derivations) shows ∙ derivations_shown A))

pub returns-then-is_cleared : goal.returns-then-is_cleared
returns-then-is_cleared g c = λ A reached shows.
    let p = g.P.Profile.profile in
    let slot = c.args.slot in
    let null : is_null (cap_at A.derivations slot) ≡ true = same_null c.args.kernel.now A slot shows ∙ (sym c.is_cleared.ensures ∙ c.if-is_cleared.true) in
    let texts = texts_of c.args.by_name p (names_view c.args.names.now) c.args.setup.now.plan (shown A) in
    sym (ap (λ (b : Bool). cond b None (Some (slot_audit p texts c.args.setup.now c.args.made slot A))) null)

pub audit_of_slot-requires : goal.audit_of_slot-requires
audit_of_slot-requires g c = full_at c.args.kernel.now.derivations c.args.slot (sym c.is_cleared.ensures ∙ c.if-is_cleared.false)

pub returns : goal.returns
returns g c = λ A reached shows.
    let p = g.P.Profile.profile in
    let slot = c.args.slot in
    let full : is_null (cap_at A.derivations slot) ≡ false = same_null c.args.kernel.now A slot shows ∙ (sym c.is_cleared.ensures ∙ c.if-is_cleared.false) in
    let names = names_view c.args.names.now in
    let texts = texts_of c.args.by_name p names c.args.setup.now.plan (shown A) in
    let same : naming_view c.in_ok-naming.naming ≡ texts =
    c.in_ok-naming.ensures ∙ (λ i. texts_of c.args.by_name p names (c.plan.ensures.plan i) (shows i)) in
    ap Some (c.in_ok-text.ensures A reached shows ∙ ap (λ (t : Texts). slot_audit p t c.args.setup.now c.args.made slot A) same)
    ∙ sym (ap (λ (b : Bool). cond b None (Some (slot_audit p texts c.args.setup.now c.args.made slot A))) full)
