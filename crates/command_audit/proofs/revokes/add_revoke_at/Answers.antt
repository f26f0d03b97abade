use Rattle.std.proofs.Common.{◌≡◌, ◌++◌, Bool, true, false, cond, [], string_bytes, ap, sym, append-nil, subst, ◌∙◌}
use Rattle.kernel_forest.specs.Forest.{Forest}
use Rattle.kernel_forest.specs.Entries.{Entry, cap_at}
use Rattle.kernel_abstract.specs.Shown.{Shown, has_child}
use Rattle.kernel_abstract.specs.State.{State, shown}
use Rattle.query_revoke.specs.Below.{TellBelow}
use Rattle.setup_report.specs.Naming.{naming_view}
use Rattle.command_audit.specs.Revokes.{shown_after_revoke, revoke_lines, lines_of_revoke}
use Rattle.command_audit.proofs.Alone.{alone_lines}
use Rattle.command_audit.proofs.Children.{child_full}
use Rattle.setup_report.proofs.Runs.{derivations_shown}
use Rattle.command_audit.proofs.revokes.add_revoke_at.Goals as goal

same_child : (v : Shown) (A : State) (slot : _) → v ≡ shown A → has_child slot A.derivations ≡ has_child slot v.derivations
same_child v A slot shows = sym (ap (has_child slot) (ap (λ (w : Shown). w.derivations) shows ∙ derivations_shown A))

pub revoked-requires : goal.revoked-requires
revoked-requires g c = child_full c.args.slot c.args.kernel.now.derivations (sym c.has_children.ensures ∙ c.if-not-has_children.false)

pub returns-then-not-has_children : goal.returns-then-not-has_children
returns-then-not-has_children g c = λ A reached shows.
    let p = g.P.Profile.profile in
    let texts = naming_view c.args.naming.now in
    let slot = c.args.slot in
    let none : has_child slot A.derivations ≡ false = same_child c.args.kernel.now A slot shows ∙ (sym c.has_children.ensures ∙ c.if-not-has_children.true) in
    sym (
    ap (λ (b : Bool). string_bytes c.args.out.now ++ cond b (revoke_lines texts (shown A) (shown_after_revoke p A slot) slot) []) none
    ∙ append-nil (string_bytes c.args.out.now))

pub returns-in-Some : goal.returns-in-Some
returns-in-Some g c = λ A reached shows.
    let p = g.P.Profile.profile in
    let texts = naming_view c.args.naming.now in
    let slot = c.args.slot in
    let old = string_bytes c.args.out.now in
    let own : c.args.kernel.now.derivations ≡ A.derivations = ap (λ (w : Shown). w.derivations) shows ∙ derivations_shown A in
    let told : TellBelow p c.args.index.now A.derivations = subst (TellBelow p c.args.index.now) own c.requires.told in
    let alone = (rw c.in-Some.is at c.in_ok-alone.ensures) A.derivations told in
    let one : has_child slot A.derivations ≡ true = same_child c.args.kernel.now A slot shows ∙ (sym c.has_children.ensures ∙ c.if-not-has_children.false) in
    c.in_ok-add_lines.ensures
    ∙ ((λ i. old ++ lines_of_revoke texts slot ((c.cap_at-cap.ensures.cap ∙ ap (λ (f : Forest Entry). cap_at f slot) own) i) c.in-Some.alone.cleared (c.as_slice.ensures.value i))
    ∙ (ap (λ l. old ++ l) (alone_lines p texts A slot c.in-Some.alone told.apart told.full alone)
    ∙ sym (ap (λ (b : Bool). old ++ cond b (revoke_lines texts (shown A) (shown_after_revoke p A slot) slot) []) one)))

pub returns : goal.returns
returns g c = λ A reached shows.
    let p = g.P.Profile.profile in
    let texts = naming_view c.args.naming.now in
    let slot = c.args.slot in
    let one : has_child slot A.derivations ≡ true = same_child c.args.kernel.now A slot shows ∙ (sym c.has_children.ensures ∙ c.if-not-has_children.false) in
    c.in_ok-add_revoke.ensures
    ∙ ((λ i. string_bytes c.args.out.now ++ revoke_lines texts (shows i) (c.in_ok-new.ensures A reached shows i) slot)
    ∙ sym (ap (λ (b : Bool). string_bytes c.args.out.now ++ cond b (revoke_lines texts (shown A) (shown_after_revoke p A slot) slot) []) one))
