-- What is answered by the kernel is answered by the state that it shows.
use Rattle.std.proofs.Common.{◌≡◌, ℕ, Bool, true, false, List, [], map, Bor, ap, sym, subst, ◌∙◌}
use Rattle.std.specs.Prelude.{MatchBool}
use Rattle.setup_values.specs.Names.{names_view}
use Rattle.setup_report.specs.declared.meanings.meant.ObjectKind.TheVariants.{Thread}
use Rattle.setup_report.specs.Meant.{are_meant, objects_meant}
use Rattle.kernel_abstract.specs.Shown.{Shown}
use Rattle.kernel_abstract.specs.State.{shown}
use Rattle.command_core.specs.declared.fault.Verdict.TheVariants.{AllMet, Absent}
use Rattle.command_audit.specs.Audit.{IsWholeAudit}
use Rattle.setup_report.specs.Behind.{state_behind}
use Rattle.setup_report.specs.Naming.{texts_of}
use Rattle.command_audit.proofs.Behind.{behind_reached}
use Rattle.command_audit.proofs.others.StateAuditStateCommand.answer.Goals as goal

pub returns-then-not-are_meant : goal.returns-then-not-are_meant
returns-then-not-are_meant g c =
    let p = g.P.Profile.profile in
    let names = names_view c.args.behind.now.names.now in
    let setup = c.args.behind.now.setup.now in
    let made = c.args.behind.now.made in
    let A = state_behind p setup made in
    let words : List (List ℕ) = map (λ (w : Bor (List ℕ)). w.now) c.args.self.now.without.now in
    let no : are_meant Thread p names setup.plan (shown A) words ≡ false =
    ap (λ (v : Shown). are_meant Thread p names setup.plan v words) (sym c.requires.shows) ∙ (sym c.are_meant.ensures ∙ c.if-not-are_meant.true) in
    subst (λ (b : Bool). MatchBool b
    (IsWholeAudit p names (texts_of c.args.self.now.names p names setup.plan (shown A)) (objects_meant Thread p names setup.plan (shown A) words) setup made A c.absent-none.result.text.items × (c.absent-none.result.verdict ≡ AllMet))
    ((c.absent-none.result.text.items ≡ []) × (c.absent-none.result.verdict ≡ Absent)))
    (sym no) (c.absent-none.ensures.text, c.absent-none.ensures.verdict)

pub returns : goal.returns
returns g c =
    let p = g.P.Profile.profile in
    let names = names_view c.args.behind.now.names.now in
    let setup = c.args.behind.now.setup.now in
    let made = c.args.behind.now.made in
    let A = state_behind p setup made in
    let words : List (List ℕ) = map (λ (w : Bor (List ℕ)). w.now) c.args.self.now.without.now in
    let yes : are_meant Thread p names setup.plan (shown A) words ≡ true =
    ap (λ (v : Shown). are_meant Thread p names setup.plan v words) (sym c.requires.shows) ∙ (sym c.are_meant.ensures ∙ c.if-not-are_meant.false) in
    let trusted : c.as_slice-trusted.result.now ≡ objects_meant Thread p names setup.plan (shown A) words =
    c.as_slice-trusted.ensures.value ∙ (c.in_ok-trusted.ensures ∙ ap (λ (v : Shown). objects_meant Thread p names setup.plan v words) c.requires.shows) in
    let whole : IsWholeAudit p names (texts_of c.args.self.now.names p names setup.plan (shown A)) (objects_meant Thread p names setup.plan (shown A) words) setup made A c.in_ok-text.text.items =
    subst (λ (t : List ℕ). IsWholeAudit p names (texts_of c.args.self.now.names p names setup.plan (shown A)) t setup made A c.in_ok-text.text.items) trusted
    (c.in_ok-text.ensures A (behind_reached p setup made c.requires.plan) c.requires.shows) in
    subst (λ (b : Bool). MatchBool b
    (IsWholeAudit p names (texts_of c.args.self.now.names p names setup.plan (shown A)) (objects_meant Thread p names setup.plan (shown A) words) setup made A c.new-answer.result.text.items × (c.new-answer.result.verdict ≡ AllMet))
    ((c.new-answer.result.text.items ≡ []) × (c.new-answer.result.verdict ≡ Absent)))
    (sym yes) (
      subst (λ (l : List ℕ). IsWholeAudit p names (texts_of c.args.self.now.names p names setup.plan (shown A)) (objects_meant Thread p names setup.plan (shown A) words) setup made A l) (sym (ap (λ v. v.items) c.new-answer.ensures.text)) whole,
      c.new-answer.ensures.verdict,
    )
