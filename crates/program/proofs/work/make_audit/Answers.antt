-- No slot is named, and the words are those of `--without`.
use Rattle.std.proofs.Common.{◌∙◌, ℕ, List, Option, None, option_map, IfOk, sym, ap, subst}
use Rattle.std.specs.Borrow.{Bor}
use Rattle.clap.specs.Walk.{texts}
use Rattle.command_check.specs.Commands.{IsAnswerTo, IsStateAnswer}
use Rattle.command_audit.specs.Audits.{IsStateAudited}
use Rattle.program.specs.Jobs.{IsAuditAt}
use Rattle.program.proofs.work.make_audit.Goals as goal

pub returns-clause-made : goal.returns-clause-made
returns-clause-made c =
    let options = c.args.options in
    let input = c.args.input.now in
    let By : List (List ℕ) → Type 0 = λ words.
    IfOk c.on_state.result (λ made. IsAnswerTo (IsStateAnswer (IsStateAudited words options.names) options.after) input made.text.items made.verdict) in
    let At : Option (List ℕ) → Type 0 = λ slot. IfOk c.on_state.result (λ made. IsAuditAt options slot input made.text.items made.verdict) in
    let audited : At None = subst By (ap texts c.as_slice-without.ensures.value ∙ c.in-Ok.ensures) c.on_state.ensures.made in
    subst At (sym (ap (option_map (λ (s : Bor (List ℕ)). s.now)) c.in_default.is)) audited
