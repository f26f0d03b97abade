-- What is told of what is judged is an answer; so many calls are made, and no more replies are told than there are calls.
use Rattle.std.proofs.Common.{◌∙◌, ◌≤◌, ℕ, List, Option, Vec, Global, length, ap, inl, inr, subst, sym}
use Rattle.std.specs.Option.{option_or}
use Rattle.cap_core.specs.declared.profile.ProfileName.{ProfileName}
use Rattle.kernel_abstract.specs.declared.call.Reply.{Reply}
use Rattle.setup_format.specs.Read.{read_view}
use Rattle.setup_format.specs.Views.{ReadView}
use Rattle.command_core.specs.declared.fault.Verdict.{Verdict}
use Rattle.command_policy.specs.declared.command.Judging.{Judging}
use Rattle.setup_policy_file.specs.declared.file.PolicyFile.{PolicyFile}
use Rattle.command_policy.specs.declared.judging.Judged.{Judged}
use Rattle.command_policy.specs.Policies.{IsJudgedFirst, IsJudging}
use Rattle.command_policy.proofs.Lengths.{made_fits, replies_fit}
use Rattle.command_policy.proofs.command.HeldToCommand.answer.Goals as goal

fit : (policy : List ℕ) (p : ProfileName) (read : ReadView) (after : Option ℕ) (made : ℕ) (file : PolicyFile) (j : Judged) → IsJudgedFirst policy p read after made file j →
    length j.replies.items ≤ length read.setup.calls
fit policy p read after made file j first =
    subst (λ (rs : List Reply). length rs ≤ length read.setup.calls) (sym first.is_judged.answered) (replies_fit p read.setup made)

pub told-requires-clause-made : goal.told-requires-clause-made
told-requires-clause-made g c =
    let p = g.P.Profile.profile in
    let first : IsJudgedFirst c.args.self.now.policy.now p (read_view c.args.read.now) c.args.self.now.after c.in-Done.made c.in-Done.file c.in-Done.judged =
    subst (λ (o : Judging). IsJudging c.args.self.now.policy.now c.args.self.now.after p (read_view c.args.read.now) o) c.in-Done.is c.in_ok-judged.ensures in
    made_fits (read_view c.args.read.now).setup (option_or c.args.self.now.after c.in-Done.file.after) c.in-Done.made first.is_made

pub told-requires-clause-replies : goal.told-requires-clause-replies
told-requires-clause-replies g c =
    let p = g.P.Profile.profile in
    fit c.args.self.now.policy.now p (read_view c.args.read.now) c.args.self.now.after c.in-Done.made c.in-Done.file c.in-Done.judged
    (subst (λ (o : Judging). IsJudging c.args.self.now.policy.now c.args.self.now.after p (read_view c.args.read.now) o) c.in-Done.is c.in_ok-judged.ensures)

pub notes_on-requires : goal.notes_on-requires
notes_on-requires g c =
    let p = g.P.Profile.profile in
    fit c.args.self.now.policy.now p (read_view c.args.read.now) c.args.self.now.after c.in-Done.made c.in-Done.file c.in-Done.judged
    (subst (λ (o : Judging). IsJudging c.args.self.now.policy.now c.args.self.now.after p (read_view c.args.read.now) o) c.in-Done.is c.in_ok-judged.ensures)

pub returns-in_ok-notes-in-Done : goal.returns-in_ok-notes-in-Done
returns-in_ok-notes-in-Done g c =
    let p = g.P.Profile.profile in
    let first : IsJudgedFirst c.args.self.now.policy.now p (read_view c.args.read.now) c.args.self.now.after c.in-Done.made c.in-Done.file c.in-Done.judged =
    subst (λ (o : Judging). IsJudging c.args.self.now.policy.now c.args.self.now.after p (read_view c.args.read.now) o) c.in-Done.is c.in_ok-judged.ensures in
    inr (inr record {
      file = c.in-Done.file;
      says = first.says;
      made = c.in-Done.made;
      is_made = first.is_made;
      judged = c.in-Done.judged;
      meant = first.meant;
      is_judged = first.is_judged;
      told = ap (λ (t : Vec ℕ Global). (t.items, c.with_policy.result.verdict)) c.with_policy.ensures.text
          ∙ ap (λ (v : Verdict). (c.in_ok-told-in-Done.told.text.items, v)) c.with_policy.ensures.verdict
          ∙ c.in_ok-told-in-Done.ensures;
    })
