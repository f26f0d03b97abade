-- What is answered of a set-up that is judged is answered of the policy; so many calls are made, and no more.
use Rattle.std.proofs.Common.{List, inr, subst}
use Rattle.std.specs.Option.{option_or}
use Rattle.command_policy.specs.declared.command.Judging.{Judging}
use Rattle.command_policy.specs.Policies.{IsJudgedFirst, IsJudging}
use Rattle.command_policy.proofs.Answered.{if_ok}
use Rattle.setup_format.specs.Read.{read_view}
use Rattle.setup_values.specs.Names.{names_view}
use Rattle.setup_values.specs.declared.names.Name.{Name}
use Rattle.command_how.specs.How.{most_of}
use Rattle.command_policy_how.specs.Told.{IsAnswerUnlessFlows}
use Rattle.command_policy_how.proofs.Made.{made_fits}
use Rattle.command_policy_how.proofs.command.BreachHowCommand.answer.Goals as goal

pub answer_of-requires-clause-made : goal.answer_of-requires-clause-made
answer_of-requires-clause-made g c =
    let p = g.P.Profile.profile in
    let first : IsJudgedFirst c.args.self.now.policy.now p (read_view c.args.read.now) c.args.self.now.after c.in-Done.made c.in-Done.file c.in-Done.judged =
    subst (λ (o : Judging). IsJudging c.args.self.now.policy.now c.args.self.now.after p (read_view c.args.read.now) o) c.in-Done.is c.in_ok-answer.ensures in
    made_fits c.args.read.now.setup (option_or c.args.self.now.after c.in-Done.file.after) c.in-Done.made first.is_made

pub returns : goal.returns
returns g c =
    let p = g.P.Profile.profile in
    let first : IsJudgedFirst c.args.self.now.policy.now p (read_view c.args.read.now) c.args.self.now.after c.in-Done.made c.in-Done.file c.in-Done.judged =
    subst (λ (o : Judging). IsJudging c.args.self.now.policy.now c.args.self.now.after p (read_view c.args.read.now) o) c.in-Done.is c.in_ok-answer.ensures in
    if_ok c.answer_of.result _ _
    (λ answer told. inr (record {
      made = c.in-Done.made;
      judged = c.in-Done.judged;
      file = c.in-Done.file;
      is_judged = first;
      answered = subst (λ (names : List Name).
          IsAnswerUnlessFlows c.args.self.now.breach (most_of c.args.self.now.states) p (names_view names) c.args.read.now.setup c.in-Done.made c.in-Done.judged
          answer.text.items answer.verdict)
          c.as_slice.ensures.value told;
    }))
    c.answer_of.ensures
