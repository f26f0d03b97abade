-- What is judged of the kernel is judged of the state behind the first calls; and its objects lie in its memory.
use Rattle.std.proofs.Common.{List, subst, sym}
use Rattle.kernel_abstract.specs.declared.call.Reply.{Reply}
use Rattle.kernel_abstract.specs.Shown.{Shown}
use Rattle.setup_values.specs.Names.{names_view}
use Rattle.setup_report.specs.Behind.{replies_behind}
use Rattle.setup_policy.specs.declared.policy.Labels.{Labels}
use Rattle.setup_policy.specs.declared.policy.Policy.{Policy}
use Rattle.setup_policy_meaning.specs.Meant.{AreLabels}
use Rattle.setup_policy_meaning.specs.Policies.{IsPolicyMeant}
use Rattle.command_policy.specs.Policies.{IsJudgedOf}
use Rattle.command_policy.proofs.judging.judge.Goals as goal

pub unreachable-requires : goal.unreachable-requires
unreachable-requires g c = c.in-Err-Block.ensures.fault c.in-Err-Block.field-0-is c.in_ok-kernel.ensures.within.0 c.in_ok-kernel.ensures.within.1

pub returns-in-Ok-clause-judged : goal.returns-in-Ok-clause-judged
returns-in-Ok-clause-judged g c =
    let p = g.P.Profile.profile in
    let setup = c.args.setup.now in
    let made = c.args.made in
    subst (λ (v : Shown). IsJudgedOf p v (replies_behind p setup made) c.in-Ok.judged) c.in_ok-kernel.ensures.shows
    (subst (λ (rs : List Reply). IsJudgedOf p c.in_ok-kernel.kernel rs c.in-Ok.judged) c.in_ok-kernel.ensures.replies c.in-Ok.ensures.judged)

pub returns-in-Ok-clause-meant : goal.returns-in-Ok-clause-meant
returns-in-Ok-clause-meant g c =
    let p = g.P.Profile.profile in
    let names = names_view c.args.names.now in
    let plan = c.args.setup.now.plan in
    let file = c.args.file.now in
    record {
      policy = subst (λ (v : Shown). IsPolicyMeant p names plan v file c.in-Ok.judged.policy) c.in_ok-kernel.ensures.shows
          (subst (λ (q : Policy). IsPolicyMeant p names plan c.in_ok-kernel.kernel file q) (sym c.in-Ok.ensures.policy) c.in_ok-policy.ensures.policy);
      labels = subst (λ (v : Shown). AreLabels p names plan v c.in-Ok.judged.labels) c.in_ok-kernel.ensures.shows
          (subst (λ (q : Labels). AreLabels p names plan c.in_ok-kernel.kernel q) (sym c.in-Ok.ensures.labels) c.in_ok-policy.ensures.labels);
    }
