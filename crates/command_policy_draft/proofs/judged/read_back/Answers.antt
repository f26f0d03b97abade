-- No more calls are answered than there are; and the policy is that of the text, and of the calls that are asked for.
use Rattle.std.proofs.Common.{◌≤◌, ◌∙◌, ℕ, List, Some, length, subst, sym}
use Rattle.kernel_abstract.specs.declared.call.Reply.{Reply}
use Rattle.setup_policy_file.specs.Files.{IsPolicyText}
use Rattle.query_parts.proofs.Results.{where_ok}
use Rattle.command_policy.proofs.Lengths.{replies_fit}
use Rattle.command_policy_draft.proofs.Numbers.{same_number}
use Rattle.command_policy_draft.proofs.judged.read_back.Goals as goal

pub returns-clause-fit : goal.returns-clause-fit
returns-clause-fit g c =
    where_ok _ _
    (λ j is. subst (λ (rs : List Reply). length rs ≤ length c.args.asked.setup.now.calls) (sym is.answered)
    (replies_fit g.P.Profile.profile c.args.asked.setup.now c.args.asked.made))
    c.judge.result c.judge.ensures.judged

pub returns-clause-read : goal.returns-clause-read
returns-clause-read g c =
    let after = same_number c.in_ok-file.file.after c.args.asked.after c.ne.result c.ne.ensures c.if-ne.false in
    let made = same_number c.calls_made.result (Some c.args.asked.made) c.ne-else-ne.result c.ne-else-ne.ensures c.if-ne-2.false in
    where_ok _ _
    (λ j meant. record {
      file = c.in_ok-file.file;
      says = subst (λ (text : List ℕ). IsPolicyText text c.in_ok-file.file) c.as_bytes.ensures.value c.in_ok-file.ensures;
      after_is = after;
      is_made = sym c.calls_made.ensures ∙ made;
      meant = meant;
    })
    c.judge.result c.judge.ensures.meant
