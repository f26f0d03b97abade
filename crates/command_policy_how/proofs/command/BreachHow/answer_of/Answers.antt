-- No more replies are told than there are calls.
use Rattle.std.proofs.Common.{◌≤◌, List, length, subst, sym}
use Rattle.kernel_abstract.specs.declared.call.Reply.{Reply}
use Rattle.command_policy.proofs.Lengths.{replies_fit}
use Rattle.command_policy_how.proofs.command.BreachHow.answer_of.Goals as goal

pub breach_lines-requires : goal.breach_lines-requires
breach_lines-requires g c =
    subst (λ (rs : List Reply). length rs ≤ length c.args.behind.now.setup.now.calls) (sym c.requires.judged.answered)
    (replies_fit g.P.Profile.profile c.args.behind.now.setup.now c.args.behind.now.made)
