-- The policy that is written is the one that was read back and judged.
use Rattle.std.proofs.Common.{ℕ, List, subst}
use Rattle.setup_values.specs.Names.{names_view}
use Rattle.command_policy_draft.specs.Drafts.{IsReadOf}
use Rattle.command_policy_draft.proofs.judged.kept_text.Goals as goal

pub returns-then-branch : goal.returns-then-branch
returns-then-branch g c =
    record {
      judged = c.in_ok-judged.judged;
      is_read = subst (λ (text : List ℕ). IsReadOf g.P.Profile.profile (names_view c.args.asked.names.now) c.args.asked.setup.now c.args.asked.after c.args.asked.made text c.in_ok-judged.judged)
          c.as_str.ensures.value c.in_ok-judged.ensures.read;
      is_judged = c.in_ok-judged.ensures.judged;
      is_kept = c.in_ok-is_kept.ensures c.if-branch.true;
    }
