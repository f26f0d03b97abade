-- The policy is of version 2, and trusts whom it is to trust.
use Rattle.std.proofs.Common.{map, ap, sym, ◌∙◌}
use Rattle.query_parts.proofs.Results.{where_ok}
use Rattle.setup_policy.specs.declared.policy.Member.{Member}
use Rattle.command_policy_draft.proofs.judged.is_kept.Goals as goal

pub returns : goal.returns
returns c =
    where_ok _ _
    (λ is held so. record {
      version_is = c.is_version_two.ensures.0 c.if-not-is_version_two.false;
      silent_are = ap (map (λ (m : Member). m.thread)) (sym c.as_slice.ensures.value) ∙ c.in_ok-silent.ensures.0 c.if-not-silent.false;
      messages_are = ap (map (λ (m : Member). m.thread)) (sym c.as_slice-2.ensures.value) ∙ c.in_ok-messages.ensures.0 c.if-not-messages.false;
      held = held so;
    })
    c.is_held.result c.is_held.ensures
