use Rattle.std.proofs.Common.{◌≡◌, ℕ, ◌≤◌, List, [], ◌∷◌, length, arith, refl, ◌∙◌}
use Rattle.std.specs.List.{list_any}
use Rattle.command_audit.specs.declared.threads.ThreadSlots.{ThreadSlots}
use Rattle.command_audit.specs.Threads.{can_name}
use Rattle.command_audit.specs.Revokes.{is_revoke_told}
use Rattle.command_audit.proofs.revokes.is_told.Goals as goal

by_others : (trusted : List ℕ) (others : List ThreadSlots) (slot : ℕ) → 1 ≤ length trusted → list_any (can_name slot) others ≡ is_revoke_told trusted others slot
by_others [] others slot h = absurd (omega arith)
by_others (thread ∷ trusted) others slot h = refl

pub returns-in-len1-up : goal.returns-in-len1-up
returns-in-len1-up c =
    c.can_one_name.ensures ∙ by_others c.args.trusted.now c.args.others.now c.args.slot (omega (arith, c.in-len1-up.len_at_least))
