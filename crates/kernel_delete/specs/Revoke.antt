-- The forest after a slot was revoked.
use Rattle.std.specs.Prelude.{ℕ, zero, suc, length, Some, None}
use Rattle.cap_core.specs.declared.profile.ProfileName.{ProfileName}
use Rattle.kernel_forest.specs.Forest.{Forest, preorder}
use Rattle.kernel_forest.specs.Entries.{Entry, first_child}
use Rattle.kernel_delete.specs.Clear.{clear}

-- so many times, while the slot has a child: its first child is cleared
abbrev pub revoked : ProfileName → ℕ → ℕ → Forest Entry → Forest Entry
revoked p zero s f = f
revoked p (suc k) s f = elim (first_child s f) [ None ↦ f | Some c ↦ revoked p k s (clear p c f) ]

-- a forest after a revoke of a slot: its first child is cleared as long as there is one. Each time at least that child leaves, so as many times as
-- there are full slots are enough
unfoldable pub revoke : ProfileName → ℕ → Forest Entry → Forest Entry
revoke p s f = revoked p (length (preorder f)) s f
