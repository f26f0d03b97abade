use Rattle.std.proofs.Common.{ℕ, ◌≤◌}
use Rattle.cap_core.specs.Limits.{max_root_radix}
use Rattle.command_new.specs.Private.{NoneOfRadix}
use Rattle.command_new.proofs.planning.plan_of_some_radix.Given as goal

-- no radix so far, from the greatest on, gives a plan
abbrev pub invariant-loop-root_radix : goal.invariant-loop-root_radix
invariant-loop-root_radix g l = (radix : ℕ) → l.root_radix ≤ radix → radix ≤ max_root_radix → NoneOfRadix g.P.Profile.profile l.asked radix
