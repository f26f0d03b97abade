use Rattle.std.proofs.Common.{ℕ, ◌<◌, ◌≤◌}
use Rattle.kernel_abstract.specs.Plan.{IsPlan}
use Rattle.command_new.specs.declared.planning.TheConstants.{USUAL_MEMORY_BITS}
use Rattle.command_new.specs.Private.{plan_in}
use Rattle.command_new.proofs.planning.plan_of_radix.Given as goal

-- no memory so far gives a plan
abbrev pub invariant-loop-memory_bits : goal.invariant-loop-memory_bits
invariant-loop-memory_bits g l =
    (bits : ℕ) → USUAL_MEMORY_BITS ≤ bits → bits < l.memory_bits → ¬ IsPlan g.P.Profile.profile (plan_in l.asked bits l.root_radix)
