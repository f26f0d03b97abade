-- Where no memory so far gives a plan, the largest gives none, and so none does.
use Rattle.std.proofs.Common.{arith}
use Rattle.cap_core.specs.Limits.{max_memory_bits}
use Rattle.command_new.proofs.Larger.{none_of_radix}
use Rattle.command_new.proofs.planning.plan_of_radix.Goals as goal

pub returns : goal.returns
returns g c =
    none_of_radix g.P.Profile.profile c.args.asked.now c.args.root_radix
    (c.loop-memory_bits.invariant max_memory_bits (omega arith) (omega arith))
