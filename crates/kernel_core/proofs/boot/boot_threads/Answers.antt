-- The proof of `boot_threads`: the goal that a search leaves open.
use Rattle.std.proofs.Common.{◌∙◌}
use Rattle.kernel_core.proofs.Booted.BootedParts.{threads_placed}
use Rattle.kernel_core.proofs.boot.boot_threads.Goals as goal

pub ready-requires : goal.ready-requires
ready-requires g c =
    threads_placed g.P.Profile.profile c.args.plan.now c.first_tcb.result c.TCB_BITS.result c.memory_bits.result c.TCB_BITS-2.result c.from.result c.requires
    c.first_tcb.ensures (c.TCB_BITS.ensures ∙ g.met.P.Profile.tcb_bits_is) c.memory_bits.ensures (c.TCB_BITS-2.ensures ∙ g.met.P.Profile.tcb_bits_is) (c.from.ensures ∙ c.threads.ensures)
