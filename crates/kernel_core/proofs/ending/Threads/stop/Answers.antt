-- The proof of `stop`: the goals that a search leaves open.
use Rattle.std.proofs.Common.{ℕ, sym, subst}
use Rattle.ipc_core.specs.Waits.{IsThreadAddress}
use Rattle.kernel_core.proofs.Threads.Addresses.{row_address}
use Rattle.kernel_core.proofs.ending.Threads.stop.Goals as goal

pub cancel_thread-requires : goal.cancel_thread-requires
cancel_thread-requires g c =
    let own = c.args.self.now in
    subst (λ (m : ℕ). IsThreadAddress g.P.Profile.profile m c.args.thread) (sym own.memory) (row_address g.P.Profile.profile own.memory_bits own.rows c.args.thread own.fill c.requires)
