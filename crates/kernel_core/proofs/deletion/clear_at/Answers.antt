-- The proof of `clear_at`: the goals that a search leaves open.
use Rattle.kernel_core.proofs.Endings.Deletions.{clearable}
use Rattle.kernel_core.proofs.deletion.clear_at.Goals as goal

pub clear-requires-clause-clearable : goal.clear-requires-clause-clearable
clear-requires-clause-clearable g c = clearable g.P.Profile.profile (g.S.CapStore.memory_bits c.args.store.now) (g.S.CapStore.forest c.args.store.now) c.args.chain.now c.requires.store c.requires.chain
