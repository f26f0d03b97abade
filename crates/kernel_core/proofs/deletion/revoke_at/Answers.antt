-- The proof of `revoke_at`: the goals that a search leaves open.
use Rattle.kernel_core.proofs.Endings.Deletions.{clearable}
use Rattle.kernel_core.proofs.deletion.revoke_at.Goals as goal

pub revoke-requires-clause-clearable : goal.revoke-requires-clause-clearable
revoke-requires-clause-clearable g c = clearable g.P.Profile.profile (g.S.CapStore.memory_bits c.args.store.now) (g.S.CapStore.forest c.args.store.now) c.args.chain.now c.requires.store c.requires.chain
