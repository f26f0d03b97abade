-- The proof of `slots_of`: the goals that a search leaves open.
use Rattle.command_never.proofs.parts_kept.open.slots_of.Goals as goal

pub returns : goal.returns
returns g c =
    c.in_ok-filled.ensures.slots c.args.kernel.now.derivations (rw c.as_slice.ensures.value c.in_ok-derivations.ensures.list) c.in_ok-derivations.ensures.apart
