use Rattle.query_reach.proofs.kernel.kernel_slots.Goals as goal

pub returns-clause-slots : goal.returns-clause-slots
returns-clause-slots g c =
    c.in_ok-filled.ensures.slots c.args.kernel.now.derivations (rw c.as_slice.ensures.value c.in_ok-derivations.ensures.list) c.in_ok-derivations.ensures.apart

pub returns-clause-lawful : goal.returns-clause-lawful
returns-clause-lawful g c =
    c.in_ok-filled.ensures.lawful c.requires.0 c.args.kernel.now.derivations (rw c.as_slice.ensures.value c.in_ok-derivations.ensures.list) c.requires.1.lawful
