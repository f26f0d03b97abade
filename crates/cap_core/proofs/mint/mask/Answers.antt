use Rattle.cap_core.proofs.Minting.{bit_in_both}
use Rattle.cap_core.proofs.mint.mask.Goals as goal

pub returns-in-Endpoint-clause-meet : goal.returns-in-Endpoint-clause-meet
returns-in-Endpoint-clause-meet c = λ right.
    rw (c.intersection.ensures tt, c.in-Endpoint.is) (bit_in_both c.in-Endpoint.had.0 c.args.rights.0 right)
