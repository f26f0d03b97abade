-- The proof of `ended_endpoint_delivers_no_more`: the goals that a search leaves open.
use Rattle.kernel_abstract.proofs.Cancelling.Waiting.{nobody_waits}
use Rattle.kernel_abstract.proofs.Reached.Simulation.{reached_inv}
use Rattle.kernel_abstract.proofs.Reached.EndedEndpoints.{ended_for_good, pairs_for_good}
use Rattle.kernel_abstract.proofs.laws.ended_endpoint_delivers_no_more.Goals as goal

pub returns : goal.returns
returns c =
    record {
      nobody = λ p A e reached. nobody_waits A
          (reached_inv p A reached) e;
      ended = ended_for_good;
      pairs = pairs_for_good;
    }
