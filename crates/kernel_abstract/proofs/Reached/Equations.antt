-- The equations of what is shown, of boot and of a step, whose definitions are opaque; those of runs are in Runs.
use Rattle.std.proofs.Common.{◌≡◌, refl}
use Rattle.kernel_abstract.specs.Shown.{threads_of, endpoints_of, table}
use Rattle.kernel_abstract.specs.State.{State, endpoint_at, thread_view, waiters, shown}

pub shown-derivations : (A : State) → (shown A).derivations ≡ A.derivations
unfolding shown
shown-derivations A = refl

pub shown-threads : (A : State) → (shown A).threads ≡ table (threads_of A.derivations) (thread_view A)
unfolding shown
shown-threads A = refl

pub shown-endpoints : (A : State) →
    (shown A).endpoints ≡ table (endpoints_of A.derivations) (λ base. waiters A (endpoint_at A base))
unfolding shown
shown-endpoints A = refl
