-- Both threads were live after fewer calls.
use Rattle.std.proofs.Common.{◌≡◌, ℕ, ◌<◌, true, take}
use Rattle.kernel_abstract.specs.State.{State, shown}
use Rattle.kernel_abstract.specs.Step.{state_after}
use Rattle.kernel_abstract.specs.Reached.{IsReached}
use Rattle.command_how_witness.specs.Witness.{asking_of, are_both_live}
use Rattle.command_how_witness.proofs.shown.stay_live.Given as goal

abbrev pub invariant-loop-n : goal.invariant-loop-n
invariant-loop-n g l =
    (A : State) → IsReached g.P.Profile.profile A → l.kernel ≡ shown A → (k : ℕ) → k < l.n →
    are_both_live (asking_of l.asked) (shown (state_after g.P.Profile.profile A (take k l.calls))) ≡ true
