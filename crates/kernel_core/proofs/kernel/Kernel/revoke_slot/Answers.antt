-- The proof of `revoke_slot`: the goal that a search leaves open.
use Rattle.std.proofs.Common.{ap, sym, ◌∙◌}
use Rattle.kernel_delete.specs.Revoke.{revoke}
use Rattle.kernel_abstract.specs.Shown.{Shown, tcb_base, endpoint_base}
use Rattle.kernel_abstract.specs.State.{shown}
use Rattle.kernel_abstract.specs.Private.Endings.{after_ending}
use Rattle.kernel_abstract.proofs.Capabilities.StoresCleared.{live-revoke}
use Rattle.kernel_abstract.proofs.Cancelling.Ended.{ending_shown}
use Rattle.kernel_abstract.proofs.Reached.Simulation.{reached_inv}
use Rattle.kernel_core.proofs.kernel.Kernel.revoke_slot.Goals as goal

pub returns : goal.returns
unfolding shown
returns g c = λ A reached shows.
    let p = g.P.Profile.profile in
    let slot = c.args.slot in
    c.clear_below.ensures
    ∙ ap (λ (v : Shown). after_ending v (revoke p slot v.derivations)) shows
    ∙ sym (ending_shown A (revoke p slot A.derivations) (reached_inv p A reached) (λ q. live-revoke endpoint_base q p slot A.derivations) (λ q. live-revoke tcb_base q p slot A.derivations))
