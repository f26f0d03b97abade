-- What is shown is what is asked.
use Rattle.std.proofs.Common.{◌≡◌, true, sym, subst}
use Rattle.std.specs.Prelude.{IfOk}
use Rattle.kernel_abstract.specs.Reached.{IsReached}
use Rattle.kernel_abstract.specs.State.{State, shown}
use Rattle.command_how_witness.specs.declared.asked.Happening.{Happening}
use Rattle.command_how_witness.specs.Witness.{asking_of, ShowsIt}
use Rattle.command_how_witness.proofs.shown.is_shown.Goals as goal

pub returns-in-Hold : goal.returns-in-Hold
returns-in-Hold g c =
    subst (λ (w : Happening). IfOk c.is_hold_shown.result (λ is. is ≡ true → (A : State) → IsReached g.P.Profile.profile A → c.args.kernel.now ≡ shown A → ShowsIt g.P.Profile.profile (asking_of c.args.asked.now) A c.args.calls.now w))
    (sym c.in-Hold.is) c.is_hold_shown.ensures

pub returns-in-Loss : goal.returns-in-Loss
returns-in-Loss g c =
    subst (λ (w : Happening). IfOk c.is_loss_shown.result (λ is. is ≡ true → (A : State) → IsReached g.P.Profile.profile A → c.args.kernel.now ≡ shown A → ShowsIt g.P.Profile.profile (asking_of c.args.asked.now) A c.args.calls.now w))
    (sym c.in-Loss.is) c.is_loss_shown.ensures
