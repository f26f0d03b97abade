-- The calls show a loss, where each test is passed.
use Rattle.std.proofs.Common.{rules, ◌≡◌, Bool, true, List, sym, ◌∙◌}
use Rattle.std.proofs.lemmas.Result.{IfOk-weaker}
use Rattle.kernel_abstract.specs.Reached.{IsReached}
use Rattle.kernel_abstract.specs.State.{State, shown}
use Rattle.kernel_abstract.specs.Step.{step}
use Rattle.command_how_witness.specs.Witness.{asking_of, Takes, ShowsLoss}
use Rattle.command_how_witness.specs.Private.{is_loss_called}
use Rattle.command_how_witness.proofs.Shows.{loss_shown}
use Rattle.command_how_witness.proofs.shown.is_loss_shown.Goals as goal

pub returns : goal.returns
returns g c =
    let p = g.P.Profile.profile in
    let q = asking_of c.args.asked.now in
    let most = c.in-Some.most.now in
    let call = c.in-Some.call in
    let again = c.in-Some.again in
    let front = c.in-Some-split_one.front.now in
    let shows_call = c.in-Some-split_one.shows in
    let is_called : c.is_loss_called.result ≡ true = search rules in
    let lives : c.in_ok-stay_live.field-0 ≡ true = search rules in
    let called : is_loss_called q front shows_call call again ≡ true = sym c.is_loss_called.ensures ∙ is_called in
    IfOk-weaker c.takes.result
    (λ (is : Bool). is ≡ true → (B : State) → IsReached p B → c.in_ok-at.at ≡ shown B → Takes p q B.derivations (step p B call).state.derivations)
    (λ (is : Bool). is ≡ true → (A : State) → IsReached p A → c.args.kernel.now ≡ shown A → ShowsLoss p q A c.args.calls.now)
    (λ is told yes A reached shows.
    loss_shown p q A c.args.calls.now front call again shows_call most c.in_ok-at.at c.in-Some.ensures c.in-Some-split_one.ensures called
    (c.in_ok-stay_live.ensures lives A reached shows) reached (c.in_ok-at.ensures.shows A reached shows) (told yes))
    c.takes.ensures
