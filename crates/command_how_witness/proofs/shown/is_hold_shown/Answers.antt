-- The calls show a hold, where each test is passed.
use Rattle.std.proofs.Common.{rules, ◌≡◌, Bool, true, List, sym, ◌∙◌}
use Rattle.std.proofs.lemmas.Result.{IfOk-weaker}
use Rattle.kernel_abstract.specs.Reached.{IsReached}
use Rattle.kernel_abstract.specs.State.{State, shown}
use Rattle.command_how_witness.specs.Witness.{asking_of, Holds, ShowsHold}
use Rattle.command_how_witness.specs.Private.{is_hold_called}
use Rattle.command_how_witness.proofs.Shows.{hold_shown}
use Rattle.command_how_witness.proofs.shown.is_hold_shown.Goals as goal

pub returns : goal.returns
returns g c =
    let p = g.P.Profile.profile in
    let q = asking_of c.args.asked.now in
    let front = c.in-Some.front.now in
    let call = c.in-Some.call in
    let again = c.in-Some.again in
    let word = c.in-Some-held_word.word in
    let is_called : c.is_hold_called.result ≡ true = search rules in
    let lives : c.in_ok-stay_live.field-0 ≡ true = search rules in
    let called : is_hold_called q front call again ≡ true = sym c.is_hold_called.ensures ∙ is_called in
    IfOk-weaker c.holds.result (λ (is : Bool). is ≡ true → Holds p q c.in_ok-at.at.derivations word)
    (λ (is : Bool). is ≡ true → (A : State) → IsReached p A → c.args.kernel.now ≡ shown A → ShowsHold p q A c.args.calls.now)
    (λ is told yes A reached shows.
    hold_shown p q A c.args.calls.now front call again word c.in_ok-at.at c.in-Some.ensures called (c.in_ok-stay_live.ensures lives A reached shows)
    (sym c.held_word.ensures ∙ c.in-Some-held_word.is) (c.in_ok-at.ensures.shows A reached shows) (told yes))
    c.holds.ensures
