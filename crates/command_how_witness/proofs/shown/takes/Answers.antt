-- A step of the kernel is a step of the state that it shows.
use Rattle.std.proofs.Common.{◌≡◌, Bool, true, ◌∙◌}
use Rattle.std.proofs.lemmas.Result.{IfOk-weaker}
use Rattle.kernel_abstract.specs.Reached.{IsReached}
use Rattle.kernel_abstract.specs.State.{State, shown}
use Rattle.kernel_abstract.specs.Step.{step}
use Rattle.command_how_witness.specs.Witness.{asking_of, Takes}
use Rattle.command_how_witness.proofs.Shows.{step_takes}
use Rattle.command_how_witness.proofs.shown.takes.Goals as goal

pub returns : goal.returns
returns g c =
    let p = g.P.Profile.profile in
    let q = asking_of c.args.asked.now in
    let call = c.args.call in
    IfOk-weaker c.are_taken.result (λ (is : Bool). is ≡ true → Takes p q c.args.kernel.now.derivations c.step.new.self.derivations)
    (λ (is : Bool). is ≡ true → (A : State) → IsReached p A → c.args.kernel.now ≡ shown A → Takes p q A.derivations (step p A call).state.derivations)
    (λ is told yes A reached shows.
    step_takes p q A call c.args.kernel.now c.step.new.self shows (c.step.ensures.stands A reached (c.in_ok-after.ensures ∙ shows)).shows (told yes))
    c.are_taken.ensures
