use Rattle.std.proofs.Common.{[], ap, sym, ◌∙◌, subst}
use Rattle.cap_core.specs.declared.profile.ProfileName.TheVariants.{Wide}
use Rattle.kernel_abstract.specs.Boot.{boot}
use Rattle.kernel_abstract.specs.Reached.{IsReached}
use Rattle.kernel_abstract.specs.State.{State, shown}
use Rattle.kernel_abstract.proofs.Reached.Runs.{state_after-nil}
use Rattle.test_calls.proofs.shared.share.Goals as goal

pub start-requires-clause-begins : goal.start-requires-clause-begins
start-requires-clause-begins g c =
    let booted : State = boot Wide c.args.plan.now in
    let r : IsReached Wide booted =
    record { plan = c.args.plan.now; lawful = c.requires.plan; calls = []; is = sym (state_after-nil Wide booted) } in
    ∣ record { reached = subst (λ (s : State). IsReached Wide s) (sym c.requires.start) r; shows = c.requires.opening ∙ ap shown (sym c.requires.start) } ∣₁
