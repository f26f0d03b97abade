-- Each test of a text passed, so it is a witness.
use Rattle.std.proofs.Common.{rules, ◌≡◌, true, List, refl, subst}
use Rattle.kernel_abstract.specs.declared.call.Call.{Call}
use Rattle.kernel_abstract.specs.Reached.{IsReached}
use Rattle.setup_report.specs.Behind.{first_calls, state_behind}
use Rattle.command_how_witness.specs.Witness.{asking_of, IsShown}
use Rattle.command_how_witness.specs.Text as spec
use Rattle.command_how_witness.proofs.Runs.{ok_both}
use Rattle.command_how_witness.proofs.text.is_witness.Goals as goal

pub returns : goal.returns
returns g c =
    let p = g.P.Profile.profile in
    let setup = c.args.setup.now in
    let other = c.args.other.now in
    let made = c.args.made in
    let asking = asking_of c.args.asked.now in
    let begins : spec.BeginsAs setup other made = search rules in
    let reached : IsReached p (state_behind p other made) =
    record { plan = other.plan; lawful = c.requires.plan; calls = first_calls other made; is = refl } in
    let passed : c.in_ok-is_shown.field-0 ≡ true = search rules in
    let shows : IsShown p asking (state_behind p other made) (spec.later_calls made setup) =
    subst (λ (calls : List Call). IsShown p asking (state_behind p other made) calls) c.later_calls.ensures
    (c.in_ok-is_shown.ensures passed (state_behind p other made) reached c.in_ok-kernel.ensures.shows) in
    ok_both (λ are. are ≡ true → spec.ExpectLater made setup (spec.witness_replies p setup)) (λ are. are ≡ true → spec.AreMet p setup)
    (λ is. is ≡ true → spec.IsWitness p asking other made setup) c.are_met.result c.are_met.ensures.expects c.are_met.ensures.met
    (λ are expects met is. record { begins = begins; expects = expects is; shows = shows; met = met is })
