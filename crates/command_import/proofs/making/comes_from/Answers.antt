-- A text that passes each test comes to the layout.
use Rattle.std.proofs.Common.{rules, ◌≡◌, ◌∙◌, Ok, sym, subst, length, IsTrue}
use Rattle.std.proofs.lemmas.Result.{IfOk-weaker}
use Rattle.cap_core.specs.declared.profile.ProfileName.{ProfileName}
use Rattle.kernel_abstract.specs.Plan.{IsPlan}
use Rattle.kernel_abstract.specs.State.{shown}
use Rattle.setup_format.specs.Read.{read_view}
use Rattle.setup_format.specs.Setups.{read_of_bytes}
use Rattle.setup_report.specs.Behind.{state_behind}
use Rattle.command_import.specs.Import.{ComesTo}
use Rattle.command_import.specs.Laid.{IsLaidOut}
use Rattle.command_import.specs.Private.{IsFor}
use Rattle.command_import.proofs.making.comes_from.Goals as goal

pub comes_to-requires : goal.comes_to-requires
comes_to-requires g c =
    let made = c.in-Some.made in
    let passed : IsTrue c.is_for.result = search rules in
    let is : IsFor c.args.layout.now (read_view made) = c.is_for.ensures passed in
    let plan : IsPlan made.setup.profile made.setup.plan = search rules in
    subst (λ (p : ProfileName). IsPlan p made.setup.plan) (is.profile ∙ sym c.requires) plan

pub returns : goal.returns
returns g c =
    let made = c.in-Some.made in
    let layout = c.args.layout.now in
    let passed : IsTrue c.is_for.result = search rules in
    let is : IsFor layout (read_view made) = c.is_for.ensures passed in
    let is_read : read_of_bytes c.args.text.now ≡ Ok (read_view made) = search rules in
    IfOk-weaker c.comes_to.result
    (λ comes. IsTrue comes → IsLaidOut g.P.Profile.profile made.setup.plan layout (shown (state_behind g.P.Profile.profile made.setup (length made.setup.calls))))
    (λ comes. IsTrue comes → ComesTo layout c.args.text.now)
    (λ comes laid holds. record {
      read = read_view made;
      is_read = is_read;
      profile = is.profile;
      marked = is.marked;
      names = is.names;
      laid_out = subst (λ (p : ProfileName). IsLaidOut p made.setup.plan layout (shown (state_behind p made.setup (length made.setup.calls)))) (c.requires ∙ sym is.profile) (laid holds);
    })
    c.comes_to.ensures
