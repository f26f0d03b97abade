use Rattle.std.proofs.Common.{◌==◌, find, option_copied, sym, ap, ◌∙◌}
use Rattle.command_policy_places.specs.declared.calls.Fill.{Fill}
use Rattle.command_policy_places.proofs.Behind.{found_fill}
use Rattle.command_policy_places.proofs.calls.FirstCalls.filled_by.Goals as goal

pub returns-in-Some : goal.returns-in-Some
returns-in-Some g c =
    let own = c.args.self in
    let slot = c.args.slot in
    found_fill g.P.Profile.profile own.setup.now own.made slot c.requires.fills.slots c.in-Some.fill.now
    (ap (find (λ (f : Fill). f.slot == slot)) (sym c.requires.fills.are) ∙ (sym c.first.ensures ∙ ap option_copied c.in-Some.is))
