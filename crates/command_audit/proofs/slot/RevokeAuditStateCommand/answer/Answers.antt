-- What is answered by the kernel is answered by the state that it shows.
use Rattle.std.proofs.Common.{◌∙◌, ap}
use Rattle.setup_report.specs.Behind.{state_behind}
use Rattle.command_check.specs.Commands.{text_or_absent}
use Rattle.command_audit.proofs.Behind.{behind_reached}
use Rattle.command_audit.proofs.slot.RevokeAuditStateCommand.answer.Goals as goal

pub returns : goal.returns
returns g c =
    let p = g.P.Profile.profile in
    let setup = c.args.behind.now.setup.now in
    let made = c.args.behind.now.made in
    c.in_ok-answer.ensures
    ∙ ap text_or_absent (c.in_ok-text.ensures (state_behind p setup made) (behind_reached p setup made c.requires.plan) c.requires.shows)
