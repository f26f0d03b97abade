use Rattle.std.proofs.Common.{◌≡◌, take}
use Rattle.command_policy_text.specs.Order.{firsts_in_order}
use Rattle.command_policy_text.specs.Told.{line_told}
use Rattle.command_policy_text.proofs.Firsts.{with_bytes}
use Rattle.command_policy_text.proofs.text.firsts.Given as goal

abbrev pub invariant-loop-one : goal.invariant-loop-one
invariant-loop-one l =
    with_bytes l.lines.entries ≡ firsts_in_order (line_told l.held.policy.now l.held.layout.now l.held.labels.now l.held.homes.now) (take l.one-index l.told)
