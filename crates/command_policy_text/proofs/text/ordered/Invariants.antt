use Rattle.std.proofs.Common.{◌≡◌, take, map, string_bytes}
use Rattle.command_policy_text.specs.Order.{in_order}
use Rattle.command_policy_text.specs.Told.{line_told}
use Rattle.command_policy_text.proofs.text.ordered.Given as goal

abbrev pub invariant-loop-one : goal.invariant-loop-one
invariant-loop-one l = map string_bytes l.lines.keys ≡ in_order (map (line_told l.held.policy.now l.held.layout.now l.held.labels.now l.held.homes.now) (take l.one-index l.told))
