use Rattle.std.proofs.Common.{◌≡◌, filter, map, take}
use Rattle.cap_core.specs.Rights.{write_bit}
use Rattle.command_parts.specs.Text.{is_use}
use Rattle.command_parts.proofs.ways.badges_held.Given as goal

abbrev pub invariant-loop-allowed : goal.invariant-loop-allowed
invariant-loop-allowed l = l.badges.items ≡ map (λ u. u.badge.0) (filter (is_use write_bit l.part l.endpoint) (take l.allowed-index l.uses))
