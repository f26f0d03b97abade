use Rattle.std.proofs.Common.{◌≡◌, ◌++◌, ◌+◌, drop, map, string_bytes}
use Rattle.command_policy_text.specs.Calls.{call_breaches}
use Rattle.command_policy_text.proofs.calls.call_breaches.Given as goal

abbrev pub invariant-loop-i : goal.invariant-loop-i
invariant-loop-i l = map string_bytes l.lines.items ++ call_breaches (l.i + 1) (drop l.i l.setup.calls) (drop l.i l.replies) ≡ call_breaches 1 l.setup.calls l.replies
