use Rattle.std.proofs.Common.{◌≡◌, map, take, string_bytes}
use Rattle.command_policy_text.specs.Told.{line_told}
use Rattle.command_policy_draft.proofs.judged.thread_lines.Given as goal

abbrev pub invariant-loop-told : goal.invariant-loop-told
invariant-loop-told l =
    map string_bytes l.lines.items ≡ map (line_told l.held.policy.now l.held.layout.now l.held.labels.now l.held.homes.now) (take l.told-index l.told-items)
