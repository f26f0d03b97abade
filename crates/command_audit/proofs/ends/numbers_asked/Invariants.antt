use Rattle.std.proofs.Common.{◌≡◌, map, take}
use Rattle.cap_core.specs.declared.capability.Cap.{Cap}
use Rattle.setup_report.specs.State.{rising}
use Rattle.command_audit.specs.Ends.{all_asked}
use Rattle.command_audit.proofs.ends.numbers_asked.Given as goal

abbrev pub invariant-loop-cap : goal.invariant-loop-cap
invariant-loop-cap l = l.numbers.keys ≡ rising (all_asked l.asked (map (λ (c : Cap). c) (take l.cap-index l.caps)))
