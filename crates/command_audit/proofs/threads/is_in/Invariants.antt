use Rattle.std.proofs.Common.{◌≡◌, false, take}
use Rattle.setup_report.specs.State.{is_in}
use Rattle.command_audit.proofs.threads.is_in.Given as goal

abbrev pub invariant-loop-other : goal.invariant-loop-other
invariant-loop-other l = is_in l.number (take l.other-index l.list) ≡ false
