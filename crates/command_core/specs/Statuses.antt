-- The program's exit status after a run, and what it says of a fault.
use Rattle.std.specs.Prelude.{ℕ, List, codes, Result, Ok, Err}
use Rattle.command_core.specs.declared.fault.Verdict.{Verdict}
use Rattle.command_core.specs.declared.fault.Verdict.TheVariants.{AllMet, NotMet, Refused, Absent}
use Rattle.command_core.specs.declared.fault.RunFault.{RunFault}
use Rattle.command_core.specs.declared.fault.RunFault.TheVariants.{Reading, Writing, Memory, Thread}

-- the exit status of a verdict
abbrev pub verdict_status : Verdict → ℕ
verdict_status AllMet = 0
verdict_status NotMet = 1
verdict_status Refused = 2
verdict_status Absent = 4

-- the exit status of a run
abbrev pub run_status : Result Verdict RunFault → ℕ
run_status (Ok verdict) = verdict_status verdict
run_status (Err fault) = 3

-- the text of a fault of a run
abbrev pub run_fault_text : RunFault → List ℕ
run_fault_text Reading = codes "reading failed"
run_fault_text Writing = codes "writing failed"
run_fault_text Memory = codes "out of memory"
run_fault_text Thread = codes "thread not started"
