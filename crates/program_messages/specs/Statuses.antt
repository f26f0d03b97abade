-- The program's exit status, and what it says first on standard error.
use Rattle.std.specs.Prelude.{ℕ, List, codes, Option, Some, None, Result, Ok, Err}
use Rattle.command_core.specs.Runs.{verdict_of}
use Rattle.command_core.specs.Statuses.{run_status, run_fault_text}
use Rattle.command_core.specs.declared.answer.Found.{Found}
use Rattle.command_core.specs.declared.fault.Verdict.{Verdict}
use Rattle.command_core.specs.declared.fault.Verdict.TheVariants.{Absent}
use Rattle.command_core.specs.declared.fault.RunFault.{RunFault}
use Rattle.command_files.specs.Files.{files_status}
use Rattle.command_files.specs.declared.tally.Tally.{Tally}
use Rattle.program_messages.specs.declared.ended.Ended.{Ended}
use Rattle.program_messages.specs.declared.ended.Ended.TheVariants.{Did, Checked, Helped, Refused, Conflict, Unknown, NoMemory, NoPolicy}

-- the exit status
abbrev pub end_status : {S F E : Type 0} → Ended S F E → ℕ
end_status (Did done) = run_status (verdict_of done.answer)
end_status (Checked checked) = files_status checked.answer
end_status (Helped (Ok done)) = 0
end_status (Helped (Err fault)) = 3
end_status Refused = 4
end_status (Conflict text) = 4
end_status (Unknown unknown) = 4
end_status NoMemory = 3
end_status (NoPolicy unread) = 3

-- what is said of a fault of a run, and of options that name what the set-up does not have
abbrev pub verdict_text : Verdict → Option (List ℕ)
verdict_text Absent = Some (codes "command line refused")
verdict_text verdict = None

abbrev pub fault_answer_text : Result Found RunFault → Option (List ℕ)
fault_answer_text (Ok found) = verdict_text found.verdict
fault_answer_text (Err fault) = Some (run_fault_text fault)

-- what is said of a fault that ends the check of several files
abbrev pub files_fault_text : Result Tally RunFault → Option (List ℕ)
files_fault_text (Ok tally) = None
files_fault_text (Err fault) = Some (run_fault_text fault)

-- what is said first on standard error; of several files, after what is said of each
abbrev pub end_text : {S F E : Type 0} → Ended S F E → Option (List ℕ)
end_text (Did done) = fault_answer_text done.answer
end_text (Checked checked) = files_fault_text checked.answer
end_text (Helped (Ok done)) = None
end_text (Helped (Err fault)) = Some (run_fault_text fault)
end_text Refused = Some (codes "command line refused")
end_text (Conflict text) = Some (codes "command line refused")
end_text (Unknown unknown) = Some (codes "command line refused")
end_text NoMemory = Some (codes "out of memory")
end_text (NoPolicy unread) = Some (run_fault_text unread.fault)
