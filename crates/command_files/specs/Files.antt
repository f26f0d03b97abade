-- What the check of several files writes, and its exit status.
use Rattle.std.specs.Prelude.{◌≡◌, ◌⊎◌, ◌+◌, ◌<◌, ◌==◌, ⊤, ℕ, Bool, max, nat_lt, codes, true, List, [], ◌∷◌, ◌++◌, length, count_by, Option, Some, None, Result, Ok, Err, IfOk, IfErr, MatchBool, if◌then◌else◌}
use Rattle.std.specs.Fmt.{decimal}
use Rattle.std.specs.Str.{bytes_eq}
use Rattle.setup_format.specs.Faults.{Fault}
use Rattle.setup_format.specs.Refusal.{refusal_line}
use Rattle.setup_format.specs.Setups.{setup_of_bytes}
use Rattle.setup_format.specs.Views.{SetupView}
use Rattle.setup_report.specs.Report.{expectation_line, terminated}
use Rattle.setup_report.specs.declared.calls.ExpectationCount.{ExpectationCount}
use Rattle.command_check.specs.Program.{HasCounts, replies_to}
use Rattle.command_check.specs.declared.run.CountedText.{CountedText}
use Rattle.command_core.specs.Devices.{Gave, GaveAsMany, Took, TookFront}
use Rattle.command_core.specs.Statuses.{run_status, verdict_status}
use Rattle.command_core.specs.declared.fault.RunFault.{RunFault}
use Rattle.command_core.specs.declared.fault.Verdict.{Verdict}
use Rattle.command_core.specs.declared.fault.Verdict.TheVariants.{Absent}
use Rattle.command_core.specs.declared.fault.RunFault.TheVariants.{Reading, Writing, Memory}
use Rattle.command_core.specs.Limits.{input_limit}
use Rattle.command_core.specs.declared.sink.Sink.{Ghosts as SinkGhosts}
use Rattle.command_core.specs.declared.source.Source.{Ghosts as SourceGhosts}
use Rattle.command_files.specs.Strict.{check_verdict}
use Rattle.command_files.specs.declared.tally.Tally.{Tally}

-- ---- the contents of a file: its bytes, or none if it cannot be read

-- the source gave these bytes to its end; or a read failed, or it gave as many bytes as no set-up has
abbrev pub HasContents : {S : Type 0} → SourceGhosts S → S → S → Option (List ℕ) → Type 0
HasContents from old new (Some bytes) = Gave from.left from.given old new bytes × (from.given new < from.given old + input_limit)
HasContents from old new None = (from.failed new ≡ true) ⊎ GaveAsMany from.left from.given old new input_limit

-- the contents of standard input
abbrev pub IsStandard : {S : Type 0} → (S → Type 0) → SourceGhosts S → Option (List ℕ) → Type 0
IsStandard is_standard from contents = (unread read : _) × is_standard unread × HasContents from unread read contents

-- the contents of the file of that name; it has none if it cannot be opened
abbrev pub IsFile : {F E : Type 0} → (List ℕ → F → Type 0) → (List ℕ → E → Type 0) → SourceGhosts F → List ℕ → Option (List ℕ) → Type 0
IsFile is_file is_fault from name contents =
    ((unread read : _) × is_file name unread × HasContents from unread read contents)
    ⊎ ((fault : _) × is_fault name fault × (contents ≡ None))

-- the contents of what the name stands for: standard input, for a hyphen, or the file of that name
abbrev pub IsInput : {S F E : Type 0} → (S → Type 0) → (List ℕ → F → Type 0) → (List ℕ → E → Type 0)
    → SourceGhosts S → SourceGhosts F → List ℕ → Option (List ℕ) → Type 0
IsInput is_standard is_file is_fault from_standard from_file name contents =
    MatchBool (bytes_eq name (codes "-")) (IsStandard is_standard from_standard contents) (IsFile is_file is_fault from_file name contents)

-- each name has its contents, in order
abbrev pub Each : (List ℕ → Option (List ℕ) → Type 0) → List (List ℕ) → List (Option (List ℕ)) → Type 0
Each Is [] [] = ⊤
Each Is [] (contents ∷ rest) = ⊥
Each Is (name ∷ names) [] = ⊥
Each Is (name ∷ names) (contents ∷ rest) = Is name contents × Each Is names rest

-- ---- what is made of a file

-- the count of a set-up's expectations, and how many of them are met; none, if it is refused
abbrev pub HasCountOf : Result SetupView Fault → Option ExpectationCount → Type 0
HasCountOf (Ok setup) count = HasCounts setup.profile setup count
HasCountOf (Err fault) count = count ≡ None

-- what is made of the contents of a file: nothing, if it has none
abbrev pub IsFoundFile : (List ℕ → CountedText → Type 0) → Option (List ℕ) → Option CountedText → Type 0
IsFoundFile IsMade None None = ⊤
IsFoundFile IsMade None (Some made) = ⊥
IsFoundFile IsMade (Some bytes) None = ⊥
IsFoundFile IsMade (Some bytes) (Some made) = IsMade bytes made

-- ---- a line for each file

-- the last line of the report that `check` writes, or the line by which it refuses the set-up
abbrev pub setup_line : Result SetupView Fault → List ℕ
setup_line (Ok setup) = expectation_line setup.calls (replies_to setup.profile setup)
setup_line (Err fault) = refusal_line fault

abbrev pub contents_line : Option (List ℕ) → List ℕ
contents_line None = codes "cannot be read\n"
contents_line (Some bytes) = setup_line (setup_of_bytes bytes)

-- the file's name, a colon, and that line
abbrev pub file_line : List ℕ → Option (List ℕ) → List ℕ
file_line name contents = name ++ (codes ": " ++ contents_line contents)

-- the line of each name with its contents
abbrev pub lines_of : (List ℕ → Option (List ℕ) → List ℕ) → List (List ℕ) → List (Option (List ℕ)) → List ℕ
lines_of line [] files = []
lines_of line (name ∷ names) [] = []
lines_of line (name ∷ names) (contents ∷ files) = line name contents ++ lines_of line names files

-- ---- the summary

-- the exit status of a single file: a read fails, or it is that of the verdict on its bytes
abbrev pub status_alone : (List ℕ → Verdict) → Option (List ℕ) → ℕ
status_alone verdict None = run_status (Err Reading)
status_alone verdict (Some bytes) = verdict_status (verdict bytes)

-- how many of the files have that exit status
abbrev pub count_with : (List ℕ → Verdict) → ℕ → List (Option (List ℕ)) → ℕ
count_with verdict status files = count_by (λ contents. status_alone verdict contents == status) files

-- how many files have each exit status
abbrev pub tally_of : (List ℕ → Verdict) → List (Option (List ℕ)) → Tally
tally_of verdict files = record {
  met = count_with verdict 0 files;
  unmet = count_with verdict 1 files;
  refused = count_with verdict 2 files;
  unread = count_with verdict 3 files;
}

abbrev pub tally_line : ℕ → Tally → List ℕ
tally_line files tally =
    terminated (codes "files " ++ (decimal files ++ (codes " met " ++ (decimal tally.met ++ (codes " unmet " ++ (decimal tally.unmet
    ++ (codes " refused " ++ (decimal tally.refused ++ (codes " unread " ++ decimal tally.unread)))))))))

-- a text of several files: what comes before, the line of each file, and what comes after, by how many there are and their tally
abbrev pub told_text : (List ℕ → Verdict) → List ℕ → (List ℕ → Option (List ℕ) → List ℕ) → (ℕ → Tally → List ℕ) → List (List ℕ) → List (Option (List ℕ)) → List ℕ
told_text verdict head line last names files = (head ++ lines_of line names files) ++ last (length names) (tally_of verdict files)

-- what `check` writes: the line of each file, and the summary
abbrev pub files_text : Bool → List (List ℕ) → List (Option (List ℕ)) → List ℕ
files_text strict = told_text (check_verdict strict) [] file_line tally_line

-- ---- the exit status

-- the exit status of a run over several files, from the counts of theirs: the greatest
abbrev pub tally_status : Tally → ℕ
tally_status tally =
    if nat_lt 0 tally.unread then 3 else if nat_lt 0 tally.refused then 2 else if nat_lt 0 tally.unmet then 1 else 0

-- a verdict that is never that something is not there: its statuses are those of a tally
abbrev pub IsNeverAbsent : (List ℕ → Verdict) → Type 0
IsNeverAbsent verdict = (bytes : List ℕ) → verdict bytes ≡ Absent → ⊥

-- the exit status after a run over several files
abbrev pub files_status : Result Tally RunFault → ℕ
files_status (Ok tally) = tally_status tally
files_status (Err fault) = 3

-- the greatest of some numbers
abbrev pub greatest : List ℕ → ℕ
greatest [] = 0
greatest (n ∷ rest) = max n (greatest rest)

-- ---- a run over several files

-- what is answered, and what the sink took, where `verdict` is that on the bytes of a file, `text` what is written, and `Is` says which
-- contents a name has
pub record IsToldOf {K : Type 0} (verdict : List ℕ → Verdict) (text : List (List ℕ) → List (Option (List ℕ)) → List ℕ) (Is : List ℕ → Option (List ℕ) → Type 0)
    (to : SinkGhosts K) (names : List (List ℕ)) (sink_old sink_new : K) (result : Result Tally RunFault) : Type 0 where
  -- Ok: the sink took just the text for the contents of the files, and the tally is theirs
  pub ok : IfOk result (λ tally. (files : List (Option (List ℕ)))
      × Each Is names files
      × Took to.taken to.written sink_old sink_new (text names files)
      × (tally ≡ tally_of verdict files))
  -- Writing: a write failed; the sink took a beginning of the text
  pub writing : result ≡ Err Writing → to.failed sink_new ≡ true
  pub writing_front : result ≡ Err Writing → (files : List (Option (List ℕ)))
      × Each Is names files
      × TookFront to.taken to.written sink_old sink_new (text names files)
  pub sink_marked : to.failed sink_new ≡ true → result ≡ Err Writing
  -- Memory: nothing was written; no other fault ends the run
  pub memory_keeps : result ≡ Err Memory → sink_new ≡ sink_old
  pub faults : IfErr result (λ fault. (fault ≡ Writing) ⊎ (fault ≡ Memory))

-- a run of `check` over several files, strict or not
abbrev pub IsCheckOf : {K : Type 0} → Bool → (List ℕ → Option (List ℕ) → Type 0) → SinkGhosts K → List (List ℕ) → K → K → Result Tally RunFault → Type 0
IsCheckOf strict = IsToldOf (check_verdict strict) (files_text strict)
