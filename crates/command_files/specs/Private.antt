-- What is known of a file while its line is written. No public clause cites it.
use Rattle.std.specs.Prelude.{◌≡◌, ⊤, ◌+◌, ◌==◌, ℕ, cond, codes, List, ◌++◌, Option, Some, None, option_map}
use Rattle.std.specs.Fmt.{decimal}
use Rattle.setup_report.specs.Report.{terminated}
use Rattle.setup_report.specs.declared.calls.ExpectationCount.{ExpectationCount}
use Rattle.command_check.specs.declared.run.CountedText.{CountedText}
use Rattle.command_core.specs.Statuses.{verdict_status}
use Rattle.command_core.specs.declared.fault.Verdict.{Verdict}
use Rattle.command_files.specs.declared.telling.FileAnswer.{FileAnswer}
use Rattle.command_files.specs.declared.tally.Tally.{Tally}

-- what is made of the contents of a file, and the verdict on its bytes
abbrev pub IsJudgedFound : (List ℕ → Verdict) → (List ℕ → CountedText → Type 0) → Option (List ℕ) → Option FileAnswer → Type 0
IsJudgedFound verdict IsMade None None = ⊤
IsJudgedFound verdict IsMade None (Some answer) = ⊥
IsJudgedFound verdict IsMade (Some bytes) None = ⊥
IsJudgedFound verdict IsMade (Some bytes) (Some answer) = IsMade bytes answer.told × (answer.verdict ≡ verdict bytes)

-- what is said about a file, and the verdict, if it could be read
abbrev pub told_in : Option FileAnswer → Option CountedText
told_in = option_map (λ answer. answer.told)

abbrev pub verdict_found : Option FileAnswer → Option Verdict
verdict_found = option_map (λ answer. answer.verdict)

abbrev pub count_text : ExpectationCount → List ℕ
count_text count = terminated (codes "expected " ++ (decimal count.met ++ (codes " of " ++ decimal count.expected)))

abbrev pub line_with : List ℕ → Option ExpectationCount → List ℕ
line_with text None = text
line_with text (Some count) = count_text count

abbrev pub found_line : Option CountedText → List ℕ
found_line None = codes "cannot be read\n"
found_line (Some made) = line_with made.text.items made.count

abbrev pub named_line : List ℕ → Option CountedText → List ℕ
named_line name found = name ++ (codes ": " ++ found_line found)

abbrev pub found_status : Option Verdict → ℕ
found_status None = 3
found_status (Some verdict) = verdict_status verdict

-- the tally with one more file of that exit status
abbrev pub with_status : ℕ → Tally → Tally
with_status status tally = record {
  met = tally.met + cond (status == 0) 1 0;
  unmet = tally.unmet + cond (status == 1) 1 0;
  refused = tally.refused + cond (status == 2) 1 0;
  unread = tally.unread + cond (status == 3) 1 0;
}

-- how many files were counted
abbrev pub tally_size : Tally → ℕ
tally_size tally = tally.met + tally.unmet + tally.refused + tally.unread
