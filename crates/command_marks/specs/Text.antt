-- What is written of the marks of a set-up's calls.
use Rattle.std.specs.Prelude.{◌≡◌, codes, ℕ, ◌+◌, List, [], ◌∷◌, ◌++◌, length, Option, Some, None}
use Rattle.std.specs.Fmt.{decimal}
use Rattle.cap_core.specs.declared.profile.ProfileName.{ProfileName}
use Rattle.kernel_abstract.specs.declared.call.Call.{Call}
use Rattle.setup_values.specs.Operations.{op_text}
use Rattle.setup_format.specs.Operations.{op_name}
use Rattle.setup_format.specs.Views.{CallView, ReadView, SetupView}
use Rattle.setup_report.specs.Report.{terminated, met_count, expectation_count}
use Rattle.command_check.specs.Program.{replies_to, verdict_of}
use Rattle.command_core.specs.declared.fault.Verdict.{Verdict}
use Rattle.command_marks.specs.declared.mark.Mark.{Mark}
use Rattle.command_marks.specs.declared.mark.Mark.TheVariants.{Nothing, Right, Short, Open, Wrong}
use Rattle.command_marks.specs.Marks.{marks_of, numbers_of}

-- of a call that expects that text
abbrev pub mark_text : List ℕ → Mark → List ℕ
mark_text expected Nothing = []
mark_text expected Right = codes "right"
mark_text expected Short = codes "too short"
mark_text expected Open = codes "open"
mark_text expected Wrong = codes "not " ++ expected

-- the line of a call: its number, its thread, its operation, and its mark; none where it expects nothing
abbrev pub mark_line : ℕ → Call → Option (List ℕ) → Mark → List ℕ
mark_line number call None mark = []
mark_line number call (Some expected) mark =
    terminated (decimal number ++ (codes " " ++ (decimal call.thread ++ (codes " " ++ (op_text (op_name call.op) ++ (codes ": " ++ mark_text expected mark))))))

abbrev pub mark_lines : ℕ → List CallView → List Mark → List ℕ
mark_lines number [] marks = []
mark_lines number (call ∷ calls) [] = []
mark_lines number (call ∷ calls) (mark ∷ marks) = mark_line number call.call call.expect mark ++ mark_lines (number + 1) calls marks

-- how many are right, of how many, and how many are open
abbrev pub marks_count_line : ℕ → ℕ → ℕ → List ℕ
marks_count_line right expected asked =
    terminated (codes "marks " ++ (decimal right ++ (codes " of " ++ (decimal expected ++ (codes " open " ++ decimal asked)))))

abbrev pub text_with : List CallView → List Mark → ℕ → ℕ → List ℕ
text_with calls marks right expected = mark_lines 1 calls marks ++ marks_count_line right expected (length (numbers_of Open 1 marks))

-- the marks of a set-up's run
abbrev pub marks_in : ProfileName → SetupView → List Mark
marks_in p setup = marks_of setup.calls (replies_to p setup)

-- a line for each call that expects something, and the counts, which are those of the report
abbrev pub marks_text : ProfileName → SetupView → List ℕ
marks_text p setup =
    text_with setup.calls (marks_in p setup) (met_count setup.calls (replies_to p setup)) (expectation_count setup.calls (replies_to p setup))

-- the verdict is that of the report
abbrev pub IsMarks : ProfileName → ReadView → List ℕ → Verdict → Type 0
IsMarks p read text verdict = (text ≡ marks_text p read.setup) × (verdict ≡ verdict_of read.setup.calls (replies_to p read.setup))
