-- The marks of answers that were handed in: a table in the form of CSV, with a row for each file.
use Rattle.std.specs.Prelude.{codes, ℕ, ◌==◌, not, count_by, if◌then◌else◌, List, [], ◌++◌, Option, Some, None, Result, Ok, Err}
use Rattle.std.specs.Fmt.{decimal}
use Rattle.cap_core.specs.declared.profile.ProfileName.{ProfileName}
use Rattle.kernel_abstract.specs.declared.call.Reply.{Reply}
use Rattle.setup_format.specs.Faults.{Fault}
use Rattle.setup_format.specs.Setups.{read_of_bytes}
use Rattle.setup_format.specs.Views.{ReadView}
use Rattle.command_check.specs.Program.{replies_to}
use Rattle.command_core.specs.declared.fault.RunFault.{RunFault}
use Rattle.command_core.specs.declared.fault.Verdict.{Verdict}
use Rattle.command_core.specs.declared.fault.Verdict.TheVariants.{AllMet, NotMet, Refused}
use Rattle.command_core.specs.declared.sink.Sink.{Ghosts as SinkGhosts}
use Rattle.command_files.specs.Files.{IsToldOf, told_text}
use Rattle.command_files.specs.declared.tally.Tally.{Tally}
use Rattle.command_marks.specs.declared.mark.Mark.{Mark}
use Rattle.command_marks.specs.declared.mark.Mark.TheVariants.{Nothing, Right, Short, Open, Wrong}
use Rattle.command_marks.specs.Against.{is_same, marks_by}
use Rattle.command_marks.specs.Differences.{differs_text}
use Rattle.command_marks.specs.Marks.{is_mark, numbers_of}
use Rattle.command_marks.specs.Table.{field, list_text}

-- ---- a row

-- how many calls are right, and of how many something is asked
abbrev pub right_count : List Mark → ℕ
right_count marks = count_by (λ mark. is_mark mark Right) marks

abbrev pub asked_count : List Mark → ℕ
asked_count marks = count_by (λ mark. not (is_mark mark Nothing)) marks

-- both counts, the numbers of the calls that are wrong, too short and open, and no note
abbrev pub answer_cells_of : List Mark → List ℕ
answer_cells_of marks =
    decimal (right_count marks) ++ (codes "," ++ (decimal (asked_count marks) ++ (codes "," ++ (list_text (numbers_of Wrong 1 marks)
    ++ (codes "," ++ (list_text (numbers_of Short 1 marks) ++ (codes "," ++ (list_text (numbers_of Open 1 marks) ++ codes ","))))))))

-- by the exercise, where it is none that is refused; nothing is marked where the set-up is another one
abbrev pub cells_by : Option ReadView → ReadView → List Reply → List ℕ
cells_by None read replies = codes ",,,,,exercise refused"
cells_by (Some exercise) read replies =
    if is_same exercise.setup read.setup then answer_cells_of (marks_by exercise.setup.calls read.setup.calls replies)
    else codes ",,,,," ++ differs_text exercise read

-- of the set-up's run in a profile
abbrev pub answer_cells_in : ProfileName → Option ReadView → ReadView → List ℕ
answer_cells_in p exercise read = cells_by exercise read (replies_to p read.setup)

abbrev pub answer_cells_for : Option ReadView → Result ReadView Fault → List ℕ
answer_cells_for exercise (Ok read) = answer_cells_in read.setup.profile exercise read
answer_cells_for exercise (Err fault) = codes ",,,,,refused"

abbrev pub answer_contents_cells : Option ReadView → Option (List ℕ) → List ℕ
answer_contents_cells exercise None = codes ",,,,,cannot be read"
answer_contents_cells exercise (Some bytes) = answer_cells_for exercise (read_of_bytes bytes)

abbrev pub answer_row : Option ReadView → List ℕ → Option (List ℕ) → List ℕ
answer_row exercise name contents = field name ++ (codes "," ++ (answer_contents_cells exercise contents ++ codes "\n"))

-- ---- the verdict

-- all that is asked is right, or something is not
abbrev pub marks_verdict : List Mark → Verdict
marks_verdict marks = if right_count marks == asked_count marks then AllMet else NotMet

-- on a set-up, by an exercise: refused, where the exercise is; another set-up is not right
abbrev pub verdict_by : Option ReadView → ReadView → List Reply → Verdict
verdict_by None read replies = Refused
verdict_by (Some exercise) read replies =
    if is_same exercise.setup read.setup then marks_verdict (marks_by exercise.setup.calls read.setup.calls replies) else NotMet

abbrev pub verdict_for : Option ReadView → Result ReadView Fault → Verdict
verdict_for exercise (Ok read) = verdict_by exercise read (replies_to read.setup.profile read.setup)
verdict_for exercise (Err fault) = Refused

-- the set-up of an exercise, where it is not refused
abbrev pub exercise_in : Result ReadView Fault → Option ReadView
exercise_in (Ok read) = Some read
exercise_in (Err fault) = None

-- on the bytes of a file, by those of an exercise
abbrev pub answers_verdict : List ℕ → List ℕ → Verdict
answers_verdict exercise bytes = verdict_for (exercise_in (read_of_bytes exercise)) (read_of_bytes bytes)

-- ---- the table

abbrev pub answer_head : List ℕ
answer_head = codes "file,right,of,wrong,too short,open,note\n"

abbrev pub answer_table_text : List ℕ → List (List ℕ) → List (Option (List ℕ)) → List ℕ
answer_table_text exercise = told_text (answers_verdict exercise) answer_head (answer_row (exercise_in (read_of_bytes exercise))) (λ files tally. [])

-- a run of `marks --of` over files, by the bytes of an exercise; its status is that of the marks
abbrev pub AreMarkedBy : {K : Type 0} → List ℕ → (List ℕ → Option (List ℕ) → Type 0) → SinkGhosts K → List (List ℕ) → K → K → Result Tally RunFault → Type 0
AreMarkedBy exercise = IsToldOf (answers_verdict exercise) (answer_table_text exercise)
