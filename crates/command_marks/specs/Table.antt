-- The marks of several files: a table in the form of CSV.
use Rattle.std.specs.Prelude.{codes, ℕ, ◌==◌, ◌||◌, Bool, false, if◌then◌else◌, List, [], ◌∷◌, ◌++◌, Option, Some, None, Result, Ok, Err}
use Rattle.std.specs.List.{flat_map, list_any}
use Rattle.std.specs.Fmt.{decimal}
use Rattle.cap_core.specs.declared.profile.ProfileName.{ProfileName}
use Rattle.setup_format.specs.Faults.{Fault}
use Rattle.setup_format.specs.Setups.{setup_of_bytes}
use Rattle.setup_format.specs.Views.{SetupView}
use Rattle.setup_report.specs.Report.{met_count, expectation_count}
use Rattle.setup_report.specs.Text.{numbers_text}
use Rattle.command_check.specs.Program.{replies_to}
use Rattle.command_core.specs.declared.fault.RunFault.{RunFault}
use Rattle.command_core.specs.declared.sink.Sink.{Ghosts as SinkGhosts}
use Rattle.command_files.specs.Files.{IsToldOf, told_text}
use Rattle.command_files.specs.Strict.{check_verdict}
use Rattle.command_files.specs.declared.tally.Tally.{Tally}
use Rattle.command_marks.specs.declared.mark.Mark.{Mark}
use Rattle.command_marks.specs.declared.mark.Mark.TheVariants.{Open, Wrong}
use Rattle.command_marks.specs.Marks.{numbers_of}
use Rattle.command_marks.specs.Text.{marks_in}

-- ---- a field

-- a line feed, a carriage return, a quotation mark or a comma
abbrev pub needs_marks : ℕ → Bool
needs_marks c = c == 10 || (c == 13 || (c == 34 || c == 44))

abbrev pub has_needs : List ℕ → Bool
has_needs text = list_any needs_marks text

-- a quotation mark twice, and another letter as it is
abbrev pub letter : ℕ → List ℕ
letter c = if c == 34 then c ∷ c ∷ [] else c ∷ []

abbrev pub doubled : List ℕ → List ℕ
doubled text = flat_map letter text

-- of two letters or more, of which the first is =, +, - or @: a spreadsheet computes it
abbrev pub is_formula : List ℕ → Bool
is_formula [] = false
is_formula (first ∷ []) = false
is_formula (first ∷ (second ∷ letters)) = first == 61 || (first == 43 || (first == 45 || first == 64))

-- what makes a path of a name that a spreadsheet would compute
abbrev pub folder_of : List ℕ → List ℕ
folder_of name = if is_formula name then codes "./" else []

-- a file's name as a path, in quotation marks if it has such a letter
abbrev pub field : List ℕ → List ℕ
field name =
    if has_needs name then codes "\"" ++ (folder_of name ++ (doubled name ++ codes "\"")) else folder_of name ++ name

-- numbers with a space between them
abbrev pub list_text : List ℕ → List ℕ
list_text [] = []
list_text (number ∷ numbers) = decimal number ++ numbers_text numbers

-- ---- a row

-- how many are right, of how many, which calls are wrong, which are open, and no note
abbrev pub cells_of : ℕ → ℕ → List Mark → List ℕ
cells_of right expected marks =
    decimal right ++ (codes "," ++ (decimal expected ++ (codes "," ++ (list_text (numbers_of Wrong 1 marks) ++ (codes "," ++ (list_text (numbers_of Open 1 marks) ++ codes ","))))))

abbrev pub cells_in : ProfileName → SetupView → List ℕ
cells_in p setup =
    cells_of (met_count setup.calls (replies_to p setup)) (expectation_count setup.calls (replies_to p setup)) (marks_in p setup)

abbrev pub cells_for : Result SetupView Fault → List ℕ
cells_for (Ok setup) = cells_in setup.profile setup
cells_for (Err fault) = codes ",,,,refused"

abbrev pub contents_cells : Option (List ℕ) → List ℕ
contents_cells None = codes ",,,,cannot be read"
contents_cells (Some bytes) = cells_for (setup_of_bytes bytes)

abbrev pub row : List ℕ → Option (List ℕ) → List ℕ
row name contents = field name ++ (codes "," ++ (contents_cells contents ++ codes "\n"))

-- ---- the table

abbrev pub head : List ℕ
head = codes "file,right,of,wrong,open,note\n"

abbrev pub table_text : List (List ℕ) → List (Option (List ℕ)) → List ℕ
table_text = told_text (check_verdict false) head row (λ files tally. [])

-- a run of `marks` over several files; its status is that of `check`
abbrev pub IsMarksOf : {K : Type 0} → (List ℕ → Option (List ℕ) → Type 0) → SinkGhosts K → List (List ℕ) → K → K → Result Tally RunFault → Type 0
IsMarksOf = IsToldOf (check_verdict false) table_text
