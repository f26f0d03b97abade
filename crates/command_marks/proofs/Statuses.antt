-- Status 0 and the marks.
use Rattle.std.proofs.Common.{◌≡◌, ◌∙◌, ℕ, ◌==◌, ◌≤◌, List, [], ◌∷◌, Bool, true, false, if◌then◌else◌, Option, Some, None, Result, Ok, Err, map, refl, sym, ap, ap₂, arith}
use Rattle.std.specs.Prelude.{max}
use Rattle.std.specs.List.{All}
use Rattle.std.proofs.lemmas.Bool.{eqb-true, eq-eqb}
use Rattle.std.proofs.lemmas.List.Elements.{All-cons, All-head, All-tail}
use Rattle.setup_format.specs.Faults.{Fault}
use Rattle.setup_format.specs.Setups.{read_of_bytes}
use Rattle.setup_format.specs.Views.{ReadView}
use Rattle.command_check.specs.Program.{replies_to}
use Rattle.command_core.specs.Statuses.{verdict_status}
use Rattle.command_core.specs.declared.fault.Verdict.{Verdict}
use Rattle.command_core.specs.declared.fault.Verdict.TheVariants.{AllMet, NotMet, Refused, Absent}
use Rattle.command_files.specs.Files.{IsNeverAbsent, greatest, status_alone, tally_of, tally_status}
use Rattle.command_files.proofs.Tallies.{status_is}
use Rattle.command_marks.specs.declared.mark.Mark.{Mark}
use Rattle.command_marks.specs.Against.{is_same}
use Rattle.command_marks.specs.Answers.{answers_verdict, asked_count, exercise_in, marks_verdict, right_count, verdict_by, verdict_for}
use Rattle.command_marks.specs.Laws.{EndsByTheMarks, IsAllRight, marks_between}

-- ---- the verdict

right_or_not : (b : Bool) → (if b then AllMet else NotMet) ≡ AllMet → b ≡ true
right_or_not true e = refl
right_or_not false e = absurd cc

same_numbers : (a b : ℕ) → (a == b) ≡ true → a ≡ b
same_numbers a b e = eqb-true a b e

are_same_numbers : (a b : ℕ) → a ≡ b → (a == b) ≡ true
are_same_numbers a b e = eq-eqb a b e

all_right : (same : Bool) (marks : List Mark) → (if same then marks_verdict marks else NotMet) ≡ AllMet → (same ≡ true) × (right_count marks ≡ asked_count marks)
all_right true marks e = (refl, same_numbers _ _ (right_or_not _ e))
all_right false marks e = absurd cc

all_met : (same : Bool) (marks : List Mark) → same ≡ true → right_count marks ≡ asked_count marks → (if same then marks_verdict marks else NotMet) ≡ AllMet
all_met same marks s e =
    ap (λ b. if b then marks_verdict marks else NotMet) s ∙ ap (λ b. if b then AllMet else NotMet) (are_same_numbers (right_count marks) (asked_count marks) e)

-- ---- a file

met_alone : (verdict : Verdict) → verdict_status verdict ≡ 0 → verdict ≡ AllMet
met_alone AllMet e = refl
met_alone NotMet e = absurd cc
met_alone Refused e = absurd cc
met_alone Absent e = absurd cc

right_of : (exercise bytes : List ℕ) (asked given : Result ReadView Fault) → read_of_bytes exercise ≡ asked → read_of_bytes bytes ≡ given
    → verdict_for (exercise_in asked) given ≡ AllMet → IsAllRight exercise (Some bytes)
right_of exercise bytes (Ok asked) (Ok given) a g e =
    let both = all_right (is_same asked.setup given.setup) (marks_between asked given) e in record {
      bytes = bytes;
      contents_are = refl;
      asked = asked;
      exercise_is = a;
      given = given;
      file_is = g;
      same = both.0;
      right = both.1;
    }
right_of exercise bytes (Err fault) (Ok given) a g e = absurd cc
right_of exercise bytes (Ok asked) (Err fault) a g e = absurd cc
right_of exercise bytes (Err fault) (Err other) a g e = absurd cc

right_file : (exercise : List ℕ) (contents : Option (List ℕ)) → status_alone (answers_verdict exercise) contents ≡ 0 → IsAllRight exercise contents
right_file exercise None e = absurd cc
right_file exercise (Some bytes) e = right_of exercise bytes (read_of_bytes exercise) (read_of_bytes bytes) refl refl (met_alone _ e)

status_of_right : (exercise : List ℕ) (contents : Option (List ℕ)) → IsAllRight exercise contents → status_alone (answers_verdict exercise) contents ≡ 0
status_of_right exercise contents is =
    ap (status_alone (answers_verdict exercise)) is.contents_are
    ∙ ap (λ asked. verdict_status (verdict_for (exercise_in asked) (read_of_bytes is.bytes))) is.exercise_is
    ∙ ap (λ given. verdict_status (verdict_for (Some is.asked) given)) is.file_is
    ∙ ap verdict_status (all_met (is_same is.asked.setup is.given.setup) (marks_between is.asked is.given) is.same is.right)

-- ---- all files

never_by : (same : Bool) (marks : List Mark) → (if same then marks_verdict marks else NotMet) ≡ Absent → ⊥
never_by false marks e = absurd cc
never_by true marks e = go (right_count marks == asked_count marks) e where
  go : (b : Bool) → (if b then AllMet else NotMet) ≡ Absent → ⊥
  go true e = absurd cc
  go false e = absurd cc

never_for : (exercise : Option ReadView) (given : Result ReadView Fault) → verdict_for exercise given ≡ Absent → ⊥
never_for None (Ok given) e = absurd cc
never_for (Some asked) (Ok given) e = never_by (is_same asked.setup given.setup) (marks_between asked given) e
never_for exercise (Err fault) e = absurd cc

pub marks_are_there : (exercise : List ℕ) → IsNeverAbsent (answers_verdict exercise)
marks_are_there exercise bytes e = never_for (exercise_in (read_of_bytes exercise)) (read_of_bytes bytes) e

first_of_two : (a b : ℕ) → max a b ≡ 0 → a ≡ 0
first_of_two a b e = grind (arith, e)

second_of_two : (a b : ℕ) → max a b ≡ 0 → b ≡ 0
second_of_two a b e = grind (arith, e)

all_of_0 : (exercise : List ℕ) (files : List (Option (List ℕ))) → greatest (map (status_alone (answers_verdict exercise)) files) ≡ 0 → All (IsAllRight exercise) files
all_of_0 exercise [] e = λ k d h. absurd (omega (arith, h))
all_of_0 exercise (contents ∷ files) e =
    let Status = status_alone (answers_verdict exercise) in
    All-cons (IsAllRight exercise) contents files (right_file exercise contents (first_of_two (Status contents) (greatest (map Status files)) e))
    (all_of_0 exercise files (second_of_two (Status contents) (greatest (map Status files)) e))

greatest_of_all : (exercise : List ℕ) (files : List (Option (List ℕ))) → All (IsAllRight exercise) files → greatest (map (status_alone (answers_verdict exercise)) files) ≡ 0
greatest_of_all exercise [] all = refl
greatest_of_all exercise (contents ∷ files) all =
    ap₂ max (status_of_right exercise contents (All-head (IsAllRight exercise) contents files all))
    (greatest_of_all exercise files (All-tail (IsAllRight exercise) contents files all))

pub ends_by_the_marks : EndsByTheMarks
ends_by_the_marks exercise files =
    let is = status_is (answers_verdict exercise) files (marks_are_there exercise) in
    (λ e. all_of_0 exercise files (sym is ∙ e), λ all. is ∙ greatest_of_all exercise files all)
