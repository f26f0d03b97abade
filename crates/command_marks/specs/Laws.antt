-- What the marks tell of the report, that they tell no reply, that another set-up is told by a place, and which marks end with status 0.
use Rattle.std.specs.Prelude.{◌≡◌, ◌≢◌, ◌↔◌, codes, List, ℕ, length, Option, Some, Ok, true, false}
use Rattle.std.specs.List.{All}
use Rattle.kernel_abstract.specs.declared.call.Reply.{Reply}
use Rattle.setup_format.specs.Setups.{read_of_bytes}
use Rattle.setup_format.specs.Views.{CallView, ReadView}
use Rattle.setup_report.specs.Report.{met_count}
use Rattle.setup_report.specs.Text.{begins_as, expectation_text, reply_text}
use Rattle.command_check.specs.Program.{replies_to}
use Rattle.command_files.specs.Files.{tally_of, tally_status}
use Rattle.command_marks.specs.declared.mark.Mark.{Mark}
use Rattle.command_marks.specs.declared.mark.Mark.TheVariants.{Right}
use Rattle.command_marks.specs.Against.{is_same, is_short, mark_by_question, marks_by}
use Rattle.command_marks.specs.Answers.{answers_verdict, asked_count, right_count}
use Rattle.command_marks.specs.Differences.{differs_text}
use Rattle.command_marks.specs.Marks.{mark_of, marks_of, numbers_of}

-- the marks of a set-up are those that its report shows: right if it says that an expectation is met
pub record AreThoseOfTheReport : Type 0 where
  -- a call is right exactly if the report says ` [met]` of it
  pub right : (expected reply : List ℕ) → (mark_of (Some expected) reply ≡ Right) ↔ (expectation_text (Some expected) reply ≡ codes " [met]")
  -- as many are right as the report counts
  pub count : (calls : List CallView) (replies : List Reply) → length (numbers_of Right 1 (marks_of calls replies)) ≡ met_count calls replies
  -- of a reply a mark tells nothing but whether it is as expected
  pub blind : (expected one other : List ℕ) → begins_as one expected ≡ begins_as other expected → mark_of (Some expected) one ≡ mark_of (Some expected) other

-- by an exercise an answer is right exactly if the report says ` [met]` of it and it says as much as is asked for
abbrev pub AreThoseOfTheExercise : Type 0
AreThoseOfTheExercise =
    (question answer : List ℕ) (reply : Reply) → (mark_by_question (Some question) (Some answer) reply ≡ Right)
    ↔ ((expectation_text (Some answer) (reply_text reply) ≡ codes " [met]") × (is_short question answer reply ≡ false))

-- of each set-up that is another one than the exercise a place is named, and not only that it differs
abbrev pub HasPlaceWhereItDiffers : Type 0
HasPlaceWhereItDiffers = (exercise read : ReadView) → is_same exercise.setup read.setup ≡ false → differs_text exercise read ≢ codes "differs"

-- the marks of a set-up's run by the questions of an exercise
abbrev pub marks_between : ReadView → ReadView → List Mark
marks_between exercise read = marks_by exercise.setup.calls read.setup.calls (replies_to read.setup.profile read.setup)

-- a file is read as the exercise's set-up, and all that is asked is right
pub record IsAllRight (exercise : List ℕ) (contents : Option (List ℕ)) : Type 0 where
  pub bytes : List ℕ
  pub contents_are : contents ≡ Some bytes
  pub asked : ReadView
  pub exercise_is : read_of_bytes exercise ≡ Ok asked
  pub given : ReadView
  pub file_is : read_of_bytes bytes ≡ Ok given
  pub same : is_same asked.setup given.setup ≡ true
  pub right : right_count (marks_between asked given) ≡ asked_count (marks_between asked given)

-- `marks --of` ends with status 0 exactly if each file is such a one
abbrev pub EndsByTheMarks : Type 0
EndsByTheMarks =
    (exercise : List ℕ) (files : List (Option (List ℕ)))
    → (tally_status (tally_of (answers_verdict exercise) files) ≡ 0) ↔ All (IsAllRight exercise) files
