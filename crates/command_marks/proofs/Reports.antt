-- A mark is that of the report.
use Rattle.std.proofs.Common.{◌≡◌, ℕ, suc, ◌+◌, List, [], ◌∷◌, ◌++◌, length, codes, Bool, true, false, if◌then◌else◌, Option, Some, None, refl, ap, ◌∙◌, arith}
use Rattle.std.specs.Prelude.{◌↔◌}
use Rattle.kernel_abstract.specs.declared.call.Reply.{Reply}
use Rattle.setup_format.specs.Views.{CallView}
use Rattle.setup_report.specs.Report.{met_count, one_met}
use Rattle.setup_report.specs.Text.{begins_as, reply_text}
use Rattle.command_marks.specs.declared.mark.Mark.{Mark}
use Rattle.command_marks.specs.declared.mark.Mark.TheVariants.{Right, Open, Wrong}
use Rattle.command_marks.specs.Against.{is_short, shortened}
use Rattle.command_marks.specs.Laws.{AreThoseOfTheExercise, AreThoseOfTheReport}
use Rattle.setup_format.specs.Expectations.{asks}
use Rattle.command_marks.specs.Marks.{is_mark, mark_of, marks_of, numbers_of}

abbrev by : Bool → Bool → Mark
by met asked = if met then Right else if asked then Open else Wrong

abbrev told : List ℕ → Bool → List ℕ
told expected met = if met then codes " [met]" else codes " [not met: " ++ (expected ++ codes "]")

not_right : (asked : Bool) → by false asked ≡ Right → ⊥
not_right true e = cc
not_right false e = cc

right_is_met : (expected : List ℕ) (met asked : Bool) → (by met asked ≡ Right) ↔ (told expected met ≡ codes " [met]")
right_is_met expected true asked = (λ e. refl, λ e. refl)
right_is_met expected false asked = (λ e. absurd (not_right asked e), λ e. absurd cc)

counts_open : (asked : Bool) → is_mark (by false asked) Right ≡ false
counts_open true = refl
counts_open false = refl

zero_more : (n : ℕ) → n ≡ 0 + n
zero_more n = omega arith

one_before : (n : ℕ) → suc n ≡ 1 + n
one_before n = omega arith

-- a call more: one more is right where it is met
one_more : (met asked : Bool) (n : ℕ) (marks : List Mark) → length (numbers_of Right n (by met asked ∷ marks)) ≡ (if met then 1 else 0) + length (numbers_of Right (n + 1) marks)
one_more true asked n marks = one_before (length (numbers_of Right (n + 1) marks))
one_more false asked n marks =
    ap (λ b. length (if b then n ∷ numbers_of Right (n + 1) marks else numbers_of Right (n + 1) marks)) (counts_open asked)
    ∙ zero_more (length (numbers_of Right (n + 1) marks))

call_more : (expected : Option (List ℕ)) (reply : List ℕ) (n : ℕ) (marks : List Mark)
    → length (numbers_of Right n (mark_of expected reply ∷ marks)) ≡ one_met expected reply + length (numbers_of Right (n + 1) marks)
call_more None reply n marks = zero_more (length (numbers_of Right (n + 1) marks))
call_more (Some expected) reply n marks = one_more (begins_as reply expected) (asks expected) n marks

as_many : (n : ℕ) (calls : List CallView) (replies : List Reply) → length (numbers_of Right n (marks_of calls replies)) ≡ met_count calls replies
as_many n [] replies = refl
as_many n (call ∷ calls) [] = refl
as_many n (call ∷ calls) (reply ∷ replies) =
    call_more call.expect (reply_text reply) n (marks_of calls replies) ∙ ap (λ k. one_met call.expect (reply_text reply) + k) (as_many (n + 1) calls replies)

pub those_of_the_report : AreThoseOfTheReport
those_of_the_report = record {
  right = λ expected reply. right_is_met expected (begins_as reply expected) (asks expected);
  count = as_many 1;
  blind = λ expected one other same. ap (λ met. by met (asks expected)) same;
}

-- ---- by an exercise

met_is_not : (expected : List ℕ) → told expected false ≡ codes " [met]" → ⊥
met_is_not expected e = cc

right_where_enough : (expected : List ℕ) (met asked short : Bool)
    → (shortened (by met asked) short ≡ Right) ↔ ((told expected met ≡ codes " [met]") × (short ≡ false))
right_where_enough expected true asked true = (λ e. absurd cc, λ e. absurd cc)
right_where_enough expected true asked false = (λ e. (refl, refl), λ e. refl)
right_where_enough expected false true short = (λ e. absurd cc, λ e. absurd (met_is_not expected e.0))
right_where_enough expected false false short = (λ e. absurd cc, λ e. absurd (met_is_not expected e.0))

pub those_of_the_exercise : AreThoseOfTheExercise
those_of_the_exercise question answer reply = right_where_enough answer (begins_as (reply_text reply) answer) (asks answer) (is_short question answer reply)
