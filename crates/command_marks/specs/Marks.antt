-- The marks of a set-up's calls: whether the reply to each is as expected.
use Rattle.std.specs.Prelude.{ℕ, ◌+◌, List, [], ◌∷◌, Bool, true, false, if◌then◌else◌, Option, Some, None}
use Rattle.kernel_abstract.specs.declared.call.Reply.{Reply}
use Rattle.setup_format.specs.Expectations.{asks}
use Rattle.setup_format.specs.Views.{CallView}
use Rattle.setup_report.specs.Text.{begins_as, reply_text}
use Rattle.command_marks.specs.declared.mark.Mark.{Mark}
use Rattle.command_marks.specs.declared.mark.Mark.TheVariants.{Nothing, Right, Short, Open, Wrong}

-- right where the reply is as expected, and else open where the expectation asks, or wrong
abbrev pub mark_by : Bool → Bool → Mark
mark_by met asked = if met then Right else if asked then Open else Wrong

abbrev pub mark_of : Option (List ℕ) → List ℕ → Mark
mark_of None reply = Nothing
mark_of (Some expected) reply = mark_by (begins_as reply expected) (asks expected)

-- of calls, each with the reply to it
abbrev pub marks_of : List CallView → List Reply → List Mark
marks_of [] replies = []
marks_of (call ∷ calls) [] = []
marks_of (call ∷ calls) (reply ∷ replies) = mark_of call.expect (reply_text reply) ∷ marks_of calls replies

abbrev pub is_mark : Mark → Mark → Bool
is_mark Nothing Nothing = true
is_mark Right Right = true
is_mark Short Short = true
is_mark Open Open = true
is_mark Wrong Wrong = true
is_mark mark other = false

-- the numbers of the calls with that mark, of calls that are numbered from `number` on
abbrev pub numbers_of : Mark → ℕ → List Mark → List ℕ
numbers_of wanted number [] = []
numbers_of wanted number (mark ∷ marks) =
    if is_mark mark wanted then number ∷ numbers_of wanted (number + 1) marks else numbers_of wanted (number + 1) marks
