-- The marks of a set-up's answers by the questions of another: of the exercise that was handed out, or of its key.
use Rattle.std.specs.Prelude.{codes, ℕ, ◌==◌, ◌&&◌, nat_lt, count_by, Bool, if◌then◌else◌, List, [], ◌∷◌, map, Option, Some, None}
use Rattle.std.specs.Cmp.Lexicographic.{pointwise}
use Rattle.std.specs.Str.{bytes_eq}
use Rattle.cap_core.specs.contracts.profile.ProfileNamePartialEq.TheImpl as profile_eq
use Rattle.kernel_abstract.specs.declared.call.Call.{Call}
use Rattle.kernel_abstract.specs.declared.call.Reply.{Reply}
use Rattle.kernel_abstract.specs.declared.call.Reply.TheVariants.{Delivered}
use Rattle.kernel_abstract.specs.contracts.call.CallPartialEq.TheImpl as call_eq
use Rattle.kernel_abstract.specs.Plan.{Plan}
use Rattle.setup_format.specs.Expectations.{asks}
use Rattle.setup_format.specs.Views.{CallView, SetupView}
use Rattle.setup_report.specs.Text.{reply_text}
use Rattle.command_marks.specs.declared.mark.Mark.{Mark}
use Rattle.command_marks.specs.declared.mark.Mark.TheVariants.{Nothing, Right, Short, Open}
use Rattle.command_marks.specs.Marks.{mark_of}

-- ---- whether a set-up is another one

-- both regions have the same base and bits
abbrev pub same_region : ℕ × ℕ → ℕ × ℕ → Bool
same_region a b = a.0 == b.0 && a.1 == b.1

abbrev pub same_plan : Plan → Plan → Bool
same_plan a b =
    a.memory_bits == b.memory_bits
    && (a.root_radix == b.root_radix && (a.threads == b.threads && (a.endpoints == b.endpoints && pointwise same_region a.untypeds b.untypeds)))

abbrev pub same_calls : List Call → List Call → Bool
same_calls a b = pointwise call_eq.ghosts.eq a b

-- it is the exercise in all but what its calls expect: for the same machine, with the same boot and the same calls. Names and
-- comments are no part of a set-up; which client makes a call changes no reply, since all calls are made in their order
abbrev pub is_same : SetupView → SetupView → Bool
is_same exercise setup =
    profile_eq.ghosts.eq exercise.profile setup.profile
    && (same_plan exercise.plan setup.plan && same_calls (map (λ (c : CallView). c.call) exercise.calls) (map (λ (c : CallView). c.call) setup.calls))

-- ---- whether an answer is too short

-- how many spaces a text has: one less than its words
abbrev pub spaces : List ℕ → ℕ
spaces text = count_by (λ c. c == 32) text

-- how many spaces there are in what a question asks for of a delivery: all up to the part that it names, of the last one the whole
-- reply; none, where it names no part
abbrev pub asked_of_delivery : List ℕ → List ℕ → ℕ
asked_of_delivery question reply =
    if bytes_eq question (codes "? from") then 3
    else if bytes_eq question (codes "? to") then 5
    else if bytes_eq question (codes "? badge") then 7
    else if bytes_eq question (codes "? label") then 9
    else if bytes_eq question (codes "? words") then spaces reply
    else 0

-- a question asks for the whole of any other reply
abbrev pub asked_of : List ℕ → Reply → ℕ
asked_of question (Delivered endpoint from to badge message) = asked_of_delivery question (reply_text (Delivered endpoint from to badge message))
asked_of question reply = spaces (reply_text reply)

-- a key asks for as much as it says itself
abbrev pub asked : List ℕ → Reply → ℕ
asked question reply = if asks question then asked_of question reply else spaces question

abbrev pub is_short : List ℕ → List ℕ → Reply → Bool
is_short question answer reply = nat_lt (spaces answer) (asked question reply)

-- ---- the marks

abbrev pub shortened : Mark → Bool → Mark
shortened Right short = if short then Short else Right
shortened mark short = mark

-- by what the exercise's call asks, what is answered in its place, and the reply
abbrev pub mark_by_question : Option (List ℕ) → Option (List ℕ) → Reply → Mark
mark_by_question None answer reply = Nothing
mark_by_question (Some question) None reply = Open
mark_by_question (Some question) (Some answer) reply = shortened (mark_of (Some answer) (reply_text reply)) (is_short question answer reply)

-- of an exercise's calls, of those of the answers, and of the replies to these
abbrev pub marks_by : List CallView → List CallView → List Reply → List Mark
marks_by [] calls replies = []
marks_by (asked ∷ rest) [] replies = []
marks_by (asked ∷ rest) (call ∷ calls) [] = []
marks_by (asked ∷ rest) (call ∷ calls) (reply ∷ replies) = mark_by_question asked.expect call.expect reply ∷ marks_by rest calls replies
