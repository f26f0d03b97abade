-- Calls, replies and marks, read from the front.
use Rattle.std.proofs.Common.{◌≡◌, ℕ, suc, ◌+◌, ◌<◌, List, [], ◌∷◌, ◌++◌, length, drop, map, slice_get, get_or, Option, Some, option_map, true, false, if◌then◌else◌, refl, sym, ap, ◌∙◌, append_assoc, add-one, arith}
use Rattle.std.proofs.Math.Seq.{drop-cons}
use Rattle.std.proofs.lemmas.List.{length-map}
use Rattle.std.proofs.lemmas.Option.{slice_get_within, get_or_from_slice_get, slice_get-get_or}
use Rattle.cap_core.specs.declared.profile.ProfileName.{ProfileName}
use Rattle.kernel_abstract.specs.declared.call.Call.{Call}
use Rattle.kernel_abstract.specs.declared.call.Reply.{Reply}
use Rattle.setup_format.specs.Views.{CallView, SetupView}
use Rattle.setup_report.specs.Text.{reply_text}
use Rattle.command_check.specs.Program.{replies_to}
use Rattle.command_check.proofs.Runs.{length_replies_to}
use Rattle.setup_report.proofs.Sequences.Calls.{IsCallAt, IsExpectedAt, call_at, expected_at, reply_at}
use Rattle.command_marks.specs.declared.mark.Mark.{Mark}
use Rattle.command_marks.specs.Marks.{is_mark, mark_of, marks_of, numbers_of}
use Rattle.command_marks.specs.Text.{mark_line, mark_lines}

-- ---- the marks

marks_more : (calls : List CallView) (replies : List Reply) (i : ℕ) (expected : Option (List ℕ)) (reply : Reply) → option_map (λ (c : CallView). c.expect) (slice_get calls i) ≡ Some expected
    → slice_get replies i ≡ Some reply → marks_of (drop i calls) (drop i replies) ≡ mark_of expected (reply_text reply) ∷ marks_of (drop (i + 1) calls) (drop (i + 1) replies)
marks_more calls replies i expected reply x r =
    let at : IsExpectedAt calls i expected = expected_at calls i expected x in
    ap (λ cs. marks_of cs (drop i replies)) at.there
    ∙ ap (λ rs. marks_of (at.view ∷ drop (suc i) calls) rs) (reply_at replies i reply r)
    ∙ ap (λ e. mark_of e (reply_text reply) ∷ marks_of (drop (suc i) calls) (drop (suc i) replies)) at.expected_is
    ∙ ap (λ n. mark_of expected (reply_text reply) ∷ marks_of (drop n calls) (drop n replies)) (sym (add-one i))

-- a mark more
pub marked_more : (calls : List CallView) (replies : List Reply) (i : ℕ) (expected : Option (List ℕ)) (reply : Reply) (mark : Mark) (total before after : List Mark)
    → before ++ marks_of (drop i calls) (drop i replies) ≡ total → option_map (λ (c : CallView). c.expect) (slice_get calls i) ≡ Some expected → slice_get replies i ≡ Some reply
    → mark ≡ mark_of expected (reply_text reply) → after ≡ before ++ mark ∷ [] → after ++ marks_of (drop (i + 1) calls) (drop (i + 1) replies) ≡ total
marked_more calls replies i expected reply mark total before after e x r m a =
    ap (λ t. t ++ marks_of (drop (i + 1) calls) (drop (i + 1) replies)) (a ∙ ap (λ k. before ++ k ∷ []) m)
    ∙ append_assoc before (mark_of expected (reply_text reply) ∷ []) (marks_of (drop (i + 1) calls) (drop (i + 1) replies))
    ∙ ap (λ t. before ++ t) (sym (marks_more calls replies i expected reply x r))
    ∙ e

pub replies_length : (p : ProfileName) (setup : SetupView) → length (replies_to p setup) ≡ length setup.calls
replies_length p setup = length_replies_to p setup

pub marks_length : (calls : List CallView) (replies : List Reply) → length replies ≡ length calls → length (marks_of calls replies) ≡ length calls
marks_length [] replies same = refl
marks_length (call ∷ calls) [] same = same
marks_length (call ∷ calls) (reply ∷ replies) same = ap suc (marks_length calls replies (omega (arith, same)))

-- ---- the lines

from_place : {A : Type 0} (l : List A) (i : ℕ) (x : A) → slice_get l i ≡ Some x → drop i l ≡ x ∷ drop (suc i) l
from_place l i x e = drop-cons l i x (slice_get_within l i x e) ∙ ap (λ y. y ∷ drop (suc i) l) (get_or_from_slice_get l i x x e)

lines_more : (calls : List CallView) (marks : List Mark) (i : ℕ) (call : Call) (expected : Option (List ℕ)) (mark : Mark) → IsCallAt calls i call expected → slice_get marks i ≡ Some mark
    → mark_lines (i + 1) (drop i calls) (drop i marks) ≡ mark_line (i + 1) call expected mark ++ mark_lines (i + 1 + 1) (drop (i + 1) calls) (drop (i + 1) marks)
lines_more calls marks i call expected mark at e =
    ap (λ cs. mark_lines (i + 1) cs (drop i marks)) at.there
    ∙ ap (λ ms. mark_lines (i + 1) (at.view ∷ drop (suc i) calls) ms) (from_place marks i mark e)
    ∙ ap (λ c. mark_line (i + 1) c at.view.expect mark ++ mark_lines (i + 1 + 1) (drop (suc i) calls) (drop (suc i) marks)) at.call_is
    ∙ ap (λ x. mark_line (i + 1) call x mark ++ mark_lines (i + 1 + 1) (drop (suc i) calls) (drop (suc i) marks)) at.expected_is
    ∙ ap (λ n. mark_line (i + 1) call expected mark ++ mark_lines (i + 1 + 1) (drop n calls) (drop n marks)) (sym (add-one i))

-- a line more
pub added : (calls : List CallView) (marks : List Mark) (i : ℕ) (call : Call) (expected : Option (List ℕ)) (mark : Mark) (total before after : List ℕ)
    → before ++ mark_lines (i + 1) (drop i calls) (drop i marks) ≡ total → option_map (λ (c : CallView). c.call) (slice_get calls i) ≡ Some call
    → option_map (λ (c : CallView). c.expect) (slice_get calls i) ≡ Some expected → slice_get marks i ≡ Some mark → after ≡ before ++ mark_line (i + 1) call expected mark
    → after ++ mark_lines (i + 1 + 1) (drop (i + 1) calls) (drop (i + 1) marks) ≡ total
added calls marks i call expected mark total before after e c x m a =
    ap (λ t. t ++ mark_lines (i + 1 + 1) (drop (i + 1) calls) (drop (i + 1) marks)) a
    ∙ append_assoc before (mark_line (i + 1) call expected mark) (mark_lines (i + 1 + 1) (drop (i + 1) calls) (drop (i + 1) marks))
    ∙ ap (λ t. before ++ t) (sym (lines_more calls marks i call expected mark (call_at calls i call expected c x) m))
    ∙ e

pub mark_here : (calls : List CallView) (items : List Call) (marks : List Mark) (i : ℕ) (d : Mark) → items ≡ map (λ (c : CallView). c.call) calls → length marks ≡ length calls → i < length items
    → slice_get marks i ≡ Some (get_or marks i d)
mark_here calls items marks i d e same h =
    let count : length items ≡ length calls = ap length e ∙ length-map calls (λ (c : CallView). c.call) in
    let within : i < length marks = omega arith in
    slice_get-get_or marks i d within

-- ---- the numbers

pub numbers_more : (wanted : Mark) (marks : List Mark) (i : ℕ) (d : Mark) → i < length marks
    → numbers_of wanted (i + 1) (drop i marks)
    ≡ (if is_mark (get_or marks i d) wanted then (i + 1) ∷ numbers_of wanted (i + 1 + 1) (drop (i + 1) marks) else numbers_of wanted (i + 1 + 1) (drop (i + 1) marks))
numbers_more wanted marks i d within =
    ap (numbers_of wanted (i + 1)) (from_place marks i (get_or marks i d) (slice_get-get_or marks i d within))
    ∙ ap (λ n. if is_mark (get_or marks i d) wanted then (i + 1) ∷ numbers_of wanted (i + 1 + 1) (drop n marks) else numbers_of wanted (i + 1 + 1) (drop n marks)) (sym (add-one i))

pub with_number : (wanted : Mark) (marks : List Mark) (i : ℕ) (d : Mark) (total before after : List ℕ) → i < length marks
    → before ++ numbers_of wanted (i + 1) (drop i marks) ≡ total → is_mark (get_or marks i d) wanted ≡ true → after ≡ before ++ (i + 1) ∷ []
    → after ++ numbers_of wanted (i + 1 + 1) (drop (i + 1) marks) ≡ total
with_number wanted marks i d total before after within e is a =
    let rest = numbers_of wanted (i + 1 + 1) (drop (i + 1) marks) in
    ap (λ t. t ++ rest) a ∙ append_assoc before ((i + 1) ∷ []) rest
    ∙ ap (λ t. before ++ t) (sym (numbers_more wanted marks i d within ∙ ap (λ b. if b then (i + 1) ∷ rest else rest) is))
    ∙ e

pub without_number : (wanted : Mark) (marks : List Mark) (i : ℕ) (d : Mark) (total before : List ℕ) → i < length marks
    → before ++ numbers_of wanted (i + 1) (drop i marks) ≡ total → is_mark (get_or marks i d) wanted ≡ false
    → before ++ numbers_of wanted (i + 1 + 1) (drop (i + 1) marks) ≡ total
without_number wanted marks i d total before within e is =
    let rest = numbers_of wanted (i + 1 + 1) (drop (i + 1) marks) in
    ap (λ t. before ++ t) (sym (numbers_more wanted marks i d within ∙ ap (λ b. if b then (i + 1) ∷ rest else rest) is)) ∙ e
