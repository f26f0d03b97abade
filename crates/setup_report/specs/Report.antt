-- The report of a run: a line for each call, then what the kernel shows of its memory, then how many expectations are met.
-- Objects, slots and threads stand as `texts` writes them.
use Rattle.std.specs.Prelude.{codes, ℕ, ◌+◌, List, [], ◌∷◌, ◌++◌, map, Bool, false, if◌then◌else◌, Option, Some, None, is_some}
use Rattle.std.specs.List.{flat_map}
use Rattle.std.specs.Fmt.{decimal}
use Rattle.cap_core.specs.declared.profile.ProfileName.{ProfileName}
use Rattle.cap_core.specs.declared.capability.Cap.{Cap}
use Rattle.ipc_core.specs.declared.waiter.Waiter.{Waiter}
use Rattle.ipc_core.specs.Waits.{thread_of}
use Rattle.ipc_core.specs.Agreement.{is_sender}
use Rattle.kernel_abstract.specs.declared.call.Call.{Call}
use Rattle.kernel_abstract.specs.declared.call.Reply.{Reply}
use Rattle.kernel_abstract.specs.declared.call.ThreadState.{ThreadState}
use Rattle.kernel_abstract.specs.declared.call.Inbox.{Inbox}
use Rattle.kernel_abstract.specs.Shown.{Shown, state_at, inbox_at, waiting_at, has_child}
use Rattle.setup_format.specs.Views.{CallView}
use Rattle.setup_report.specs.State.{Derived, slot_of, threads, endpoints, slot_rows, selfheld}
use Rattle.setup_report.specs.declared.objects.Object.{Object}
use Rattle.setup_report.specs.Naming.{Texts, plain}
use Rattle.setup_report.specs.Text.{cap_text, threads_text, answered_text, reply_text, begins_as, expectation_text, state_text, inbox_text}

-- a text and a line feed
abbrev pub terminated : List ℕ → List ℕ
terminated text = text ++ codes "\n"

-- ---- calls: a line for each, with its number

-- a call with its reply, and whether that is what was expected
abbrev pub call_text : Texts → ℕ → Call → Reply → Option (List ℕ) → List ℕ
call_text texts number call reply expected =
    decimal number ++ (codes " " ++ (answered_text texts call reply ++ expectation_text expected (reply_text reply)))

-- a line for each call with its reply
abbrev pub call_lines : Texts → ℕ → List CallView → List Reply → List ℕ
call_lines texts number [] replies = []
call_lines texts number (call ∷ calls) [] = []
call_lines texts number (call ∷ calls) (reply ∷ replies) =
    terminated (call_text texts number call.call reply call.expect) ++ call_lines texts (number + 1) calls replies

-- ---- expectations: how many calls have one, and how many replies meet theirs

abbrev pub is_met : Option (List ℕ) → List ℕ → Bool
is_met None text = false
is_met (Some expected) text = begins_as text expected

-- 1 if a reply is what was expected, else 0
abbrev pub one_met : Option (List ℕ) → List ℕ → ℕ
one_met expected text = if is_met expected text then 1 else 0

-- 1 if a call expects something, else 0
abbrev pub one_expected : Option (List ℕ) → ℕ
one_expected expected = if is_some expected then 1 else 0

-- how many expectations are met
abbrev pub met_count : List CallView → List Reply → ℕ
met_count [] replies = 0
met_count (call ∷ calls) [] = 0
met_count (call ∷ calls) (reply ∷ replies) = one_met call.expect (reply_text reply) + met_count calls replies

-- how many calls expect something
abbrev pub expectation_count : List CallView → List Reply → ℕ
expectation_count [] replies = 0
expectation_count (call ∷ calls) [] = 0
expectation_count (call ∷ calls) (reply ∷ replies) = one_expected call.expect + expectation_count calls replies

-- how many expectations are met, of how many
abbrev pub count_line : ℕ → ℕ → List ℕ
count_line met expected = terminated (codes "expected " ++ (decimal met ++ (codes " of " ++ decimal expected)))

-- the report's last line: how many expectations are met, of how many
abbrev pub expectation_line : List CallView → List Reply → List ℕ
expectation_line calls replies = count_line (met_count calls replies) (expectation_count calls replies)

-- ---- slots: a line for each full slot, by rising address

-- the line of a full slot: its capability, and whether it has children
abbrev pub slot_text : Texts → ℕ → Cap → Bool → List ℕ
slot_text texts address cap has_children =
    codes "slot " ++ (texts.slot address ++ (codes " " ++ (cap_text texts cap ++ (if has_children then codes " children" else []))))

abbrev pub slot_line : Texts → Shown → Derived → List ℕ
slot_line texts v d = terminated (slot_text texts (slot_of d) d.0.cap (has_child (slot_of d) v.derivations))

abbrev pub slot_lines : Texts → Shown → List ℕ
slot_lines texts v = flat_map (slot_line texts v) (slot_rows v)

-- ---- threads: a line for each live thread, by rising address

-- the line of a thread: what it does, and what was delivered to it last
abbrev pub thread_text : Texts → ℕ → ThreadState → Option Inbox → List ℕ
thread_text texts address state inbox =
    codes "thread " ++ (texts.object (Object.Thread address) ++ (codes " " ++ (state_text texts state ++ inbox_text inbox)))

abbrev pub thread_line_with : Texts → ℕ → Option ThreadState → Option Inbox → List ℕ
thread_line_with texts address None inbox = []
thread_line_with texts address (Some state) inbox = terminated (thread_text texts address state inbox)

-- of each live thread a state is shown
abbrev pub thread_line : Texts → Shown → ℕ → List ℕ
thread_line texts v address = thread_line_with texts address (state_at v address) (inbox_at v address)

abbrev pub thread_lines : Texts → ProfileName → Shown → List ℕ
thread_lines texts p v = flat_map (thread_line texts v) (threads p v)

-- ---- endpoints: a line for each live endpoint, by rising address

-- the threads that wait on an endpoint, and whether they send
abbrev pub waiting_text : Texts → Bool → List ℕ → List ℕ
waiting_text texts sending [] = codes " idle"
waiting_text texts sending (thread ∷ threads) =
    (if sending then codes " sending" else codes " receiving") ++ threads_text texts (thread ∷ threads)

-- the line of an endpoint: who waits on it
abbrev pub endpoint_text : Texts → ℕ → Bool → List ℕ → List ℕ
endpoint_text texts address sending threads = codes "endpoint " ++ (texts.object (Object.Endpoint address) ++ waiting_text texts sending threads)

-- the threads that wait on an endpoint, the first to be served first
abbrev pub threads_at : Shown → ℕ → List ℕ
threads_at v endpoint = map thread_of (waiting_at v endpoint)

-- whether those in a waiting list send: all do what the first does
abbrev pub first_sends : List Waiter → Bool
first_sends [] = false
first_sends (first ∷ list) = is_sender first

abbrev pub endpoint_line : Texts → Shown → ℕ → List ℕ
endpoint_line texts v address = terminated (endpoint_text texts address (first_sends (waiting_at v address)) (threads_at v address))

abbrev pub endpoint_lines : Texts → ProfileName → Shown → List ℕ
endpoint_lines texts p v = flat_map (endpoint_line texts v) (endpoints p v)

-- ---- selfheld CNodes, those that slots of their own name and no other slots: a line for each, by rising address

abbrev pub selfheld_line : Texts → ℕ → List ℕ
selfheld_line texts address = terminated (codes "selfheld " ++ texts.object (Object.CNode address))

abbrev pub selfheld_lines : Texts → ProfileName → Shown → List ℕ
selfheld_lines texts p v = flat_map (selfheld_line texts) (selfheld p v)

-- ---- what a kernel shows of its memory

-- the report's lines of a state: threads, endpoints, full slots, selfheld CNodes
abbrev pub state_lines : Texts → ProfileName → Shown → List ℕ
state_lines texts p v = thread_lines texts p v ++ (endpoint_lines texts p v ++ (slot_lines texts v ++ selfheld_lines texts p v))

-- ---- the report of a run: of the calls of a set-up with their replies, and of what the kernel then shows

-- the report's text: calls, then live threads, live endpoints, full slots and selfheld CNodes by rising address, then
-- the expectations
unfoldable pub report_told : Texts → ProfileName → List CallView → List Reply → Shown → List ℕ
report_told texts p calls replies v = call_lines texts 1 calls replies ++ (state_lines texts p v ++ expectation_line calls replies)

-- the report by addresses
abbrev pub report_of : ProfileName → List CallView → List Reply → Shown → List ℕ
report_of p calls replies v = report_told plain p calls replies v
