-- The text of each part of a report: objects, slots and threads as `texts` writes them. Numbers are decimal.
use Rattle.std.specs.Prelude.{codes, ℕ, List, [], ◌++◌, take, Bool, ◌==◌, ◌||◌, if◌then◌else◌, bit_and, nat_eq, Option, Some, None}
use Rattle.std.specs.List.{flat_map, starts_with}
use Rattle.std.specs.Fmt.{decimal}
use lib.Pointwise.{pointwise}
use Rattle.cap_core.specs.declared.rights.Rights.{Rights}
use Rattle.cap_core.specs.declared.message.Message.{Message}
use Rattle.cap_core.specs.declared.capability.Cap.{Cap}
use Rattle.cap_core.specs.declared.capability.Cap.TheVariants.{Null, Untyped, Endpoint, CNode, Tcb}
use Rattle.cap_core.specs.declared.refusal.Refusal.{Refusal}
use Rattle.cap_core.specs.Refusals.{refusal_code, refusal_kind}
use Rattle.kernel_abstract.specs.declared.call.Call.{Call}
use Rattle.kernel_abstract.specs.declared.call.Reply.{Reply}
use Rattle.kernel_abstract.specs.declared.call.Reply.TheVariants.{Done, Delivered, Waiting, Dropped, Empty, Refused}
use Rattle.kernel_abstract.specs.declared.call.ThreadState.{ThreadState}
use Rattle.kernel_abstract.specs.declared.call.ThreadState.TheVariants.{Ready, Inactive, Sending, Receiving}
use Rattle.kernel_abstract.specs.declared.call.Inbox.{Inbox}
use Rattle.setup_values.specs.Operations.{op_text}
use Rattle.setup_format.specs.Operations.{op_name}
use Rattle.setup_report.specs.declared.objects.Object.{Object}
use Rattle.setup_report.specs.Naming.{Texts, plain}

-- ---- capabilities and messages

-- the letter of a right that is there, and '-' for one that is missing
abbrev pub right_text : Rights → ℕ → List ℕ → List ℕ
right_text rights right letter = if bit_and rights.0 right == right then letter else codes "-"

-- rights as text: a letter for each, w r g p
abbrev pub rights_text : Rights → List ℕ
rights_text rights =
    right_text rights 1 (codes "w") ++ (right_text rights 2 (codes "r") ++ (right_text rights 4 (codes "g") ++ right_text rights 8 (codes "p")))

-- each number after a space
abbrev pub numbers_text : List ℕ → List ℕ
numbers_text numbers = flat_map (λ n. codes " " ++ decimal n) numbers

-- a message as text: its label and its words
abbrev pub message_text : Message → List ℕ
message_text m = codes "label " ++ (decimal m.label ++ (codes " words" ++ numbers_text (take m.count m.words)))

-- a capability, with the text of its object
abbrev pub cap_text : Texts → Cap → List ℕ
cap_text texts Null = codes "null"
cap_text texts (Untyped base bits free) =
    codes "untyped " ++ (texts.object (Object.Region base bits) ++ (codes " bits " ++ (decimal bits ++ (codes " free " ++ decimal free))))
cap_text texts (Endpoint base badge rights) =
    codes "endpoint " ++ (texts.object (Object.Endpoint base) ++ (codes " badge " ++ (decimal badge.0 ++ (codes " rights " ++ rights_text rights))))
cap_text texts (CNode base radix guard) =
    codes "cnode " ++ (texts.object (Object.CNode base) ++ (codes " radix " ++ (decimal radix ++ (codes " guard " ++ (decimal guard.value ++ (codes " size " ++ decimal guard.size))))))
cap_text texts (Tcb base) = codes "tcb " ++ texts.object (Object.Thread base)

-- a slot, with what it holds
abbrev pub held_slot_text : Texts → ℕ → Cap → List ℕ
held_slot_text texts slot cap = texts.slot slot ++ (codes " " ++ cap_text texts cap)

-- ---- calls and replies

-- the number of a refusal, and after a stroke the number of a lookup failure's kind
abbrev pub refusal_text : Refusal → List ℕ
refusal_text r = decimal (refusal_code r) ++ (if refusal_kind r == 0 then [] else codes "/" ++ decimal (refusal_kind r))

-- a reply as text
abbrev pub reply_told : Texts → Reply → List ℕ
reply_told texts Done = codes "done"
reply_told texts Waiting = codes "waiting"
reply_told texts Dropped = codes "dropped"
reply_told texts Empty = codes "empty"
reply_told texts (Refused refusal) = codes "refused " ++ refusal_text refusal
reply_told texts (Delivered endpoint from to badge message) =
    codes "delivered " ++ (texts.object (Object.Endpoint endpoint) ++ (codes " from " ++ (texts.object (Object.Thread from) ++ (codes " to " ++ (texts.object (Object.Thread to)
    ++ (codes " badge " ++ (decimal badge.0 ++ (codes " " ++ message_text message))))))))

-- a reply as text, by addresses: what an expectation is compared with
abbrev pub reply_text : Reply → List ℕ
reply_text reply = reply_told plain reply

-- the thread that makes a call, the operation, and what it is answered
abbrev pub answered_text : Texts → Call → Reply → List ℕ
answered_text texts call reply =
    texts.object (Object.Thread call.thread) ++ (codes " " ++ (op_text (op_name call.op) ++ (codes ": " ++ reply_told texts reply)))

-- a text equals the expected one, or begins with it followed by a space
abbrev pub begins_as : List ℕ → List ℕ → Bool
begins_as text expected = pointwise nat_eq text expected || starts_with nat_eq text (expected ++ codes " ")

-- what is said of an expectation, if a call has one, by the text of the reply
abbrev pub expectation_text : Option (List ℕ) → List ℕ → List ℕ
expectation_text None text = []
expectation_text (Some expected) text =
    if begins_as text expected then codes " [met]" else codes " [not met: " ++ (expected ++ codes "]")

-- ---- threads

-- what a thread does, as text
abbrev pub state_text : Texts → ThreadState → List ℕ
state_text texts Ready = codes "ready"
state_text texts Inactive = codes "inactive"
state_text texts (Sending endpoint) = codes "sending " ++ texts.object (Object.Endpoint endpoint)
state_text texts (Receiving endpoint) = codes "receiving " ++ texts.object (Object.Endpoint endpoint)

-- a thread after a space
abbrev pub next_thread_text : Texts → ℕ → List ℕ
next_thread_text texts thread = codes " " ++ texts.object (Object.Thread thread)

-- each of some threads after a space
abbrev pub threads_text : Texts → List ℕ → List ℕ
threads_text texts threads = flat_map (next_thread_text texts) threads

-- the last message that was delivered to a thread, if there is one
abbrev pub inbox_text : Option Inbox → List ℕ
inbox_text None = []
inbox_text (Some inbox) = codes " inbox badge " ++ (decimal inbox.badge.0 ++ (codes " " ++ message_text inbox.message))
