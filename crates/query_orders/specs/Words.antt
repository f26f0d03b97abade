-- What a kernel shows, as words: each part tells where it ends.
use Rattle.std.specs.Prelude.{ℕ, Bool, true, false, List, [], ◌∷◌, ◌++◌, length, Option, Some, None}
use Rattle.cap_core.specs.declared.capability.Cap.{Cap}
use Rattle.cap_core.specs.declared.capability.Cap.TheVariants.{Null, Untyped, Endpoint, CNode, Tcb}
use Rattle.cap_core.specs.declared.message.Message.{Message}
use Rattle.kernel_forest.specs.Entries.{Entry, derivations_of}
use Rattle.ipc_core.specs.declared.waiter.Waiter.{Waiter}
use Rattle.ipc_core.specs.declared.waiter.Waiter.TheVariants.{Sender, Receiver}
use Rattle.kernel_abstract.specs.declared.call.ThreadState.{ThreadState}
use Rattle.kernel_abstract.specs.declared.call.ThreadState.TheVariants.{Ready, Inactive, Sending, Receiving}
use Rattle.kernel_abstract.specs.declared.call.Inbox.{Inbox}
use Rattle.kernel_abstract.specs.Shown.{Shown, state_at, inbox_at, waiting_at}

-- a list: 1 before each element, 0 at the end
abbrev pub listed : {X : Type 0} → (X → List ℕ) → List X → List ℕ
listed c [] = 0 ∷ []
listed c (x ∷ xs) = 1 ∷ (c x ++ listed c xs)

abbrev pub bit : Bool → ℕ
bit true = 1
bit false = 0

-- a parent's slot, where there is one
abbrev pub parent_words : Option ℕ → List ℕ
parent_words None = 0 ∷ 0 ∷ []
parent_words (Some slot) = 1 ∷ slot ∷ []

-- its kind, and four words
abbrev pub cap_words : Cap → List ℕ
cap_words Null = 0 ∷ 0 ∷ 0 ∷ 0 ∷ 0 ∷ []
cap_words (Untyped base bits free) = 1 ∷ base ∷ bits ∷ free ∷ 0 ∷ []
cap_words (Endpoint base badge rights) = 2 ∷ base ∷ badge.0 ∷ rights.0 ∷ 0 ∷ []
cap_words (CNode base radix guard) = 3 ∷ base ∷ radix ∷ guard.value ∷ guard.size ∷ []
cap_words (Tcb base) = 4 ∷ base ∷ 0 ∷ 0 ∷ 0 ∷ []

abbrev pub message_words : Message → List ℕ
message_words m = m.label ∷ m.count ∷ length m.words ∷ m.words

abbrev pub thread_state_words : Option ThreadState → List ℕ
thread_state_words None = 0 ∷ 0 ∷ []
thread_state_words (Some Ready) = 1 ∷ 0 ∷ []
thread_state_words (Some Inactive) = 2 ∷ 0 ∷ []
thread_state_words (Some (Sending e)) = 3 ∷ e ∷ []
thread_state_words (Some (Receiving e)) = 4 ∷ e ∷ []

abbrev pub inbox_words : Option Inbox → List ℕ
inbox_words None = 0 ∷ []
inbox_words (Some inbox) = 1 ∷ inbox.badge.0 ∷ message_words inbox.message

abbrev pub waiter_words : Waiter → List ℕ
waiter_words (Receiver thread) = 0 ∷ thread ∷ []
waiter_words (Sender thread badge message) = 1 ∷ thread ∷ badge.0 ∷ message_words message

-- what the object does that a capability names: of a thread its state and what was delivered to it, of an endpoint who waits
abbrev pub object_words : Shown → Cap → List ℕ
object_words v Null = []
object_words v (Untyped base bits free) = []
object_words v (Endpoint base badge rights) = listed waiter_words (waiting_at v base)
object_words v (CNode base radix guard) = []
object_words v (Tcb base) = thread_state_words (state_at v base) ++ inbox_words (inbox_at v base)

-- a full slot, with the slot that it is derived from, and the object that its capability names
abbrev pub slot_words : Shown → Entry × Option ℕ → List ℕ
slot_words v e = e.0.slot ∷ bit e.0.original ∷ (parent_words e.1 ++ (cap_words e.0.cap ++ object_words v e.0.cap))

-- the full slots, each before those that are derived from it
abbrev pub shown_words : Shown → List ℕ
shown_words v = listed (slot_words v) (derivations_of v.derivations)
