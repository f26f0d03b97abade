-- What calls show: that a message passes from one thread to another, that the one holds the other, or takes something from it.
use Rattle.std.specs.Prelude.{◌≡◌, ℕ, ◌≤◌, ◌==◌, ◌&&◌, ◌⊎◌, Bool, true, false, not, List, [], ◌∷◌, ◌++◌, take, length, slice_get, ◌-◌, Option, Some, None, is_some}
use Rattle.std.specs.List.{list_all}
use Rattle.cap_core.specs.declared.profile.ProfileName.{ProfileName}
use Rattle.cap_core.specs.declared.capability.Cap.TheVariants.{Null, Tcb}
use Rattle.kernel_forest.specs.Forest.{Forest}
use Rattle.kernel_forest.specs.Entries.{Entry, cap_at}
use Rattle.kernel_abstract.specs.declared.call.Call.{Call}
use Rattle.kernel_abstract.specs.declared.call.Op.{Op}
use Rattle.kernel_abstract.specs.declared.call.Op.TheVariants.{Suspend, Resume}
use Rattle.kernel_abstract.specs.declared.call.Reply.{Reply}
use Rattle.kernel_abstract.specs.declared.call.Reply.TheVariants.{Delivered}
use Rattle.kernel_abstract.specs.Shown.{Shown, state_at}
use Rattle.kernel_abstract.specs.State.{State, shown}
use Rattle.kernel_abstract.specs.Step.{step, replies_of, state_after}
use Rattle.query_parts.specs.declared.listed.PartMemory.{PartMemory}
use Rattle.query_parts.specs.Listed.{part_at}
use Rattle.query_reach.specs.Reaching.{Reaches}
use Rattle.setup_report.specs.State.{is_in}
use Rattle.command_how_witness.specs.declared.asked.Happening.{Happening}
use Rattle.command_how_witness.specs.declared.asked.Happening.TheVariants.{Message, Hold, Loss}
use Rattle.command_how_witness.specs.declared.asked.Asked.{Asked}

-- what is asked of two threads: but by which endpoints, with which badge, of which parts' memory, and who is trusted
pub record Asking : Type 0 where
  pub what : Happening
  pub from : ℕ
  pub to : ℕ
  pub by : List ℕ
  pub badge : Option ℕ
  pub memory : List PartMemory
  pub without : List ℕ

-- a question, with its lists
abbrev pub asking_of : Asked → Asking
asking_of q = record {
  what = q.what;
  from = q.from;
  to = q.to;
  by = q.by.now;
  badge = q.badge;
  memory = q.memory.now;
  without = q.without.now;
}

-- a thread lies in a part, and is not trusted to make no more calls
abbrev pub may_thread_call : List PartMemory → List ℕ → ℕ → Bool
may_thread_call memory without thread = is_some (part_at memory thread) && not (is_in thread without)

abbrev pub is_caller : Asking → Call → Bool
is_caller q call = may_thread_call q.memory q.without call.thread

-- both threads are live
abbrev pub are_both_live : Asking → Shown → Bool
are_both_live q v = is_some (state_at v q.from) && is_some (state_at v q.to)

-- both are live after each of the calls
abbrev pub StayLive : ProfileName → Asking → State → List Call → Type 0
StayLive p q A calls = (n : ℕ) → n ≤ length calls → are_both_live q (shown (state_after p A (take n calls))) ≡ true

abbrev pub is_badge : Option ℕ → ℕ → Bool
is_badge None badge = true
is_badge (Some wanted) badge = badge == wanted

-- a reply shows a message from the one thread to the other, but by the endpoints that are named, with the badge
abbrev pub is_message : Asking → Reply → Bool
is_message q (Delivered endpoint from to badge message) =
    (from == q.from) && ((to == q.to) && (not (is_in endpoint q.by) && is_badge q.badge badge.0))
is_message q _ = false

abbrev pub is_message_last : Asking → Option Reply → Bool
is_message_last q None = false
is_message_last q (Some reply) = is_message q reply

abbrev pub ends_in_message : Asking → List Reply → Bool
ends_in_message q replies = is_message_last q (slice_get replies (length replies - 1))

-- calls of threads that may call, of which the last is answered by such a message
pub record ShowsMessage (p : ProfileName) (q : Asking) (A : State) (calls : List Call) : Type 0 where
  pub callers : list_all (is_caller q) calls ≡ true
  pub live : StayLive p q A calls
  pub happens : ends_in_message q (replies_of p A calls) ≡ true

-- the word of the thread that an operation stops or starts
abbrev pub held_word : Op → Option ℕ
held_word (Suspend cap) = Some cap
held_word (Resume cap) = Some cap
held_word op = None

-- a word of the one thread leads to the other's control block
pub record Holds (p : ProfileName) (q : Asking) (f : Forest Entry) (word : ℕ) : Type 0 where
  pub slot : ℕ
  pub reaches : Reaches p f q.from word slot
  pub cap : cap_at f slot ≡ Tcb q.to

-- calls of threads that may call, then one of the first thread's, which stops or starts the other by a word for it, and one of
-- the other's
pub record ShowsHold (p : ProfileName) (q : Asking) (A : State) (calls : List Call) : Type 0 where
  pub front : List Call
  pub call : Call
  pub again : Call
  pub is : calls ≡ front ++ call ∷ again ∷ []
  pub callers : list_all (is_caller q) front ≡ true
  pub caller : is_caller q call ≡ true
  pub thread : call.thread ≡ q.from
  pub other : again.thread ≡ q.to
  pub live : StayLive p q A front
  pub word : ℕ
  pub word_is : held_word call.op ≡ Some word
  pub holds : Holds p q (state_after p A front).derivations word

-- a full slot that a word of the other thread leads to, or its root slot, becomes empty
pub record Takes (p : ProfileName) (q : Asking) (before after : Forest Entry) : Type 0 where
  pub slot : ℕ
  pub named : (slot ≡ q.to) ⊎ ((word : ℕ) × Reaches p before q.to word slot)
  pub full : cap_at before slot ≡ Null → ⊥
  pub empty : cap_at after slot ≡ Null

-- calls of threads that may call, the last of them perhaps the other thread's; then one of the first thread's, which takes
-- something of the other's; and one of the other's
pub record ShowsLoss (p : ProfileName) (q : Asking) (A : State) (calls : List Call) : Type 0 where
  pub front : List Call
  pub shows : Call
  pub call : Call
  pub again : Call
  pub is : calls ≡ (front ++ shows ∷ []) ++ call ∷ again ∷ []
  pub callers : list_all (is_caller q) front ≡ true
  pub shower : shows.thread ≡ q.to
  pub caller : is_caller q call ≡ true
  pub thread : call.thread ≡ q.from
  pub other : again.thread ≡ q.to
  pub live : StayLive p q A (front ++ shows ∷ [])
  pub takes : Takes p q (state_after p A (front ++ shows ∷ [])).derivations (step p (state_after p A (front ++ shows ∷ [])) call).state.derivations

-- the calls show that it happens
abbrev pub ShowsIt : ProfileName → Asking → State → List Call → Happening → Type 0
ShowsIt p q A calls Message = ShowsMessage p q A calls
ShowsIt p q A calls Hold = ShowsHold p q A calls
ShowsIt p q A calls Loss = ShowsLoss p q A calls

-- the calls show what is asked
abbrev pub IsShown : ProfileName → Asking → State → List Call → Type 0
IsShown p q A calls = ShowsIt p q A calls q.what
