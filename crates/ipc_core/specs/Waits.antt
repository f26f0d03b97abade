-- Who waits where, and how a send and a receive change it.
use Rattle.std.specs.Prelude.{◌≡◌, ℕ, Bool, cond, ◌==◌, ◌+◌, ◌%◌, ◌^◌, ◌<◌, List, [], ◌∷◌, ◌++◌, drop, slice_get, Option, Some, None, option_map}
use Rattle.cap_core.specs.declared.profile.ProfileName.{ProfileName}
use Rattle.cap_core.specs.declared.message.Message.{Message}
use Rattle.cap_core.specs.declared.capability.Badge.{Badge}
use Rattle.cap_core.specs.Numbers.{tcb_size, endpoint_size}
use Rattle.ipc_core.specs.declared.waiter.Waiter.{Waiter}
use Rattle.ipc_core.specs.declared.waiter.Waiter.TheVariants.{Sender, Receiver}
pub use Rattle.ipc_core.specs.declared.waiter.Offer.{Offer}
use Rattle.ipc_core.specs.declared.waiter.Role.{Role}
use Rattle.ipc_core.specs.declared.waiter.Role.TheVariants.{Sending, Receiving}
use Rattle.ipc_core.specs.declared.waiter.Sent.{Sent}
use Rattle.ipc_core.specs.declared.waiter.Sent.TheVariants as S
use Rattle.ipc_core.specs.declared.waiter.Received.{Received}
use Rattle.ipc_core.specs.declared.waiter.Received.TheVariants as R

-- the waiting list of each endpoint, the first to be served first, and how each thread waits
pub record Waits : Type 0 where
  pub queue : ℕ → List Waiter
  pub role : ℕ → Option Role

-- nobody waits
abbrev pub no_waits : Waits
no_waits = record { queue = λ e. []; role = λ t. None }

-- an address at which an endpoint, or a thread control block, can be
pub record IsEndpointAddress (p : ProfileName) (memory address : ℕ) : Type 0 where
  pub aligned : address % endpoint_size p ≡ 0
  pub within : address < 2 ^ memory

-- an address at which a thread control block can be: a multiple of its size, within the memory
pub record IsThreadAddress (p : ProfileName) (memory address : ℕ) : Type 0 where
  pub aligned : address % tcb_size p ≡ 0
  pub within : address < 2 ^ memory

-- f, but x at k
abbrev pub changed : {X : Type 0} → (ℕ → X) → ℕ → X → ℕ → X
changed f k x j = cond (j == k) x (f j)

-- the receiver that is first in a waiting list, or the sender
abbrev pub first_receiver : List Waiter → Option ℕ
first_receiver [] = None
first_receiver (Sender thread badge message ∷ list) = None
first_receiver (Receiver thread ∷ list) = Some thread

abbrev pub first_sender : List Waiter → Option Offer
first_sender [] = None
first_sender (Sender thread badge message ∷ list) = Some (record { thread = thread; badge = badge; message = message })
first_sender (Receiver thread ∷ list) = None

-- one more waits on an endpoint, after all others
abbrev pub queued : ℕ → ℕ → Role → Waiter → Waits → Waits
queued e thread role waiter w =
    record { queue = changed w.queue e (w.queue e ++ waiter ∷ []); role = changed w.role thread (Some role) }

-- the first that waits on an endpoint, a thread, waits no more
abbrev pub served : ℕ → ℕ → Waits → Waits
served e thread w =
    record { queue = changed w.queue e (drop 1 (w.queue e)); role = changed w.role thread None }

-- a send if this receiver is the first, or none
abbrev pub sent_to : Option ℕ → Bool → Sent
sent_to (Some to) block = S.Delivered to
sent_to None block = cond block S.Waiting S.Dropped

abbrev pub waits_sent_to : Option ℕ → Bool → ℕ → ℕ → Waiter → Waits → Waits
waits_sent_to (Some to) block e thread waiter w = served e to w
waits_sent_to None block e thread waiter w = cond block (queued e thread (Sending e) waiter w) w

-- what a send answers, and who waits after it
abbrev pub sent : Bool → ℕ → Waits → Sent
sent block e w = sent_to (first_receiver (w.queue e)) block

-- who waits after a send: the first receiver waits no more; if none waits, the sender waits, if it blocks
abbrev pub after_send : Bool → ℕ → ℕ → Badge → Message → Waits → Waits
after_send block e thread badge message w =
    waits_sent_to (first_receiver (w.queue e)) block e thread (Sender thread badge message) w

-- a receive if this sender is the first, or none
abbrev pub received_from : Option Offer → Bool → Received
received_from (Some offer) block = R.Delivered offer.thread offer.badge offer.message
received_from None block = cond block R.Waiting R.Empty

abbrev pub waits_received_from : Option Offer → Bool → ℕ → ℕ → Waits → Waits
waits_received_from (Some offer) block e thread w = served e offer.thread w
waits_received_from None block e thread w = cond block (queued e thread (Receiving e) (Receiver thread) w) w

-- what a receive answers, and who waits after it
abbrev pub received : Bool → ℕ → Waits → Received
received block e w = received_from (first_sender (w.queue e)) block

-- who waits after a receive: the first sender waits no more; if none waits, the receiver waits, if it blocks
abbrev pub after_receive : Bool → ℕ → ℕ → Waits → Waits
after_receive block e thread w = waits_received_from (first_sender (w.queue e)) block e thread w

-- the thread that waits
abbrev pub thread_of : Waiter → ℕ
thread_of (Sender thread badge message) = thread
thread_of (Receiver thread) = thread

-- how it waits, on this endpoint
abbrev pub role_at : ℕ → Waiter → Role
role_at e (Sender thread badge message) = Sending e
role_at e (Receiver thread) = Receiving e

-- the endpoint on which it waits
abbrev pub endpoint_of : Role → ℕ
endpoint_of (Sending e) = e
endpoint_of (Receiving e) = e

-- the thread that waits at a place of an endpoint's waiting list, 0 the first
abbrev pub thread_waiting : Waits → ℕ → ℕ → Option ℕ
thread_waiting w e place = option_map thread_of (slice_get (w.queue e) place)

-- if a thread waits, this is the one that waits next after it, if any does
abbrev pub IsNextBehind : Waits → ℕ → Option ℕ → Type 0
IsNextBehind w thread next =
    (e place : ℕ) → thread_waiting w e place ≡ Some thread → next ≡ thread_waiting w e (place + 1)
