-- The first of a waiting list, and what serving it makes of who waits.
use Rattle.std.proofs.Common.{◌≡◌, ℕ, Bool, true, false, cond, List, [], ◌∷◌, drop, Some, None, refl, sym, ap, subst, ◌∙◌}
use Rattle.cap_core.specs.declared.message.Message.{Message}
use Rattle.cap_core.specs.declared.capability.Badge.{Badge}
use Rattle.ipc_core.specs.declared.waiter.Waiter.{Waiter}
use Rattle.ipc_core.specs.declared.waiter.Waiter.TheVariants.{Sender, Receiver}
use Rattle.ipc_core.specs.declared.waiter.Role.TheVariants.{Sending, Receiving}
use Rattle.ipc_core.specs.Waits.{Waits, Offer, first_receiver, first_sender, thread_of, served, queued, after_send, after_receive, waits_sent_to, waits_received_from}

pub receiver_is_first : (list : List Waiter) (to : ℕ) → first_receiver list ≡ Some to → list ≡ Receiver to ∷ drop 1 list
receiver_is_first [] to h = cc
receiver_is_first (Sender from badge message ∷ list) to h = cc
receiver_is_first (Receiver other ∷ list) to h = let e : other ≡ to = cc in ap (λ (t : ℕ). Receiver t ∷ list) e

abbrev offered : ℕ → Badge → Message → Offer
offered thread badge message = record { thread = thread; badge = badge; message = message }

pub sender_is_first : (list : List Waiter) (offer : Offer) → first_sender list ≡ Some offer → list ≡ Sender offer.thread offer.badge offer.message ∷ drop 1 list
sender_is_first [] offer h = cc
sender_is_first (Sender from badge message ∷ list) offer h =
    let P : Offer → Type 0 = λ o. Sender from badge message ∷ list ≡ Sender o.thread o.badge o.message ∷ list in
    let e : offered from badge message ≡ offer = cc in
    subst P e refl
sender_is_first (Receiver other ∷ list) offer h = cc

-- where the first of an endpoint is served, a send that finds a receiver does what it should
pub send_serves : (block : Bool) (e thread : ℕ) (badge : Badge) (message : Message) (w after : Waits) (to : ℕ) →
    first_receiver (w.queue e) ≡ Some to → ((v : Waiter) (list : List Waiter) → w.queue e ≡ v ∷ list → after ≡ served e (thread_of v) w) →
    after ≡ after_send block e thread badge message w
send_serves block e thread badge message w after to first serves =
    serves (Receiver to) (drop 1 (w.queue e)) (receiver_is_first (w.queue e) to first)
    ∙ sym (ap (λ o. waits_sent_to o block e thread (Sender thread badge message) w) first)

-- a receive that finds a sender likewise
pub receive_serves : (block : Bool) (e thread : ℕ) (w after : Waits) (offer : Offer) →
    first_sender (w.queue e) ≡ Some offer → ((v : Waiter) (list : List Waiter) → w.queue e ≡ v ∷ list → after ≡ served e (thread_of v) w) →
    after ≡ after_receive block e thread w
receive_serves block e thread w after offer first serves =
    serves (Sender offer.thread offer.badge offer.message) (drop 1 (w.queue e)) (sender_is_first (w.queue e) offer first)
    ∙ sym (ap (λ o. waits_received_from o block e thread w) first)

-- where the first is no receiver, a send waits or leaves no trace
pub send_queues : (block : Bool) (e thread : ℕ) (badge : Badge) (message : Message) (w after : Waits) →
    first_receiver (w.queue e) ≡ None → block ≡ true → after ≡ queued e thread (Sending e) (Sender thread badge message) w →
    after ≡ after_send block e thread badge message w
send_queues block e thread badge message w after first blocks is =
    is
    ∙ sym (ap (λ o. waits_sent_to o block e thread (Sender thread badge message) w) first ∙ ap (λ b. cond b (queued e thread (Sending e) (Sender thread badge message) w) w) blocks)

pub send_leaves : (block : Bool) (e thread : ℕ) (badge : Badge) (message : Message) (w : Waits) →
    first_receiver (w.queue e) ≡ None → block ≡ false → w ≡ after_send block e thread badge message w
send_leaves block e thread badge message w first leaves =
    sym (ap (λ o. waits_sent_to o block e thread (Sender thread badge message) w) first ∙ ap (λ b. cond b (queued e thread (Sending e) (Sender thread badge message) w) w) leaves)

-- where the first is no sender, a receive waits or leaves no trace
pub receive_queues : (block : Bool) (e thread : ℕ) (w after : Waits) →
    first_sender (w.queue e) ≡ None → block ≡ true → after ≡ queued e thread (Receiving e) (Receiver thread) w →
    after ≡ after_receive block e thread w
receive_queues block e thread w after first blocks is =
    is ∙ sym (ap (λ o. waits_received_from o block e thread w) first ∙ ap (λ b. cond b (queued e thread (Receiving e) (Receiver thread) w) w) blocks)

pub receive_leaves : (block : Bool) (e thread : ℕ) (w : Waits) →
    first_sender (w.queue e) ≡ None → block ≡ false → w ≡ after_receive block e thread w
receive_leaves block e thread w first leaves =
    sym (ap (λ o. waits_received_from o block e thread w) first ∙ ap (λ b. cond b (queued e thread (Receiving e) (Receiver thread) w) w) leaves)
