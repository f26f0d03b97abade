-- All that wait on one endpoint send, or all receive: so it stays, whatever is called.
use Rattle.std.proofs.Common.{◌≡◌, ℕ, Bool, true, false, not, cond, ◌==◌, List, [], ◌∷◌, ◌++◌, drop, filter, Option, None, Some, refl, sym, subst}
use Rattle.std.specs.List.{AllByRecursion as Each}
use Rattle.cap_core.specs.declared.capability.Badge.{Badge}
use Rattle.cap_core.specs.declared.message.Message.{Message}
use Rattle.ipc_core.specs.declared.waiter.Waiter.{Waiter}
use Rattle.ipc_core.specs.declared.waiter.Waiter.TheVariants.{Sender, Receiver}
use Rattle.ipc_core.specs.declared.waiter.Offer.{Offer}
use Rattle.ipc_core.specs.declared.waiter.Role.TheVariants.{Sending, Receiving}
use Rattle.ipc_core.specs.Waits.{Waits, no_waits, changed, queued, first_receiver, first_sender, waits_sent_to, waits_received_from, after_send, after_receive}
use Rattle.ipc_core.specs.Cancelled.{is_thread, is_sender_with, others, after_cancel_thread, after_cancel_badge, after_cancel_endpoint}
use Rattle.ipc_core.specs.Agreement.{is_sender, DoTheSame, AreAlike}

-- each of a list sends, or each does not
all_of : (l : List Waiter) → DoTheSame l → (b : Bool) × Each (λ x. is_sender x ≡ b) l
all_of [] h = (true, tt)
all_of (x ∷ l) h = (is_sender x, (refl, h))

same_of : (b : Bool) (l : List Waiter) → Each (λ x. is_sender x ≡ b) l → DoTheSame l
same_of b [] h = tt
same_of b (x ∷ l) h = subst (λ c. Each (λ y. is_sender y ≡ c) l) (sym h.0) h.1

each_filtered : (b : Bool) (keeps : Waiter → Bool) (l : List Waiter) → Each (λ x. is_sender x ≡ b) l → Each (λ x. is_sender x ≡ b) (filter keeps l)
each_filtered b keeps [] h = tt
each_filtered b keeps (x ∷ l) h = elim (keeps x) as (λ c. Each (λ y. is_sender y ≡ b) (cond c (x ∷ filter keeps l) (filter keeps l))) [
  | true ↦ (h.0, each_filtered b keeps l h.1)
  | false ↦ each_filtered b keeps l h.1
]

filtered : (keeps : Waiter → Bool) (l : List Waiter) → DoTheSame l → DoTheSame (filter keeps l)
filtered keeps l h = let all = all_of l h in same_of all.0 (filter keeps l) (each_filtered all.0 keeps l all.1)

dropped : (l : List Waiter) → DoTheSame l → DoTheSame (drop 1 l)
dropped [] h = tt
dropped (x ∷ l) h = same_of (is_sender x) l h

each_pushed : (b : Bool) (l : List Waiter) (x : Waiter) → Each (λ y. is_sender y ≡ b) l → is_sender x ≡ b → Each (λ y. is_sender y ≡ b) (l ++ x ∷ [])
each_pushed b [] x h is = (is, tt)
each_pushed b (y ∷ l) x h is = (h.0, each_pushed b l x h.1 is)

pushed : (b : Bool) (l : List Waiter) (x : Waiter) → Each (λ y. is_sender y ≡ b) l → is_sender x ≡ b → DoTheSame (l ++ x ∷ [])
pushed b l x h is = same_of b (l ++ x ∷ []) (each_pushed b l x h is)

-- where the first is no receiver all send, and where it is no sender all receive
all_send : (l : List Waiter) → first_receiver l ≡ None → DoTheSame l → Each (λ x. is_sender x ≡ true) l
all_send [] first h = tt
all_send (Sender thread badge message ∷ l) first h = (refl, h)
all_send (Receiver thread ∷ l) first h = absurd (let none : Some thread ≡ None = first in cc)

all_receive : (l : List Waiter) → first_sender l ≡ None → DoTheSame l → Each (λ x. is_sender x ≡ false) l
all_receive [] first h = tt
all_receive (Sender thread badge message ∷ l) first h = absurd (let none : Some (offer thread badge message) ≡ None = first in cc)
  where
    offer : ℕ → Badge → Message → Offer
    offer t b m = record { thread = t; badge = b; message = m }
all_receive (Receiver thread ∷ l) first h = (refl, h)

module _ (w : Waits) (h : AreAlike w) where
  at : (e : ℕ) (l : List Waiter) → DoTheSame l → (q : ℕ) → DoTheSame (changed w.queue e l q)
  at e l is q = elim (q == e) as (λ b. DoTheSame (cond b l (w.queue q))) [
    | true ↦ is
    | false ↦ h.queue q
  ]

  pub alike_send : (block : Bool) (e thread : ℕ) (badge : Badge) (message : Message) → AreAlike (after_send block e thread badge message w)
  alike_send block e thread badge message = by (first_receiver (w.queue e)) refl
    where
      sender : Waiter
      sender = Sender thread badge message

      by : (o : Option ℕ) → first_receiver (w.queue e) ≡ o → AreAlike (waits_sent_to o block e thread sender w)
      by (Some to) first = record { queue = at e (drop 1 (w.queue e)) (dropped (w.queue e) (h.queue e)) }
      by None first = elim block as (λ b. AreAlike (cond b (queued e thread (Sending e) sender w) w)) [
        | true ↦ record { queue = at e (w.queue e ++ sender ∷ []) (pushed true (w.queue e) sender (all_send (w.queue e) first (h.queue e)) refl) }
        | false ↦ h
      ]

  pub alike_receive : (block : Bool) (e thread : ℕ) → AreAlike (after_receive block e thread w)
  alike_receive block e thread = by (first_sender (w.queue e)) refl
    where
      by : (o : Option Offer) → first_sender (w.queue e) ≡ o → AreAlike (waits_received_from o block e thread w)
      by (Some offer) first = record { queue = at e (drop 1 (w.queue e)) (dropped (w.queue e) (h.queue e)) }
      by None first = elim block as (λ b. AreAlike (cond b (queued e thread (Receiving e) (Receiver thread) w) w)) [
        | true ↦ record { queue = at e (w.queue e ++ Receiver thread ∷ []) (pushed false (w.queue e) (Receiver thread) (all_receive (w.queue e) first (h.queue e)) refl) }
        | false ↦ h
      ]

  pub alike_cancel_thread : (thread : ℕ) → AreAlike (after_cancel_thread thread w)
  alike_cancel_thread thread = record { queue = λ e. filtered (λ x. not (is_thread thread x)) (w.queue e) (h.queue e) }

  pub alike_cancel_badge : (e : ℕ) (badge : Badge) → AreAlike (after_cancel_badge e badge w)
  alike_cancel_badge e badge = record { queue = at e (others (is_sender_with badge) (w.queue e)) (filtered (λ x. not (is_sender_with badge x)) (w.queue e) (h.queue e)) }

  pub alike_cancel_endpoint : (e : ℕ) → AreAlike (after_cancel_endpoint e w)
  alike_cancel_endpoint e = record { queue = at e [] tt }

pub alike_nobody : AreAlike no_waits
alike_nobody = record { queue = λ e. tt }
