-- What the row of a thread says that it sends is what it sends in the queue of its endpoint.
use Rattle.std.proofs.Common.{◌≡◌, ℕ, ◌==◌, ◌||◌, true, cond, List, [], ◌∷◌, map, Option, None, Some, refl, sym, ap, ◌∙◌, inl, inr}
use Rattle.std.specs.Option.{option_or}
use Rattle.std.proofs.lemmas.Bool.Decides.{eqb_tells}
use Rattle.cap_core.specs.declared.profile.ProfileName.{ProfileName}
use Rattle.ipc_core.specs.declared.waiter.Offer.{Offer}
use Rattle.ipc_core.specs.declared.waiter.Role.{Role}
use Rattle.ipc_core.specs.declared.waiter.Role.TheVariants.{Sending, Receiving}
use Rattle.ipc_core.specs.declared.tables.QueueRow.{QueueRow}
use Rattle.ipc_core.specs.declared.tables.Tables.{Tables}
use Rattle.ipc_core.specs.Offers as waits
use Rattle.ipc_core.specs.Representation.Chains.{has}
use Rattle.ipc_core.specs.Representation.Linked.{Links, links_of, waiter_in, waiter_of, waits_in, orders_in, IsLinked, offer_by, offer_in}
use Rattle.ipc_core.proofs.QueueForm.Queues.{thread_of_waiter}

-- a thread that is in a queue and sends sends in that queue
sender_found : (l : Links) (t : ℕ) (o : Offer) → waits.offer_by (waiter_of (l.thread t) t) ≡ Some o → (list : List ℕ) → has t list ≡ true →
    waits.offer_in t (map (λ j. waiter_of (l.thread j) j) list) ≡ Some o
sender_found l t o sends [] there = cc
sender_found l t o sends (j ∷ list) there = elim (eqb_tells j t) [
  | inl w ↦
      ap (λ k. option_or (cond (k == t) (waits.offer_by (waiter_of (l.thread j) j)) None) rest) (thread_of_waiter (l.thread j) j)
      ∙ ap (λ b. option_or (cond b (waits.offer_by (waiter_of (l.thread j) j)) None) rest) w.0
      ∙ ap (λ y. option_or y rest) (ap (λ k. waits.offer_by (waiter_of (l.thread k) k)) w.1 ∙ sends)
  | inr w ↦
      ap (λ k. option_or (cond (k == t) (waits.offer_by (waiter_of (l.thread j) j)) None) rest) (thread_of_waiter (l.thread j) j)
      ∙ ap (λ b. option_or (cond b (waits.offer_by (waiter_of (l.thread j) j)) None) rest) w.0
      ∙ sender_found l t o sends list (sym (ap (λ b. b || has t list) w.0) ∙ there)
]
  where
    rest : Option Offer
    rest = waits.offer_in t (map (λ j. waiter_of (l.thread j) j) list)

pub queue_offer : (p : ProfileName) (tables : Tables) → IsLinked p tables → (t : ℕ) →
    offer_in t ((links_of p tables).thread t) ≡ waits.offer_of (waits_in p tables) t
queue_offer p tables linked t = by row.role refl
  where
    row : QueueRow
    row = (links_of p tables).thread t

    by : (r : Option Role) → row.role ≡ r → offer_by t row.badge row.message r ≡ waits.offer_as r t (waits_in p tables)
    by None is = refl
    by (Some (Receiving e)) is = refl
    by (Some (Sending e)) is =
        sym (sender_found (links_of p tables) t _ (ap (λ r. waits.offer_by (waiter_in t row.badge row.message r)) is) (orders_in p tables e) (linked.found t (Sending e) is))
