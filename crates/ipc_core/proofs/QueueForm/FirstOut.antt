-- Taking out the first of a queue serves it, and tables of free rows stand for nobody.
use Rattle.std.proofs.Common.{◌≡◌, ℕ, ◌%◌, ◌/◌, ◌==◌, Bool, true, false, cond, not, zero, suc, List, [], ◌∷◌, map, drop, length, get_or, Some, None, slice_get, inl, inr, refl, sym, ap, subst, ◌∙◌, eq-eqb, replicate}
use Rattle.std.proofs.lemmas.Bool.Decides.{eqb_tells}
use Rattle.cap_core.specs.declared.profile.ProfileName.{ProfileName}
use Rattle.cap_core.specs.declared.message.Message.{Message}
use Rattle.cap_core.specs.declared.capability.Badge.{Badge}
use Rattle.cap_core.specs.Numbers.{tcb_size, endpoint_size}
use Rattle.ipc_core.specs.declared.waiter.Waiter.{Waiter}
use Rattle.ipc_core.specs.declared.waiter.Waiter.TheVariants.{Sender, Receiver}
use Rattle.ipc_core.specs.declared.tables.Tables.{Tables}
use Rattle.ipc_core.specs.Waits.{Waits, Offer, no_waits, changed, thread_of, first_receiver, first_sender, served}
use Rattle.ipc_core.specs.Cancelled.{is_thread, others, after_cancel_thread}
use Rattle.ipc_core.specs.Representation.Chains.{IsApart}
use Rattle.ipc_core.specs.Representation.Linked.{Links, HasRow, links_of, row_at, free_row, idle_row, waiter_of, orders_in, waits_in, AreLinked, IsLinked}
use Rattle.ipc_core.proofs.QueueForm.Queues.{thread_of_waiter, lacks_elsewhere, stands}
use Rattle.ipc_core.proofs.QueueForm.QueueReads.{member_row}
use Rattle.ipc_core.proofs.QueueForm.Emptied.{away_same}

pub receiver_thread : (v : Waiter) (list : List Waiter) (t : ℕ) → first_receiver (v ∷ list) ≡ Some t → thread_of v ≡ t
receiver_thread (Sender thread badge message) list t h = cc
receiver_thread (Receiver thread) list t h = let e : thread ≡ t = cc in e

abbrev offered : ℕ → Badge → Message → Offer
offered thread badge message = record { thread = thread; badge = badge; message = message }

pub sender_thread : (v : Waiter) (list : List Waiter) (offer : Offer) → first_sender (v ∷ list) ≡ Some offer → thread_of v ≡ offer.thread
sender_thread (Sender thread badge message) list offer h = let e : offered thread badge message ≡ offer = cc in ap (λ (o : Offer). o.thread) e
sender_thread (Receiver thread) list offer h = cc

map_starts : (f : ℕ → Waiter) (xs : List ℕ) (v : Waiter) (list : List Waiter) → map f xs ≡ v ∷ list → (x : ℕ) × (rest : List ℕ) × (xs ≡ x ∷ rest) × (f x ≡ v)
map_starts f [] v list is = cc
map_starts f (x ∷ rest) v list is = (x, rest, refl, (let same : f x ≡ v = cc in same))

module _ (p : ProfileName) (tables : Tables) (linked : IsLinked p tables) (e t : ℕ) where
  abbrev l : Links
  l = links_of p tables

  abbrev waiter : ℕ → Waiter
  waiter i = waiter_of (l.thread i) i

  starts : (v : Waiter) (list : List Waiter) → (waits_in p tables).queue e ≡ v ∷ list → thread_of v ≡ t → (rest : List ℕ) × (orders_in p tables e ≡ t ∷ rest)
  starts v list is same =
      let found = map_starts waiter (orders_in p tables e) v list is in
      (found.1, found.2 ∙ ap (λ x. x ∷ found.1) (sym (thread_of_waiter (l.thread found.0) found.0) ∙ ap thread_of found.3 ∙ same))

  pub first_served : (after : Waits) → after ≡ after_cancel_thread t (waits_in p tables) →
      (v : Waiter) (list : List Waiter) → (waits_in p tables).queue e ≡ v ∷ list → thread_of v ≡ t → after ≡ served e (thread_of v) (waits_in p tables)
  first_served after out v list is same =
      out ∙ (λ k. record { queue = λ q. queues q k; role = changed (waits_in p tables).role t None }) ∙ ap (λ i. served e i (waits_in p tables)) (sym same)
    where
      front : (rest : List ℕ) × (orders_in p tables e ≡ t ∷ rest)
      front = starts v list is same

      apart : IsApart (t ∷ front.0)
      apart = subst IsApart front.1 (linked.apart e)

      here : others (is_thread t) ((waits_in p tables).queue e) ≡ drop 1 ((waits_in p tables).queue e)
      here =
          ap (λ order. others (is_thread t) (map waiter order)) front.1
          ∙ ap (λ b. cond (not b) (waiter t ∷ others (is_thread t) (map waiter front.0)) (others (is_thread t) (map waiter front.0))) (ap (λ i. i == t) (thread_of_waiter (l.thread t) t) ∙ eq-eqb t t refl)
          ∙ away_same waiter (λ i. thread_of_waiter (l.thread i) i) (λ _. true) t front.0 apart.0
          ∙ sym (ap (λ order. drop 1 (map waiter order)) front.1)

      queues : (q : ℕ) → others (is_thread t) ((waits_in p tables).queue q) ≡ changed (waits_in p tables).queue e (drop 1 ((waits_in p tables).queue e)) q
      queues q = elim (eqb_tells q e) [
        | inl w ↦ ap (λ j. others (is_thread t) ((waits_in p tables).queue j)) w.1 ∙ here ∙ sym (ap (λ b. cond b (drop 1 ((waits_in p tables).queue e)) ((waits_in p tables).queue q)) w.0)
        | inr w ↦
            away_same waiter (λ i. thread_of_waiter (l.thread i) i) (λ _. true) t (orders_in p tables q) (lacks_elsewhere (tcb_size p) (length tables.threads.items) l (orders_in p tables) linked e q t front.0 w.1 front.1)
            ∙ sym (ap (λ b. cond b (drop 1 ((waits_in p tables).queue e)) ((waits_in p tables).queue q)) w.0)
      ]

  first_get : (list : List Waiter) → map waiter (orders_in p tables e) ≡ list → ((v : Waiter) (rest : List Waiter) → list ≡ v ∷ rest → thread_of v ≡ t) → (list ≡ [] → ⊥) → slice_get (orders_in p tables e) 0 ≡ Some t
  first_get [] is thread some = absurd (some refl)
  first_get (v ∷ rest) is thread some = ap (λ order. slice_get order 0) (starts v rest is (thread v rest refl)).1

  pub receiver_row : first_receiver ((waits_in p tables).queue e) ≡ Some t → HasRow (tcb_size p) tables.threads.items t
  receiver_row first =
      member_row p tables linked e 0 t
      (first_get ((waits_in p tables).queue e) refl (λ v rest is. receiver_thread v rest t (sym (ap first_receiver is) ∙ first)) (λ none. cc (sym (ap first_receiver none) ∙ first)))

pub sender_row : (p : ProfileName) (tables : Tables) (linked : IsLinked p tables) (e : ℕ) (offer : Offer) → first_sender ((waits_in p tables).queue e) ≡ Some offer → HasRow (tcb_size p) tables.threads.items offer.thread
sender_row p tables linked e offer first =
    member_row p tables linked e 0 offer.thread
    (first_get p tables linked e offer.thread ((waits_in p tables).queue e) refl (λ v rest is. sender_thread v rest offer (sym (ap first_sender is) ∙ first)) (λ none. cc (sym (ap first_sender none) ∙ first)))

-- tables of free rows
row_same : {X : Type 0} (size n : ℕ) (x : X) (i : ℕ) → row_at size x (replicate n x) i ≡ x
row_same size n x i = either (i % size == 0) ∙ refl
  where
    at : (n i : ℕ) → get_or (replicate n x) i x ≡ x
    at zero i = refl
    at (suc n) zero = refl
    at (suc n) (suc i) = at n i

    either : (b : Bool) → cond b (get_or (replicate n x) (i / size) x) x ≡ x
    either true = at n (i / size)
    either false = refl

pub nobody_in : (p : ProfileName) (tables : Tables) (n m : ℕ) → tables.threads.items ≡ replicate n free_row → tables.endpoints.items ≡ replicate m idle_row → (waits_in p tables ≡ no_waits) × IsLinked p tables
nobody_in p tables n m threads endpoints =
    let l : Links = record { thread = λ _. free_row; endpoint = λ _. idle_row } in
    let links : links_of p tables ≡ l =
    λ k. record {
      thread = (ap (row_at (tcb_size p) free_row) threads ∙ (λ j i. row_same (tcb_size p) n free_row i j)) k;
      endpoint = (ap (row_at (endpoint_size p) idle_row) endpoints ∙ (λ j i. row_same (endpoint_size p) m idle_row i j)) k;
    } in
    let linked : AreLinked (tcb_size p) (length tables.threads.items) l (λ _. []) =
    record {
      chain = λ e. (refl, refl);
      apart = λ e. tt;
      members = λ e. tt;
      found = λ t r is. cc;
      placed = λ t r is. cc;
    } in
    let shown = stands p tables (length tables.threads.items) l (λ _. []) links refl linked in
    (shown.0, shown.2)
