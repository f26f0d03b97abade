-- A thread is taken out of its queue in tables.
use Rattle.std.proofs.Common.{◌≡◌, ◌≢◌, ℕ, ◌/◌, ◌%◌, ◌==◌, cond, not, List, [], ◌∷◌, ◌++◌, map, length, get_or, Option, Some, None, IfSome, option_map, inl, inr, refl, sym, ap, ◌∙◌, arith}
use Rattle.std.proofs.lemmas.Bool.Decides.{eqb_tells, leb_tells}
use Rattle.std.proofs.lemmas.List.{get_or_past}
use Rattle.cap_core.specs.declared.profile.ProfileName.{ProfileName}
use Rattle.cap_core.specs.Numbers.{tcb_size, endpoint_size}
use Rattle.ipc_core.specs.declared.waiter.Role.{Role}
use Rattle.ipc_core.specs.declared.tables.QueueRow.{QueueRow}
use Rattle.ipc_core.specs.declared.tables.EndpointRow.{EndpointRow}
use Rattle.ipc_core.specs.declared.tables.Tables.{Tables}
use Rattle.ipc_core.specs.Waits.{changed, endpoint_of, queued}
use Rattle.ipc_core.specs.Cancelled.{is_thread, others, after_cancel_thread}
use Rattle.ipc_core.specs.Representation.Chains.{Lacks, removed}
use Rattle.ipc_core.specs.Representation.Linked.{Links, HasRow, row_at, idle_row, links_of, waiter_of, orders_in, waits_in, IsLinked, led, led_back, set_row, with_role}
use Rattle.ipc_core.proofs.QueueForm.Chains.{chain-head, head_some, head_of}
use Rattle.ipc_core.proofs.QueueForm.Queues.{is_in, stands, some_of, removed_absent, lacks_from, thread_of_waiter}
use Rattle.ipc_core.proofs.QueueForm.TakenOut.{taken_out, waits_after, waiter_away, next_waits, previous_waits, without}
use Rattle.ipc_core.proofs.QueueForm.PutLast.{last_row, with_last, last_waits, put_last}
use Rattle.ipc_core.proofs.QueueForm.PutLast as PutLast
use Rattle.ipc_core.proofs.Histories.Cancelling.{filter-map}

-- an endpoint on which a thread waits has a row
pub endpoint_row : (size : ℕ) (rows : List EndpointRow) (e i : ℕ) → (row_at size idle_row rows e).first ≡ Some i → HasRow size rows e
endpoint_row size rows e i first =
    elim (eqb_tells (e % size) 0) [
      | inr w ↦ cc (sym (ap (λ b. (cond b (get_or rows (e / size) idle_row) idle_row).first) w.0) ∙ first)
      | inl w ↦
          elim (leb_tells (length rows) (e / size)) [
            | inl past ↦ cc (sym (ap (λ b. (cond b (get_or rows (e / size) idle_row) idle_row).first) w.0 ∙ ap (λ (row : EndpointRow). row.first) (get_or_past rows (e / size) idle_row past.1)) ∙ first)
            | inr within ↦ record { aligned = w.1; within = omega (arith, within.1) }
          ]
    ]

pub if_some : {X : Type 0} (o : Option X) (P : X → Type 0) → ((x : X) → o ≡ Some x → P x) → IfSome o P
if_some None P h = tt
if_some (Some x) P h = h x refl

pub still_has : {X : Type 0} (size : ℕ) (xs ys : List X) (k : ℕ) → length ys ≡ length xs → HasRow size xs k → HasRow size ys k
still_has size xs ys k same has = record { aligned = has.aligned; within = omega (arith, has.within) }

pub still_if : {X : Type 0} (size : ℕ) (xs ys : List X) (o : Option ℕ) → length ys ≡ length xs → IfSome o (HasRow size xs) → IfSome o (HasRow size ys)
still_if size xs ys None same has = tt
still_if size xs ys (Some k) same has = still_has size xs ys k same has

module _ (p : ProfileName) (old : Tables) (linked : IsLinked p old) (s : ℕ) (r : Role) (waits : ((links_of p old).thread s).role ≡ Some r) where
  abbrev l : Links
  l = links_of p old

  pub endpoint_there : HasRow (endpoint_size p) old.endpoints.items (endpoint_of r)
  endpoint_there =
      let at = is_in s (orders_in p old (endpoint_of r)) (linked.found s r waits) in
      let first = chain-head (λ t. (l.thread t).next) (λ t. (l.thread t).previous) None (l.endpoint (endpoint_of r)).first (orders_in p old (endpoint_of r)) (l.endpoint (endpoint_of r)).last (linked.chain (endpoint_of r)) in
      let some = head_some at.0 s at.1 in
      endpoint_row (endpoint_size p) old.endpoints.items (endpoint_of r) some.0 (first ∙ ap head_of at.2 ∙ some.1)

  thread_there : (e t : ℕ) → option_map endpoint_of (l.thread t).role ≡ Some e → HasRow (tcb_size p) old.threads.items t
  thread_there e t at =
      let some = some_of endpoint_of (l.thread t).role e at in
      let place = linked.placed t some.0 some.1 in
      record { aligned = place.0; within = place.1 }

  pub previous_there : IfSome (l.thread s).previous (HasRow (tcb_size p) old.threads.items)
  previous_there =
      if_some (l.thread s).previous (HasRow (tcb_size p) old.threads.items)
      (λ t is. thread_there (endpoint_of r) t (previous_waits (tcb_size p) (length old.threads.items) l (orders_in p old) linked s r waits t is))

  pub next_there : IfSome (l.thread s).next (HasRow (tcb_size p) old.threads.items)
  next_there =
      if_some (l.thread s).next (HasRow (tcb_size p) old.threads.items)
      (λ t is. thread_there (endpoint_of r) t (next_waits (tcb_size p) (length old.threads.items) l (orders_in p old) linked s r waits t is))

  -- the links of the tables after the three writes
  pub out_links : (row : QueueRow) (e : ℕ) (a b new : Tables) → row ≡ l.thread s → e ≡ endpoint_of r →
      links_of p a ≡ led e row.previous row.next l → links_of p b ≡ led_back e row.next row.previous (links_of p a) → links_of p new ≡ set_row s (with_role None) (links_of p b) →
      links_of p new ≡ without (endpoint_of r) s l
  out_links row e a b new row_is e_is first second third =
      third ∙ ap (set_row s (with_role None))
      (second ∙ ap (led_back e row.next row.previous) first
      ∙ ap (λ (w : QueueRow). led_back e w.next w.previous (led e w.previous w.next l)) row_is
      ∙ ap (λ k. led_back k (l.thread s).next (l.thread s).previous (led k (l.thread s).previous (l.thread s).next l)) e_is)

  pub out : (new : Tables) → links_of p new ≡ without (endpoint_of r) s l → length new.threads.items ≡ length old.threads.items →
      (waits_in p new ≡ after_cancel_thread s (waits_in p old)) × (orders_in p new ≡ (λ e. removed s (orders_in p old e))) × IsLinked p new
  out new links size =
      let linked' = taken_out (tcb_size p) (length old.threads.items) l (orders_in p old) linked s r waits in
      let shown = stands p new (length old.threads.items) (without (endpoint_of r) s l) (λ e. removed s (orders_in p old e)) links size linked' in
      (shown.0 ∙ waits_after (tcb_size p) (length old.threads.items) l (orders_in p old) linked s r waits, shown.1, shown.2)

  pub out_others : (new : Tables) → links_of p new ≡ without (endpoint_of r) s l →
      (t : ℕ) → t ≢ s → waiter_of ((links_of p new).thread t) t ≡ waiter_of (l.thread t) t
  out_others new links t ne =
      ap (λ (k : Links). waiter_of (k.thread t) t) links ∙ waiter_away (tcb_size p) (length old.threads.items) l (orders_in p old) linked s r waits t ne

-- a thread that waits nowhere is put last into a queue
module _ (p : ProfileName) (old : Tables) (linked : IsLinked p old) (e t : ℕ) (row : QueueRow) (free : ((links_of p old).thread t).role ≡ None) (role : option_map endpoint_of row.role ≡ Some e) (has : HasRow (tcb_size p) old.threads.items t) where
  abbrev m : Links
  m = links_of p old

  abbrev known : (r : Role) × (row.role ≡ Some r) × (endpoint_of r ≡ e)
  known = some_of endpoint_of row.role e role

  pub last_there : IfSome (m.endpoint e).last (HasRow (tcb_size p) old.threads.items)
  last_there =
      if_some (m.endpoint e).last (HasRow (tcb_size p) old.threads.items)
      (λ i is.
      let some = some_of endpoint_of (m.thread i).role e (last_waits (tcb_size p) (length old.threads.items) m (orders_in p old) linked e t row known.0 free known.1 known.2 has.aligned has.within i is) in
      let place = linked.placed i some.0 some.1 in
      record { aligned = place.0; within = place.1 })

  pub last_links : (last : Option ℕ) (a b new : Tables) → last ≡ (m.endpoint e).last →
      links_of p a ≡ set_row t (λ _. last_row last row) m → links_of p b ≡ led e last (Some t) (links_of p a) → links_of p new ≡ led_back e None (Some t) (links_of p b) →
      links_of p new ≡ with_last e t row m
  last_links last a b new last_is first second third =
      third ∙ ap (led_back e None (Some t)) (second ∙ ap (led e last (Some t)) first
      ∙ ap (λ o. led e o (Some t) (set_row t (λ _. last_row o row) m)) last_is)

  pub put_in : (new : Tables) → links_of p new ≡ with_last e t row m → length new.threads.items ≡ length old.threads.items →
      ((r : Role) → row.role ≡ Some r → waits_in p new ≡ queued e t r (waiter_of row t) (waits_in p old)) × IsLinked p new
  put_in new links size =
      let linked' = put_last (tcb_size p) (length old.threads.items) m (orders_in p old) linked e t row known.0 free known.1 known.2 has.aligned has.within in
      let shown = stands p new (length old.threads.items) (with_last e t row m) (changed (orders_in p old) e (orders_in p old e ++ t ∷ [])) links size linked' in (
        (λ r is. shown.0
            ∙ PutLast.waits_after (tcb_size p) (length old.threads.items) m (orders_in p old) linked e t row known.0 free known.1 known.2 has.aligned has.within
            ∙ ap (λ k. queued e t k (waiter_of row t) (waits_in p old)) (let same : Some known.0 ≡ Some r = sym known.1 ∙ is in let d : known.0 ≡ r = cc in d)),
        shown.2,
      )

-- a thread that waits nowhere is in no queue
module _ (p : ProfileName) (tables : Tables) (linked : IsLinked p tables) (s : ℕ) (free : ((links_of p tables).thread s).role ≡ None) where
  abbrev k : Links
  k = links_of p tables

  pub lacks_free : (e : ℕ) → Lacks s (orders_in p tables e)
  lacks_free e = lacks_from k s e (orders_in p tables e) (λ at. cc (sym (ap (option_map endpoint_of) free) ∙ at)) (linked.members e)

  pub orders_free : orders_in p tables ≡ (λ e. removed s (orders_in p tables e))
  orders_free = λ i e. sym (removed_absent s (orders_in p tables e) (lacks_free e)) i

  pub waits_free : waits_in p tables ≡ after_cancel_thread s (waits_in p tables)
  waits_free = λ i. record { queue = λ e. queues e i; role = λ t. roles t i }
    where
      queues : (e : ℕ) → (waits_in p tables).queue e ≡ others (is_thread s) ((waits_in p tables).queue e)
      queues e =
          ap (map (λ t. waiter_of (k.thread t) t)) (sym (removed_absent s (orders_in p tables e) (lacks_free e)))
          ∙ sym (filter-map (λ t. waiter_of (k.thread t) t) (λ v. not (is_thread s v)) (λ t. not (t == s)) (λ t. ap (λ j. not (j == s)) (thread_of_waiter (k.thread t) t)) (orders_in p tables e))

      roles : (t : ℕ) → (k.thread t).role ≡ changed (λ j. (k.thread j).role) s None t
      roles t = elim (eqb_tells t s) [
        | inl w ↦ ap (λ j. (k.thread j).role) w.1 ∙ free ∙ sym (ap (λ b. cond b None (k.thread t).role) w.0)
        | inr w ↦ sym (ap (λ b. cond b None (k.thread t).role) w.0)
      ]

pub none_of : {X : Type 0} (o : Option X) → ((x : X) → o ≡ Some x → ⊥) → o ≡ None
none_of None not_some = refl
none_of (Some x) not_some = absurd (not_some x refl)
