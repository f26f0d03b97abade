-- What a kernel shows after a send and after a receive.
use Rattle.std.proofs.Common.{◌≡◌, ◌≢◌, ℕ, Bool, true, false, cond, ◌==◌, List, [], ◌∷◌, ◌++◌, drop, Option, None, Some, IsSome, IsSomeAnd, option_map, option_and_then, refl, sym, ap, subst, ◌∙◌, eq-eqb}
use Rattle.std.proofs.lemmas.Bool.{ne_eqb, false≢true}
use Rattle.std.specs.List.{list_any}
use Rattle.std.specs.Ordering.{nat_cmp}
use Rattle.std.specs.FinMap.{FinMap, get, insert}
use Rattle.cap_core.specs.declared.profile.ProfileName.{ProfileName}
use Rattle.cap_core.specs.declared.capability.Badge.{Badge}
use Rattle.cap_core.specs.declared.message.Message.{Message}
use Rattle.cap_core.specs.Numbers.{tcb_size}
use Rattle.kernel_forest.specs.Forest.{Forest}
use Rattle.kernel_forest.specs.Entries.{Entry}
use Rattle.ipc_core.specs.declared.waiter.Waiter.{Waiter}
use Rattle.ipc_core.specs.declared.waiter.Role.{Role}
use Rattle.ipc_core.specs.declared.waiter.Sent.TheVariants as S
use Rattle.ipc_core.specs.declared.waiter.Received.TheVariants as D
use Rattle.ipc_core.specs.declared.waiter.Offer.{Offer}
use Rattle.ipc_core.specs.Waits.{Waits, first_receiver, first_sender, served, queued, sent_to, received_from}
use Rattle.kernel_abstract.specs.declared.call.Inbox.{Inbox}
use Rattle.kernel_abstract.specs.declared.invocation.Service.{Service}
use Rattle.kernel_abstract.specs.declared.call.ThreadState.{ThreadState}
use Rattle.kernel_abstract.specs.declared.call.ThreadState.TheVariants.{Ready}
use Rattle.kernel_core.specs.declared.rows.ThreadRow.{ThreadRow}
use Rattle.kernel_abstract.specs.Shown.{Shown, ThreadView, endpoints_of, waiting_at, inbox_at, state_at, table}
use Rattle.kernel_abstract.specs.Private.Effects.{changed, with_message, send_effect, send_to_first, receive_effect, receive_from_first, IsLiveEndpoint, IsReady}
use Rattle.kernel_core.specs.Rows.{rows_map, threads_shown, kernel_shown, IsActive, IsKernel, view_of, state_with}
use Rattle.kernel_abstract.proofs.Lists.Tables.{get_after, get_table, table_changed}
use Rattle.kernel_core.proofs.Threads.RowViews.{threads_changed, IsReadyRow, ready_thread, inbox_shown_is, state_shown_is}
use Rattle.kernel_core.proofs.Messages.KernelParts.{waiting_is}

-- the value at a changed place, and elsewhere
changed_here : {X : Type 0} (k : ℕ) (x y : X) → cond (k == k) x y ≡ x
changed_here k x y = ap (λ (b : Bool). cond b x y) (eq-eqb k k refl)

changed_else : {X : Type 0} (q k : ℕ) (x y : X) → q ≢ k → cond (q == k) x y ≡ y
changed_else q k x y ne = ap (λ (b : Bool). cond b x y) (ne_eqb q k ne)

-- what a row that is not inactive shows of a thread that does not wait
active_shows : (o : Option ThreadRow) → IsSomeAnd o (λ (r : ThreadRow). r.inactive ≡ false) → option_map (view_of None) o ≡ Some (record { state = Ready; inbox = option_and_then (λ (r : ThreadRow). r.inbox) o })
active_shows None h = absurd h
active_shows (Some row) h = ap (λ (b : Bool). Some (record { state = state_with None b; inbox = row.inbox })) h

-- which receiver was first, by the answer to a send
pub receiver_was : (o : Option ℕ) (block : Bool) (to : ℕ) → S.Delivered to ≡ sent_to o block → o ≡ Some to
receiver_was None true to h = cc
receiver_was None false to h = cc
receiver_was (Some other) block to h = let e : to ≡ other = cc in ap Some (sym e)

pub no_receiver_was : (o : Option ℕ) (block : Bool) → S.Waiting ≡ sent_to o block → (o ≡ None) × (block ≡ true)
no_receiver_was None true h = (refl, refl)
no_receiver_was None false h = cc
no_receiver_was (Some other) block h = cc

pub dropped_was : (o : Option ℕ) (block : Bool) → S.Dropped ≡ sent_to o block → (o ≡ None) × (block ≡ false)
dropped_was None true h = cc
dropped_was None false h = (refl, refl)
dropped_was (Some other) block h = cc

-- which sender was first, by the answer to a receive
pub sender_was : (o : Option Offer) (block : Bool) (from : ℕ) (badge : Badge) (message : Message) → D.Delivered from badge message ≡ received_from o block → o ≡ Some (record { thread = from; badge = badge; message = message })
sender_was None true from badge message h = cc
sender_was None false from badge message h = cc
sender_was (Some offer) block from badge message h =
    let t : from ≡ offer.thread = cc in
    let b : badge ≡ offer.badge = cc in
    let m : message ≡ offer.message = cc in
    sym (λ i. Some (record { thread = t i; badge = b i; message = m i }))

pub no_sender_was : (o : Option Offer) (block : Bool) → D.Waiting ≡ received_from o block → (o ≡ None) × (block ≡ true)
no_sender_was None true h = (refl, refl)
no_sender_was None false h = cc
no_sender_was (Some other) block h = cc

pub empty_was : (o : Option Offer) (block : Bool) → D.Empty ≡ received_from o block → (o ≡ None) × (block ≡ false)
empty_was None true h = cc
empty_was None false h = (refl, refl)
empty_was (Some other) block h = cc

module _ (p : ProfileName) (memory store waiters : ℕ) (f : Forest Entry) (rows : List (Option ThreadRow)) (w : Waits) (kernel : IsKernel p memory store waiters f rows w) (v : Shown) (view : kernel_shown p f rows w ≡ v) (t : ℕ) (service : Service) (live : IsLiveEndpoint v service.endpoint) where
  size : ℕ
  size = tcb_size p

  live_here : IsSome (get (table (endpoints_of f) w.queue) service.endpoint)
  live_here = subst (λ (u : Shown). IsLiveEndpoint u service.endpoint) (sym view) live

  pub list_is : waiting_at v service.endpoint ≡ w.queue service.endpoint
  list_is = ap (λ (u : Shown). waiting_at u service.endpoint) (sym view) ∙ waiting_is p memory store waiters f rows w kernel service.endpoint

  pub is_live : list_any (λ k. service.endpoint == k) (endpoints_of f) ≡ true
  is_live = present _ (subst IsSome (get_table (endpoints_of f) w.queue service.endpoint) live_here)
    where
      present : (b : Bool) → IsSome (cond b (Some (w.queue service.endpoint)) None) → b ≡ true
      present true h = refl
      present false h = absurd (false≢true h)

  -- the queue of one endpoint and what is shown of some threads change
  shown_with : (rows' : List (Option ThreadRow)) (w' : Waits) (threads : FinMap nat_cmp ThreadView) (list : List Waiter) →
      threads_shown (tcb_size p) rows' w' ≡ threads → w'.queue service.endpoint ≡ list → ((q : ℕ) → q ≢ service.endpoint → w'.queue q ≡ w.queue q) →
      kernel_shown p f rows' w' ≡ record { derivations = f; threads = threads; endpoints = insert (table (endpoints_of f) w.queue) service.endpoint list }
  shown_with rows' w' threads list seen here others =
      let lists = table_changed (endpoints_of f) w.queue w'.queue service.endpoint live_here others ∙ ap (insert (table (endpoints_of f) w.queue) service.endpoint) here in
      λ i. record { derivations = f; threads = seen i; endpoints = lists i }

  pub send_is : (message : Message) (block : Bool) (first : Option ℕ) → first_receiver (w.queue service.endpoint) ≡ first →
      send_effect v t service message block (waiting_at v service.endpoint) ≡ send_to_first v t service message (w.queue service.endpoint) block first
  send_is message block first e = ap (send_effect v t service message block) list_is ∙ ap (send_to_first v t service message (w.queue service.endpoint) block) e

  pub receive_is : (block : Bool) (first : Option Offer) → first_sender (w.queue service.endpoint) ≡ first →
      receive_effect v t service block (waiting_at v service.endpoint) ≡ receive_from_first v t service (w.queue service.endpoint) block first
  receive_is block first e = ap (receive_effect v t service block) list_is ∙ ap (receive_from_first v t service (w.queue service.endpoint) block) e

  -- a send that is delivered
  pub shows_delivered : (rows' : List (Option ThreadRow)) (to : ℕ) (badge : Badge) (message : Message) →
      rows_map (tcb_size p) rows' ≡ insert (rows_map (tcb_size p) rows) to (record { inactive = false; inbox = Some (record { badge = badge; message = message }) }) →
      kernel_shown p f rows' (served service.endpoint to w) ≡ changed v to (with_message badge message) service.endpoint (drop 1 (w.queue service.endpoint))
  shows_delivered rows' to badge message mapped =
      let row : ThreadRow = record { inactive = false; inbox = Some (record { badge = badge; message = message }) } in
      let at_row : (q : ℕ) → get (rows_map (tcb_size p) rows') q ≡ cond (q == to) (Some row) (get (rows_map (tcb_size p) rows) q) =
      λ q. ap (λ (m : FinMap nat_cmp ThreadRow). get m q) mapped ∙ get_after (rows_map (tcb_size p) rows) to row q in
      let seen = threads_changed (tcb_size p) rows rows' w (served service.endpoint to w) to (with_message badge message)
      (λ q ne. at_row q ∙ changed_else q to (Some row) _ ne)
      (λ q ne. changed_else q to None (w.role q) ne)
      (ap (λ (r : Option Role). option_map (view_of r) (get (rows_map (tcb_size p) rows') to)) (changed_here to None (w.role to))
      ∙ ap (option_map (view_of None)) (at_row to ∙ changed_here to (Some row) _)) in
      shown_with rows' (served service.endpoint to w) _ (drop 1 (w.queue service.endpoint)) seen
      (changed_here service.endpoint (drop 1 (w.queue service.endpoint)) (w.queue service.endpoint))
      (λ q ne. changed_else q service.endpoint (drop 1 (w.queue service.endpoint)) (w.queue q) ne)
      ∙ ap (λ (u : Shown). changed u to (with_message badge message) service.endpoint (drop 1 (w.queue service.endpoint))) view

  module _ (ready : IsReady v t) where
    pub ready_row : IsReadyRow (get (rows_map (tcb_size p) rows) t) (w.role t)
    ready_row = ready_thread (tcb_size p) rows w t (subst (λ (u : Shown). IsReady u t) (sym view) ready)

    pub is_active : IsActive (tcb_size p) rows t
    is_active = subst (λ (o : Option ThreadRow). IsSomeAnd o (λ (r : ThreadRow). r.inactive ≡ false)) (sym ready_row.is) ready_row.active

    -- a ready thread waits
    pub shows_waiting : (state : ThreadState) (role : Role) (waiter : Waiter) → ((inactive : Bool) → state_with (Some role) inactive ≡ state) →
        kernel_shown p f rows (queued service.endpoint t role waiter w) ≡ changed v t (record { state = state; inbox = inbox_at v t }) service.endpoint (w.queue service.endpoint ++ waiter ∷ [])
    shows_waiting state role waiter is =
        let row = ready_row.row in
        let kept : row.inbox ≡ inbox_at (kernel_shown p f rows w) t =
        sym (inbox_shown_is (tcb_size p) rows w t ∙ ap (option_and_then (λ (r : ThreadRow). r.inbox)) ready_row.is) in
        let seen = threads_changed (tcb_size p) rows rows w (queued service.endpoint t role waiter w) t (record { state = state; inbox = inbox_at (kernel_shown p f rows w) t })
        (λ q ne. refl)
        (λ q ne. changed_else q t (Some role) (w.role q) ne)
        (ap (λ (r : Option Role). option_map (view_of r) (get (rows_map (tcb_size p) rows) t)) (changed_here t (Some role) (w.role t))
        ∙ ap (option_map (view_of (Some role))) ready_row.is
        ∙ (λ i. Some (record { state = is row.inactive i; inbox = kept i }))) in
        shown_with rows (queued service.endpoint t role waiter w) _ (w.queue service.endpoint ++ waiter ∷ []) seen
        (changed_here service.endpoint (w.queue service.endpoint ++ waiter ∷ []) (w.queue service.endpoint))
        (λ q ne. changed_else q service.endpoint (w.queue service.endpoint ++ waiter ∷ []) (w.queue q) ne)
        ∙ ap (λ (u : Shown). changed u t (record { state = state; inbox = inbox_at u t }) service.endpoint (w.queue service.endpoint ++ waiter ∷ [])) view

    -- a receive to which a message is delivered
    pub shows_received : (rows' : List (Option ThreadRow)) (offer : Offer) → IsActive (tcb_size p) rows offer.thread →
        rows_map (tcb_size p) rows' ≡ insert (rows_map (tcb_size p) rows) t (record { inactive = false; inbox = Some (record { badge = offer.badge; message = offer.message }) }) →
        kernel_shown p f rows' (served service.endpoint offer.thread w) ≡ (receive_from_first v t service (w.queue service.endpoint) true (Some offer)).after
    shows_received rows' offer active mapped =
        let row : ThreadRow = record { inactive = false; inbox = Some (record { badge = offer.badge; message = offer.message }) } in
        let w' = served service.endpoint offer.thread w in
        let from : ThreadView = record { state = Ready; inbox = inbox_at (kernel_shown p f rows w) offer.thread } in
        let at_row : (q : ℕ) → get (rows_map (tcb_size p) rows') q ≡ cond (q == t) (Some row) (get (rows_map (tcb_size p) rows) q) =
        λ q. ap (λ (m : FinMap nat_cmp ThreadRow). get m q) mapped ∙ get_after (rows_map (tcb_size p) rows) t row q in
        let no_role : w'.role t ≡ None = role_none (t == offer.thread) (w.role t) ready_row.role_is in
        let first = threads_changed (tcb_size p) rows rows w w' offer.thread from
        (λ q ne. refl)
        (λ q ne. changed_else q offer.thread None (w.role q) ne)
        (ap (λ (r : Option Role). option_map (view_of r) (get (rows_map (tcb_size p) rows) offer.thread)) (changed_here offer.thread None (w.role offer.thread))
        ∙ active_shows _ active
        ∙ ap (λ (i : Option Inbox). Some (record { state = Ready; inbox = i })) (sym (inbox_shown_is (tcb_size p) rows w offer.thread))) in
        let then = threads_changed (tcb_size p) rows rows' w' w' t (with_message offer.badge offer.message)
        (λ q ne. at_row q ∙ changed_else q t (Some row) _ ne)
        (λ q ne. refl)
        (ap (λ (r : Option Role). option_map (view_of r) (get (rows_map (tcb_size p) rows') t)) no_role
        ∙ ap (option_map (view_of None)) (at_row t ∙ changed_here t (Some row) _)) in
        shown_with rows' w' _ (drop 1 (w.queue service.endpoint)) (then ∙ ap (λ (m : FinMap nat_cmp ThreadView). insert m t (with_message offer.badge offer.message)) first)
        (changed_here service.endpoint (drop 1 (w.queue service.endpoint)) (w.queue service.endpoint))
        (λ q ne. changed_else q service.endpoint (drop 1 (w.queue service.endpoint)) (w.queue q) ne)
        ∙ ap (λ (u : Shown). (receive_from_first u t service (w.queue service.endpoint) true (Some offer)).after) view
      where
        role_none : (b : Bool) (r : Option Role) → r ≡ None → cond b None r ≡ None
        role_none true r h = refl
        role_none false r h = h

-- what is shown of a thread, by its row
pub state_seen : (p : ProfileName) (f : Forest Entry) (rows : List (Option ThreadRow)) (w : Waits) (v : Shown) (t : ℕ) (o : Option ThreadRow) → kernel_shown p f rows w ≡ v → o ≡ get (rows_map (tcb_size p) rows) t →
    option_map (λ (row : ThreadRow). state_with (w.role t) row.inactive) o ≡ state_at v t
state_seen p f rows w v t o view is =
    ap (option_map (λ (row : ThreadRow). state_with (w.role t) row.inactive)) is
    ∙ state_shown_is (tcb_size p) rows w t
    ∙ ap (λ (u : Shown). state_at u t) view

pub inbox_seen : (p : ProfileName) (f : Forest Entry) (rows : List (Option ThreadRow)) (w : Waits) (v : Shown) (t : ℕ) (o : Option ThreadRow) → kernel_shown p f rows w ≡ v → o ≡ get (rows_map (tcb_size p) rows) t →
    option_and_then (λ (row : ThreadRow). row.inbox) o ≡ inbox_at v t
inbox_seen p f rows w v t o view is =
    ap (option_and_then (λ (row : ThreadRow). row.inbox)) is
    ∙ sym (inbox_shown_is (tcb_size p) rows w t)
    ∙ ap (λ (u : Shown). inbox_at u t) view

mapped_some : {X Y : Type 0} (h : X → Y) (o : Option X) (y : Y) → option_map h o ≡ Some y → IsSome o
mapped_some h None y e = cc
mapped_some h (Some x) y e = refl

pub stated_row : (p : ProfileName) (f : Forest Entry) (rows : List (Option ThreadRow)) (w : Waits) (v : Shown) (t : ℕ) (s : ThreadState) → kernel_shown p f rows w ≡ v → state_at v t ≡ Some s → IsSome (get (rows_map (tcb_size p) rows) t)
stated_row p f rows w v t s view is = mapped_some (λ (row : ThreadRow). state_with (w.role t) row.inactive) _ s (state_seen p f rows w v t _ view refl ∙ is)
