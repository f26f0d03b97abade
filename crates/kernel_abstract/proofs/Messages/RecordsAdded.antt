-- A send and a receive add a record: what is shown after.
use Rattle.std.proofs.Common.{◌≡◌, ℕ, zero, suc, nat_lt, ◌+◌, Bool, true, false, cond, ◌==◌, List, [], ◌∷◌, ◌++◌, Option, None, Some, slice_get, length, refl, sym, ap, ◌∙◌, arith, drop}
use Rattle.std.specs.List.{list_any}
use Rattle.std.specs.FinMap.{insert}
use Rattle.kernel_abstract.proofs.Messages.WaitingReceive.{after_receive, shown_receive_waits, no_sender}
use Rattle.kernel_abstract.specs.Step as spec
use Rattle.kernel_abstract.proofs.Messages.WaitingSend.{after_send, shown_waits, no_receiver, a_receiver}
use Rattle.kernel_abstract.proofs.Messages.DeliveredSend.{pending, shown_delivers}
use Rattle.kernel_abstract.proofs.Messages.DeliveredReceive.{shown_serves, list_left}
use Rattle.kernel_abstract.proofs.Lists.Paired.{get_within}
use Rattle.kernel_abstract.proofs.Messages.WaitsOnce.{pending_elsewhere, pending_here, pending_elsewhere', pending_here', once_kept, alone_kept, small_or_ready}
use Rattle.kernel_abstract.specs.declared.invocation.Invocation.TheVariants.{Send, Receive}
use Rattle.kernel_abstract.specs.declared.invocation.Service.{Service}
use Rattle.kernel_abstract.specs.declared.call.ThreadState.TheVariants.{Ready, Inactive, Sending, Receiving}
use Rattle.kernel_abstract.specs.declared.call.Reply.{Reply}
use Rattle.kernel_abstract.specs.declared.call.Reply.TheVariants.{Dropped, Empty}
use Rattle.std.proofs.lemmas.Bool.Decides.{nat_tests}
use Rattle.kernel_abstract.specs.declared.call.Inbox.{Inbox}
use Rattle.ipc_core.specs.Records.{ReceiveRecord, Instance, SendRecord}
use Rattle.cap_core.specs.declared.profile.ProfileName.{ProfileName}
use Rattle.kernel_abstract.specs.Private.Effects.{Effect, unchanged, changed, performed_effect, receive_effect, receive_from_first, with_message, send_effect, send_to_first}
use Rattle.cap_core.specs.declared.message.Message.{Message}
use Rattle.ipc_core.specs.declared.waiter.Offer.{Offer}
use Rattle.ipc_core.specs.Waits.{first_sender}
use Rattle.ipc_core.specs.declared.waiter.Waiter.TheVariants.{Receiver, Sender}
use Rattle.kernel_abstract.specs.Shown.{Shown, endpoints_of, inbox_at, threads_of, waiting_at}
use Rattle.kernel_abstract.specs.State.{State, receives_of, endpoint_at, inbox_of, sends_to, shown, first_of, state_of, thread_at, waiters}
use Rattle.kernel_abstract.specs.Step.{Outcome, receive_record, is_receive_awaited, is_send_awaited, performed, receive_accepted, send_accepted, send_record, where_awaited}
use Rattle.kernel_abstract.proofs.Lists.Rising.{has_number, rises_push, has_number_push, numbers_below, all_weaker, all_dropped_push, all_dropped_more}
use Rattle.std.proofs.lemmas.Bool.Decides.{eqb_tells}
use Rattle.std.proofs.lemmas.Bool.{false≢true}
use Rattle.std.proofs.Common.{◌≤◌, ◌<◌, ◌||◌, subst, inl, inr, length-append}
use Rattle.std.specs.List.{AllByRecursion}
use Rattle.kernel_abstract.proofs.Messages.WaitingSend.{same_tells, sends_here, sends_elsewhere}
use Rattle.kernel_abstract.proofs.Messages.WaitingReceive.{receives_here, receives_elsewhere}
use Rattle.kernel_abstract.specs.State.{waiting_sends, waiting_receives}
use Rattle.kernel_abstract.proofs.Lists.Numbered.{send_number, receive_number}
use Rattle.kernel_abstract.proofs.Lists.Paired.{drop_get}
use Rattle.kernel_abstract.proofs.Reached.Invariant.{Invariant, IsOpen, SendIsOpen, ReceiveIsOpen, Passes, list_shown, inbox_shown, IsShown, receives_later, sends_later, all_push, rising_push, receives_born_later, sends_born_later, inv_refused}

-- an operation that is not awaited leaves no trace
unawaited : (A : State) (x : Effect) (b : Bool) (accepted : Outcome) (reply : Reply) → b ≡ false → x ≡ unchanged (shown A) reply → IsShown x (where_awaited A b accepted reply)
unfolding shown
unawaited A x b accepted reply is exact = (
  ap (λ (o : Effect). o.reply) exact ∙ sym (ap (λ (c : Bool). (where_awaited A c accepted reply).reply) is),
  ap (λ (o : Effect). o.after) exact ∙ sym (ap (λ (c : Bool). shown (where_awaited A c accepted reply).state) is),
)

awaited : (A : State) (x : Effect) (b : Bool) (accepted : Outcome) (reply : Reply) → b ≡ true → IsShown x accepted → IsShown x (where_awaited A b accepted reply)
awaited A x b accepted reply is same = (
  same.0 ∙ sym (ap (λ (c : Bool). (where_awaited A c accepted reply).reply) is),
  same.1 ∙ sym (ap (λ (c : Bool). shown (where_awaited A c accepted reply).state) is),
)

-- a list is longer than n where it has an element at n
longer : {X : Type 0} (xs : List X) (n : ℕ) (x : X) → slice_get xs n ≡ Some x → nat_lt n (length xs) ≡ true
longer xs n x there = let lt = get_within n xs x there in grind (arith, nat_tests)

not_longer : {X : Type 0} (xs : List X) (n : ℕ) → slice_get xs n ≡ None → nat_lt n (length xs) ≡ false
not_longer [] n none = grind (arith, nat_tests)
not_longer (x ∷ xs) zero none = cc
not_longer (x ∷ xs) (suc n) none = let rest = not_longer xs n none in grind (arith, nat_tests)

module _ (A : State) (t : ℕ) (service : Service) (message : Message) (inv : Invariant A) (ready : state_of A (thread_at A t) ≡ Ready) (thread_live : list_any (λ k. t == k) (threads_of A.derivations) ≡ true) (endpoint_live : list_any (λ k. service.endpoint == k) (endpoints_of A.derivations) ≡ true) where
  abbrev e : Instance
  e = endpoint_at A service.endpoint

  sends_alone : (block : Bool) → slice_get (receives_of A e) (length (sends_to A e)) ≡ None →
      send_effect (shown A) t service message block (waiting_at (shown A) service.endpoint) ≡ send_to_first (shown A) t service message (waiters A e) block None
  sends_alone block alone =
      ap (send_effect (shown A) t service message block) (list_shown A service.endpoint endpoint_live)
      ∙ ap (send_to_first (shown A) t service message (waiters A e) block) (no_receiver (sends_to A e) (receives_of A e) alone)

  send_waits_steps : slice_get (receives_of A e) (length (sends_to A e)) ≡ None →
      IsShown (send_effect (shown A) t service message true (waiting_at (shown A) service.endpoint)) (send_accepted A t service message)
  send_waits_steps alone =
      let exact = sends_alone true alone in
      let shows = shown_waits A t service message (inv.fresh (A.count + 1) (omega arith)) alone ready endpoint_live thread_live in
      let inbox = inbox_shown A t thread_live in (
        ap (λ (o : Effect). o.reply) exact ∙ sym (ap (spec.reply_to_send (send_record A t service message)) alone),
        ap (λ (o : Effect). o.after) exact
            ∙ ap (λ (i : Option Inbox). changed (shown A) t (record { state = Sending service.endpoint; inbox = i }) service.endpoint (waiters A e ++ Sender t service.badge message ∷ [])) inbox
            ∙ sym shows,
      )

  send_delivers_steps : (block : Bool) (a : ReceiveRecord) → slice_get (receives_of A e) (length (sends_to A e)) ≡ Some a →
      IsShown (send_effect (shown A) t service message block (waiting_at (shown A) service.endpoint)) (send_accepted A t service message)
  send_delivers_steps block a met =
      let fresh = inv.fresh (A.count + 1) (omega arith) in
      let list = list_shown A service.endpoint endpoint_live in
      let exact : send_effect (shown A) t service message block (waiting_at (shown A) service.endpoint) ≡ send_to_first (shown A) t service message (waiters A e) block (Some a.thread.base) =
      ap (send_effect (shown A) t service message block) list ∙ ap (send_to_first (shown A) t service message (waiters A e) block) (a_receiver (sends_to A e) (receives_of A e) (send_record A t service message) a met) in
      let waits = (subst (AllByRecursion (ReceiveIsOpen A)) (drop_get (length (sends_to A e)) (receives_of A e) a met) (inv.receives_open e)).0 in
      let shows = shown_delivers A t service message fresh inv.sends_numbered inv.numbered inv.rising a met endpoint_live inv.once inv.alone waits.awake waits.thread_is waits.thread_live in (
        ap (λ (o : Effect). o.reply) exact ∙ sym (ap (spec.reply_to_send (send_record A t service message)) met),
        ap (λ (o : Effect). o.after) exact ∙ sym shows,
      )

  send_steps : (o : Option ReceiveRecord) → slice_get (receives_of A e) (length (sends_to A e)) ≡ o →
      IsShown (send_effect (shown A) t service message true (waiting_at (shown A) service.endpoint)) (send_accepted A t service message)
  send_steps None alone = send_waits_steps alone
  send_steps (Some a) met = send_delivers_steps true a met

  nb_send_steps : (o : Option ReceiveRecord) → slice_get (receives_of A e) (length (sends_to A e)) ≡ o →
      IsShown (send_effect (shown A) t service message false (waiting_at (shown A) service.endpoint)) (where_awaited A (is_send_awaited A e) (send_accepted A t service message) Dropped)
  nb_send_steps None alone = unawaited A _ (is_send_awaited A e) (send_accepted A t service message) Dropped (not_longer (receives_of A e) (length (sends_to A e)) alone) (sends_alone false alone)
  nb_send_steps (Some a) met = awaited A _ (is_send_awaited A e) (send_accepted A t service message) Dropped (longer (receives_of A e) (length (sends_to A e)) a met) (send_delivers_steps false a met)

module _ (A : State) (t : ℕ) (service : Service) (inv : Invariant A) (ready : state_of A (thread_at A t) ≡ Ready) (thread_live : list_any (λ k. t == k) (threads_of A.derivations) ≡ true) (endpoint_live : list_any (λ k. service.endpoint == k) (endpoints_of A.derivations) ≡ true) where
  abbrev from : Instance
  from = endpoint_at A service.endpoint

  receives_alone : (block : Bool) → slice_get (sends_to A from) (length (receives_of A from)) ≡ None →
      receive_effect (shown A) t service block (waiting_at (shown A) service.endpoint) ≡ receive_from_first (shown A) t service (waiters A from) block None
  receives_alone block alone =
      ap (receive_effect (shown A) t service block) (list_shown A service.endpoint endpoint_live)
      ∙ ap (receive_from_first (shown A) t service (waiters A from) block) (no_sender (sends_to A from) (receives_of A from) alone)

  receive_waits_steps : slice_get (sends_to A from) (length (receives_of A from)) ≡ None →
      IsShown (receive_effect (shown A) t service true (waiting_at (shown A) service.endpoint)) (receive_accepted A t service)
  receive_waits_steps alone =
      let exact = receives_alone true alone in
      let shows = shown_receive_waits A t service (inv.fresh (A.count + 1) (omega arith)) inv.numbered alone ready endpoint_live thread_live in
      let inbox = inbox_shown A t thread_live in (
        ap (λ (o : Effect). o.reply) exact ∙ sym (ap (spec.reply_to_receive (receive_record A t service)) alone),
        ap (λ (o : Effect). o.after) exact
            ∙ ap (λ (i : Option Inbox). changed (shown A) t (record { state = Receiving service.endpoint; inbox = i }) service.endpoint (waiters A from ++ Receiver t ∷ [])) inbox
            ∙ sym shows,
      )

  receive_delivers_steps : (block : Bool) (s : SendRecord) → slice_get (sends_to A from) (length (receives_of A from)) ≡ Some s →
      IsShown (receive_effect (shown A) t service block (waiting_at (shown A) service.endpoint)) (receive_accepted A t service)
  receive_delivers_steps block s met =
      let fresh = inv.fresh (A.count + 1) (omega arith) in
      let list = list_shown A service.endpoint endpoint_live in
      let offer : Offer = record { thread = s.thread.base; badge = s.badge; message = s.message } in
      let first : first_sender (waiters A from) ≡ Some offer = ap first_sender (list_left A t service fresh inv.sends_numbered inv.numbered s met) in
      let exact : receive_effect (shown A) t service block (waiting_at (shown A) service.endpoint) ≡ receive_from_first (shown A) t service (waiters A from) block (Some offer) =
      ap (receive_effect (shown A) t service block) list ∙ ap (receive_from_first (shown A) t service (waiters A from) block) first in
      let waits = (subst (AllByRecursion (SendIsOpen A)) (drop_get (length (receives_of A from)) (sends_to A from) s met) (inv.sends_open from)).0 in
      let shows = shown_serves A t service fresh inv.sends_numbered inv.numbered s met endpoint_live ready inv.once inv.alone waits.awake waits.thread_is waits.thread_live thread_live in
      let inbox : inbox_at (shown A) s.thread.base ≡ inbox_of A s.thread = inbox_shown A s.thread.base waits.thread_live ∙ ap (inbox_of A) (sym waits.thread_is) in
      let v = shown A in
      let w : Option Inbox → Shown = λ i. record v { threads = insert v.threads s.thread.base (record { state = Ready; inbox = i }) } in (
        ap (λ (o : Effect). o.reply) exact ∙ sym (ap (spec.reply_to_receive (receive_record A t service)) met),
        ap (λ (o : Effect). o.after) exact
            ∙ ap (λ (i : Option Inbox). changed (w i) t (with_message s.badge s.message) service.endpoint (drop 1 (waiters A from))) inbox
            ∙ sym shows,
      )

  receive_steps : (o : Option SendRecord) → slice_get (sends_to A from) (length (receives_of A from)) ≡ o →
      IsShown (receive_effect (shown A) t service true (waiting_at (shown A) service.endpoint)) (receive_accepted A t service)
  receive_steps None alone = receive_waits_steps alone
  receive_steps (Some s) met = receive_delivers_steps true s met

  nb_receive_steps : (o : Option SendRecord) → slice_get (sends_to A from) (length (receives_of A from)) ≡ o →
      IsShown (receive_effect (shown A) t service false (waiting_at (shown A) service.endpoint)) (where_awaited A (is_receive_awaited A from) (receive_accepted A t service) Empty)
  nb_receive_steps None alone = unawaited A _ (is_receive_awaited A from) (receive_accepted A t service) Empty (not_longer (sends_to A from) (length (receives_of A from)) alone) (receives_alone false alone)
  nb_receive_steps (Some s) met = awaited A _ (is_receive_awaited A from) (receive_accepted A t service) Empty (longer (sends_to A from) (length (receives_of A from)) s met) (receive_delivers_steps false s met)

-- sends and receives
pub sends_step : (p : ProfileName) (A : State) (t : ℕ) (service : Service) (message : Message) (block : Bool) → Invariant A → Passes A t (Send service message block) →
    IsShown (performed_effect p (shown A) t (Send service message block)) (performed p A t (Send service message block))
sends_step p A t service message true inv pass = send_steps A t service message inv pass.ready pass.thread_live pass.endpoint_live _ refl
sends_step p A t service message false inv pass = nb_send_steps A t service message inv pass.ready pass.thread_live pass.endpoint_live _ refl

pub receives_step : (p : ProfileName) (A : State) (t : ℕ) (service : Service) (block : Bool) → Invariant A → Passes A t (Receive service block) →
    IsShown (performed_effect p (shown A) t (Receive service block)) (performed p A t (Receive service block))
receives_step p A t service true inv pass = receive_steps A t service inv pass.ready pass.thread_live pass.endpoint_live _ refl
receives_step p A t service false inv pass = nb_receive_steps A t service inv pass.ready pass.thread_live pass.endpoint_live _ refl

-- a ready thread is not inactive
ready_awake : (o r : Option ℕ) (inactive : Bool) → first_of o r (cond inactive Inactive Ready) ≡ Ready → inactive ≡ false
ready_awake (Some e) r inactive h = cc
ready_awake None (Some e) inactive h = cc
ready_awake None None true h = cc
ready_awake None None false h = refl

inv_sent : (A : State) (t : ℕ) (service : Service) (message : Message) → Invariant A → state_of A (thread_at A t) ≡ Ready → list_any (λ k. t == k) (threads_of A.derivations) ≡ true → list_any (λ k. service.endpoint == k) (endpoints_of A.derivations) ≡ true → Invariant (send_accepted A t service message).state
inv_sent A t service message inv ready thread_live endpoint_live = record {
  fresh = λ n lt. inv.fresh n (omega arith);
  numbered = receives_later A.count A.receives inv.numbered;
  sends_numbered = all_push _ A.sends (send_record A t service message) (sends_later A.count A.sends inv.sends_numbered) (omega arith);
  rising = inv.rising;
  endpoint_births = λ b. let le = inv.endpoint_births b in omega arith;
  thread_births = λ b. let le = inv.thread_births b in omega arith;
  born = receives_born_later A.count A.receives inv.born;
  younger = inv.younger;
  sends_younger = all_push _ A.sends (send_record A t service message) inv.sends_younger (let e = inv.endpoint_births service.endpoint in omega arith);
  sends_born = all_push _ A.sends (send_record A t service message) (sends_born_later A.count A.sends inv.sends_born) (let e = inv.endpoint_births service.endpoint in omega arith, let b = inv.thread_births t in omega arith);
  sends_rising = rises_push send_number A.count A.sends (send_record A t service message) inv.sends_rising inv.sends_numbered (omega arith);
  unshared = λ n there. by_last (has_number send_number A.sends n) (A.count + 1 == n) n (sym (has_number_push send_number A.sends (send_record A t service message) n) ∙ there) refl refl;
  receives_open = receives_still_open;
  sends_open = sends_still_open;
  once = λ m. once_kept live (pending A m) (pending after m) service.endpoint _ (pending_elsewhere A t service message fresh m) (pending_here A t service message fresh _ refl m) (small_or_ready A t m ready) (inv.once m) (inv.alone m);
  alone = λ m. alone_kept live (pending A m) (pending after m) service.endpoint _ (pending_elsewhere A t service message fresh m) (pending_here A t service message fresh _ refl m) (small_or_ready A t m ready) (inv.once m) (inv.alone m);
}
  where
    fresh : A.is_cancelled (A.count + 1) ≡ false
    fresh = inv.fresh (A.count + 1) (omega arith)

    live : ℕ → Type 0
    live b = list_any (λ k. b == k) (endpoints_of A.derivations) ≡ true

    after : State
    after = after_send A t service message fresh

    -- a number that the new send does not have is that of an earlier one
    by_last : (b c : Bool) (n : ℕ) → (b || c) ≡ true → has_number send_number A.sends n ≡ b → (A.count + 1 == n) ≡ c → has_number receive_number A.receives n ≡ false
    by_last true c n h earlier last = inv.unshared n earlier
    by_last false true n h earlier last = elim (eqb_tells (A.count + 1) n) [
      | inl w ↦ numbers_below receive_number n A.receives (all_weaker (λ (a : ReceiveRecord). a.number ≤ A.count) (λ (a : ReceiveRecord). a.number < n) (λ a le. let is = w.1 in omega (arith, le, is)) A.receives inv.numbered)
      | inr w ↦ absurd (false≢true (sym w.0 ∙ last))
    ]
    by_last false false n h earlier last = absurd (false≢true h)

    still_open : (e m : Instance) → IsOpen A e m → IsOpen after e m
    still_open e m o = record { endpoint_is = o.endpoint_is; endpoint_live = o.endpoint_live; thread_is = o.thread_is; thread_live = o.thread_live; awake = o.awake }

    now_open : SendIsOpen after (send_record A t service message)
    now_open = record { endpoint_is = refl; endpoint_live = endpoint_live; thread_is = refl; thread_live = thread_live; awake = ready_awake _ _ _ ready }

    sends_still_open : (e : Instance) → AllByRecursion (SendIsOpen after) (waiting_sends after e)
    sends_still_open e =
        let were : AllByRecursion (SendIsOpen after) (waiting_sends A e) = all_weaker (SendIsOpen A) (SendIsOpen after) (λ s o. still_open s.endpoint s.thread o) (waiting_sends A e) (inv.sends_open e) in
        elim (same_tells (endpoint_at A service.endpoint) e) [
          | inl w ↦ subst (λ (m : Instance). AllByRecursion (SendIsOpen after) (waiting_sends A m) → AllByRecursion (SendIsOpen after) (waiting_sends after m)) w
              (λ all. subst (λ (ss : List SendRecord). AllByRecursion (SendIsOpen after) (drop (length (receives_of A (endpoint_at A service.endpoint))) ss)) (sym (sends_here A t service message fresh))
              (all_dropped_push (SendIsOpen after) (length (receives_of A (endpoint_at A service.endpoint))) (sends_to A (endpoint_at A service.endpoint)) (send_record A t service message) all now_open)) were
          | inr w ↦ subst (λ (ss : List SendRecord). AllByRecursion (SendIsOpen after) (drop (length (receives_of A e)) ss)) (sym (sends_elsewhere A t service message fresh e w)) were
        ]

    receives_still_open : (e : Instance) → AllByRecursion (ReceiveIsOpen after) (waiting_receives after e)
    receives_still_open e =
        let were : AllByRecursion (ReceiveIsOpen after) (waiting_receives A e) = all_weaker (ReceiveIsOpen A) (ReceiveIsOpen after) (λ a o. still_open a.endpoint a.thread o) (waiting_receives A e) (inv.receives_open e) in
        elim (same_tells (endpoint_at A service.endpoint) e) [
          | inl w ↦ subst (λ (m : Instance). AllByRecursion (ReceiveIsOpen after) (waiting_receives A m) → AllByRecursion (ReceiveIsOpen after) (waiting_receives after m)) w
              (λ all. all_dropped_more (ReceiveIsOpen after) (length (sends_to A (endpoint_at A service.endpoint))) (length (sends_to after (endpoint_at A service.endpoint))) (receives_of A (endpoint_at A service.endpoint))
              (let long = ap length (sends_here A t service message fresh) ∙ length-append (sends_to A (endpoint_at A service.endpoint)) (send_record A t service message ∷ []) in omega (arith, long)) all) were
          | inr w ↦ subst (λ (ss : List SendRecord). AllByRecursion (ReceiveIsOpen after) (drop (length ss) (receives_of A e))) (sym (sends_elsewhere A t service message fresh e w)) were
        ]

inv_received : (A : State) (t : ℕ) (service : Service) → Invariant A → state_of A (thread_at A t) ≡ Ready → list_any (λ k. t == k) (threads_of A.derivations) ≡ true → list_any (λ k. service.endpoint == k) (endpoints_of A.derivations) ≡ true → Invariant (receive_accepted A t service).state
inv_received A t service inv ready thread_live endpoint_live = record {
  fresh = λ n lt. inv.fresh n (omega arith);
  numbered = all_push _ A.receives (receive_record A t service) (receives_later A.count A.receives inv.numbered) (omega arith);
  sends_numbered = sends_later A.count A.sends inv.sends_numbered;
  rising = rising_push A.count A.receives (receive_record A t service) inv.rising inv.numbered (omega arith);
  endpoint_births = λ b. let le = inv.endpoint_births b in omega arith;
  thread_births = λ b. let le = inv.thread_births b in omega arith;
  born = all_push _ A.receives (receive_record A t service) (receives_born_later A.count A.receives inv.born) (let e = inv.endpoint_births service.endpoint in omega arith, let b = inv.thread_births t in omega arith);
  sends_born = sends_born_later A.count A.sends inv.sends_born;
  younger = all_push _ A.receives (receive_record A t service) inv.younger (let e = inv.endpoint_births service.endpoint in omega arith);
  sends_younger = inv.sends_younger;
  sends_rising = inv.sends_rising;
  unshared = λ n there. has_number_push receive_number A.receives (receive_record A t service) n ∙ by_last n there (A.count + 1 == n) refl;
  receives_open = receives_still_open;
  sends_open = sends_still_open;
  once = λ m. once_kept live (pending A m) (pending after m) service.endpoint _ (pending_elsewhere' A t service fresh inv.numbered m) (pending_here' A t service fresh inv.numbered _ refl m) (small_or_ready A t m ready) (inv.once m) (inv.alone m);
  alone = λ m. alone_kept live (pending A m) (pending after m) service.endpoint _ (pending_elsewhere' A t service fresh inv.numbered m) (pending_here' A t service fresh inv.numbered _ refl m) (small_or_ready A t m ready) (inv.once m) (inv.alone m);
}
  where
    fresh : A.is_cancelled (A.count + 1) ≡ false
    fresh = inv.fresh (A.count + 1) (omega arith)

    live : ℕ → Type 0
    live b = list_any (λ k. b == k) (endpoints_of A.derivations) ≡ true

    after : State
    after = after_receive A t service fresh inv.numbered

    -- no send has the number of the new receive
    by_last : (n : ℕ) → has_number send_number A.sends n ≡ true → (c : Bool) → (A.count + 1 == n) ≡ c → (has_number receive_number A.receives n || c) ≡ false
    by_last n there true last = elim (eqb_tells (A.count + 1) n) [
      | inl w ↦ absurd (false≢true (sym (numbers_below send_number n A.sends (all_weaker (λ (s : SendRecord). s.number ≤ A.count) (λ (s : SendRecord). s.number < n) (λ s le. let is = w.1 in omega (arith, le, is)) A.sends inv.sends_numbered)) ∙ there))
      | inr w ↦ absurd (false≢true (sym w.0 ∙ last))
    ]
    by_last n there false last = ap (λ (b : Bool). b || false) (inv.unshared n there)

    still_open : (e m : Instance) → IsOpen A e m → IsOpen after e m
    still_open e m o = record { endpoint_is = o.endpoint_is; endpoint_live = o.endpoint_live; thread_is = o.thread_is; thread_live = o.thread_live; awake = o.awake }

    now_open : ReceiveIsOpen after (receive_record A t service)
    now_open = record { endpoint_is = refl; endpoint_live = endpoint_live; thread_is = refl; thread_live = thread_live; awake = ready_awake _ _ _ ready }

    receives_still_open : (e : Instance) → AllByRecursion (ReceiveIsOpen after) (waiting_receives after e)
    receives_still_open e =
        let were : AllByRecursion (ReceiveIsOpen after) (waiting_receives A e) = all_weaker (ReceiveIsOpen A) (ReceiveIsOpen after) (λ a o. still_open a.endpoint a.thread o) (waiting_receives A e) (inv.receives_open e) in
        elim (same_tells (endpoint_at A service.endpoint) e) [
          | inl w ↦ subst (λ (m : Instance). AllByRecursion (ReceiveIsOpen after) (waiting_receives A m) → AllByRecursion (ReceiveIsOpen after) (waiting_receives after m)) w
              (λ all. subst (λ (qs : List ReceiveRecord). AllByRecursion (ReceiveIsOpen after) (drop (length (sends_to A (endpoint_at A service.endpoint))) qs)) (sym (receives_here A t service fresh inv.numbered))
              (all_dropped_push (ReceiveIsOpen after) (length (sends_to A (endpoint_at A service.endpoint))) (receives_of A (endpoint_at A service.endpoint)) (receive_record A t service) all now_open)) were
          | inr w ↦ subst (λ (qs : List ReceiveRecord). AllByRecursion (ReceiveIsOpen after) (drop (length (sends_to A e)) qs)) (sym (receives_elsewhere A t service fresh inv.numbered e w)) were
        ]

    sends_still_open : (e : Instance) → AllByRecursion (SendIsOpen after) (waiting_sends after e)
    sends_still_open e =
        let were : AllByRecursion (SendIsOpen after) (waiting_sends A e) = all_weaker (SendIsOpen A) (SendIsOpen after) (λ s o. still_open s.endpoint s.thread o) (waiting_sends A e) (inv.sends_open e) in
        elim (same_tells (endpoint_at A service.endpoint) e) [
          | inl w ↦ subst (λ (m : Instance). AllByRecursion (SendIsOpen after) (waiting_sends A m) → AllByRecursion (SendIsOpen after) (waiting_sends after m)) w
              (λ all. all_dropped_more (SendIsOpen after) (length (receives_of A (endpoint_at A service.endpoint))) (length (receives_of after (endpoint_at A service.endpoint))) (sends_to A (endpoint_at A service.endpoint))
              (let long = ap length (receives_here A t service fresh inv.numbered) ∙ length-append (receives_of A (endpoint_at A service.endpoint)) (receive_record A t service ∷ []) in omega (arith, long)) all) were
          | inr w ↦ subst (λ (qs : List ReceiveRecord). AllByRecursion (SendIsOpen after) (drop (length qs) (sends_to A e))) (sym (receives_elsewhere A t service fresh inv.numbered e w)) were
        ]

inv_awaited : (A : State) (awaited : Bool) (accepted : Outcome) (reply : Reply) → Invariant A → Invariant accepted.state → Invariant (where_awaited A awaited accepted reply).state
inv_awaited A true accepted reply inv kept = kept
inv_awaited A false accepted reply inv kept = inv_refused A inv

pub inv_sends : (p : ProfileName) (A : State) (t : ℕ) (service : Service) (message : Message) (block : Bool) → Invariant A → Passes A t (Send service message block) → Invariant (performed p A t (Send service message block)).state
inv_sends p A t service message true inv pass = inv_sent A t service message inv pass.ready pass.thread_live pass.endpoint_live
inv_sends p A t service message false inv pass = inv_awaited A (is_send_awaited A (endpoint_at A service.endpoint)) (send_accepted A t service message) Dropped inv (inv_sent A t service message inv pass.ready pass.thread_live pass.endpoint_live)

pub inv_receives : (p : ProfileName) (A : State) (t : ℕ) (service : Service) (block : Bool) → Invariant A → Passes A t (Receive service block) → Invariant (performed p A t (Receive service block)).state
inv_receives p A t service true inv pass = inv_received A t service inv pass.ready pass.thread_live pass.endpoint_live
inv_receives p A t service false inv pass = inv_awaited A (is_receive_awaited A (endpoint_at A service.endpoint)) (receive_accepted A t service) Empty inv (inv_received A t service inv pass.ready pass.thread_live pass.endpoint_live)
