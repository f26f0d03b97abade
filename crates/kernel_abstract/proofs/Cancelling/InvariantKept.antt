-- What holds of each reached state holds after a cancellation, and after objects have ended.
use Rattle.std.proofs.Common.{◌≡◌, ℕ, ◌<◌, ◌≤◌, Bool, true, false, not, cond, ◌==◌, ◌&&◌, ◌||◌, List, [], ◌∷◌, filter, refl, sym, ap, subst, ◌∙◌, arith}
use Rattle.std.specs.List.{list_any, AllByRecursion}
use Rattle.std.proofs.lemmas.Bool.{false≢true}
use Rattle.kernel_forest.specs.Forest.{Forest}
use Rattle.kernel_forest.specs.Entries.{Entry}
use Rattle.cap_core.specs.declared.capability.Badge.{Badge}
use Rattle.ipc_core.specs.Records.{Instance, same_instance, SendRecord, ReceiveRecord}
use Rattle.kernel_abstract.specs.Shown.{threads_of, endpoints_of}
use Rattle.kernel_abstract.specs.State.{State, endpoint_at, waiting_sends, waiting_receives}
use Rattle.kernel_abstract.specs.Cancelling.{cancelling, cancels_send, cancels_receive, is_open_send, is_open_receive, is_ended, ending, stopping, cancelling_badged}
use Rattle.kernel_abstract.proofs.Messages.DeliveredSend.{pending}
use Rattle.kernel_abstract.proofs.Lists.Numbered.{tally, send_number, receive_number}
use Rattle.kernel_abstract.proofs.Reached.Invariant.{Invariant, IsOpen, SendIsOpen, ReceiveIsOpen}
use Rattle.kernel_abstract.proofs.Lists.Rising.{all_weaker, all_passing, no_number, numbers_below}
use Rattle.kernel_abstract.proofs.Cancelling.Records.{waiting_sends_left, waiting_receives_left}

-- fewer pass where some are left out
tally_filter : {X : Type 0} (p f : X → Bool) (xs : List X) → tally p (filter f xs) ≤ tally p xs
tally_filter p f [] = omega arith
tally_filter p f (x ∷ xs) = let le = tally_filter p f xs in elim (f x) as (λ b. tally p (cond b (x ∷ filter f xs) (filter f xs)) ≤ tally p (x ∷ xs)) [ true ↦ omega (arith, le) | false ↦ omega (arith, le) ]

-- a cancellation, after which other objects may be live and other threads inactive
module _ (A : State) (S : SendRecord → Bool) (Q : ReceiveRecord → Bool) (inv : Invariant A) where
  abbrev pub left : State
  left = cancelling A S Q

  still_fresh : (n : ℕ) → A.count < n → left.is_cancelled n ≡ false
  still_fresh n lt =
      ap (λ (b : Bool). b || (cancels_send A S n || cancels_receive A Q n)) (inv.fresh n lt)
      ∙ ap (λ (b : Bool). b || cancels_receive A Q n) (no_number send_number (λ (s : SendRecord). is_open_send A s && S s) A.sends n
      (numbers_below send_number n A.sends (all_weaker (λ (s : SendRecord). s.number ≤ A.count) (λ (s : SendRecord). s.number < n) (λ s le. omega (arith, le, lt)) A.sends inv.sends_numbered)))
      ∙ no_number receive_number (λ (a : ReceiveRecord). is_open_receive A a && Q a) A.receives n
      (numbers_below receive_number n A.receives (all_weaker (λ (a : ReceiveRecord). a.number ≤ A.count) (λ (a : ReceiveRecord). a.number < n) (λ a le. omega (arith, le, lt)) A.receives inv.numbered))

  pub sends_waiting : (e : Instance) → waiting_sends left e ≡ filter (λ (s : SendRecord). not (S s)) (waiting_sends A e)
  sends_waiting e = waiting_sends_left A S Q inv.sends_rising inv.rising inv.unshared e

  pub receives_waiting : (e : Instance) → waiting_receives left e ≡ filter (λ (a : ReceiveRecord). not (Q a)) (waiting_receives A e)
  receives_waiting e = waiting_receives_left A S Q inv.sends_rising inv.rising inv.unshared e

  pending_less : (m : Instance) (b : ℕ) → pending left m b ≤ pending A m b
  pending_less m b =
      let ss = ap (tally (λ (s : SendRecord). same_instance s.thread m)) (sends_waiting (endpoint_at A b)) in
      let qs = ap (tally (λ (a : ReceiveRecord). same_instance a.thread m)) (receives_waiting (endpoint_at A b)) in
      let sl = tally_filter (λ (s : SendRecord). same_instance s.thread m) (λ (s : SendRecord). not (S s)) (waiting_sends A (endpoint_at A b)) in
      let ql = tally_filter (λ (a : ReceiveRecord). same_instance a.thread m) (λ (a : ReceiveRecord). not (Q a)) (waiting_receives A (endpoint_at A b)) in
      omega (arith, ss, qs, sl, ql)

  -- where what is not named stays open, with these capabilities and these inactive threads
  module _ (g : Forest Entry) (inactive : Instance → Bool)
      (endpoints : (q : ℕ) → list_any (λ k. q == k) (endpoints_of g) ≡ true → list_any (λ k. q == k) (endpoints_of A.derivations) ≡ true)
      (sends_stay : (s : SendRecord) → SendIsOpen A s → S s ≡ false → SendIsOpen (record left { derivations = g; is_inactive = inactive }) s)
      (receives_stay : (a : ReceiveRecord) → ReceiveIsOpen A a → Q a ≡ false → ReceiveIsOpen (record left { derivations = g; is_inactive = inactive }) a) where
    abbrev after : State
    after = record left { derivations = g; is_inactive = inactive }

    pub inv_left : Invariant after
    inv_left = record {
      fresh = still_fresh;
      numbered = inv.numbered;
      sends_numbered = inv.sends_numbered;
      rising = inv.rising;
      sends_rising = inv.sends_rising;
      unshared = inv.unshared;
      endpoint_births = inv.endpoint_births;
      thread_births = inv.thread_births;
      born = inv.born;
      sends_born = inv.sends_born;
      younger = inv.younger;
      sends_younger = inv.sends_younger;
      receives_open = λ e. subst (AllByRecursion (ReceiveIsOpen after)) (sym (receives_waiting e))
          (all_weaker _ (ReceiveIsOpen after) (λ a w. receives_stay a w.0 (unnamed (Q a) w.1)) _ (all_passing (ReceiveIsOpen A) (λ (a : ReceiveRecord). not (Q a)) (waiting_receives A e) (inv.receives_open e)));
      sends_open = λ e. subst (AllByRecursion (SendIsOpen after)) (sym (sends_waiting e))
          (all_weaker _ (SendIsOpen after) (λ s w. sends_stay s w.0 (unnamed (S s) w.1)) _ (all_passing (SendIsOpen A) (λ (s : SendRecord). not (S s)) (waiting_sends A e) (inv.sends_open e)));
      once = λ m b live. let le = inv.once m b (endpoints b live) in let less = pending_less m b in omega (arith, le, less);
      alone = λ m b c live live' ne. let le = inv.alone m b c (endpoints b live) (endpoints c live') ne in let less = pending_less m b in let less' = pending_less m c in omega (arith, le, less, less');
    }
      where
        unnamed : (b : Bool) → not b ≡ true → b ≡ false
        unnamed true h = absurd (false≢true h)
        unnamed false h = refl

-- a cancellation alone
pub inv_cancelling : (A : State) (S : SendRecord → Bool) (Q : ReceiveRecord → Bool) → Invariant A → Invariant (cancelling A S Q)
inv_cancelling A S Q inv = inv_left A S Q inv A.derivations A.is_inactive (λ q live. live)
    (λ s o unnamed. record { endpoint_is = o.endpoint_is; endpoint_live = o.endpoint_live; thread_is = o.thread_is; thread_live = o.thread_live; awake = o.awake })
    (λ a o unnamed. record { endpoint_is = o.endpoint_is; endpoint_live = o.endpoint_live; thread_is = o.thread_is; thread_live = o.thread_live; awake = o.awake })

pub inv_badged : (A : State) (e : Instance) (badge : Badge) → Invariant A → Invariant (cancelling_badged A e badge)
inv_badged A e badge inv = inv_cancelling A _ _ inv

-- both are live, where the record is not ended
lives : (a b c d : Bool) → not ((a && b) && (c && d)) ≡ false → (a ≡ true) × (c ≡ true)
lives true b true d h = (refl, refl)
lives false b c d h = absurd (false≢true (sym h))
lives true true false d h = absurd (false≢true (sym h))
lives true false c d h = absurd (false≢true (sym h))

-- the end of objects: those that are live after were live
pub inv_ending : (A : State) (g : Forest Entry) → Invariant A →
    ((q : ℕ) → list_any (λ k. q == k) (endpoints_of g) ≡ true → list_any (λ k. q == k) (endpoints_of A.derivations) ≡ true) → Invariant (ending A g)
inv_ending A g inv endpoints = inv_left A _ _ inv g A.is_inactive endpoints (λ s o unnamed. stays s.endpoint s.thread o unnamed) (λ a o unnamed. stays a.endpoint a.thread o unnamed)
  where
    stays : (e t : Instance) → IsOpen A e t → is_ended A g e t ≡ false → IsOpen (ending A g) e t
    stays e t o unnamed =
        let w = lives (list_any (λ k. e.base == k) (endpoints_of g)) (A.endpoint_birth e.base == e.birth) (list_any (λ k. t.base == k) (threads_of g)) (A.thread_birth t.base == t.birth) unnamed in
        record { endpoint_is = o.endpoint_is; endpoint_live = w.0; thread_is = o.thread_is; thread_live = w.1; awake = o.awake }

-- a thread waits no more
pub inv_stopping : (A : State) (t : Instance) (inactive : Bool) → Invariant A → Invariant (stopping A t inactive)
inv_stopping A t inactive inv = inv_left A _ _ inv A.derivations (λ m. cond (same_instance m t) inactive (A.is_inactive m)) (λ q live. live) (λ s o unnamed. stays s.endpoint s.thread o unnamed) (λ a o unnamed. stays a.endpoint a.thread o unnamed)
  where
    stays : (e m : Instance) → IsOpen A e m → same_instance m t ≡ false → IsOpen (stopping A t inactive) e m
    stays e m o unnamed = record {
      endpoint_is = o.endpoint_is;
      endpoint_live = o.endpoint_live;
      thread_is = o.thread_is;
      thread_live = o.thread_live;
      awake = ap (λ (b : Bool). cond b inactive (A.is_inactive m)) unnamed ∙ o.awake;
    }
