-- Capabilities are rearranged, and the same objects are live: what is shown after.
use Rattle.std.proofs.Common.{◌≡◌, ℕ, ◌≤◌, true, cond, ◌==◌, find, refl, sym, ◌∙◌, arith, inl, inr}
use Rattle.std.specs.List.{list_any}
use Rattle.std.proofs.lemmas.Bool.Decides.{eqb_tells}
use Rattle.kernel_forest.specs.Forest.{Forest}
use Rattle.kernel_forest.specs.Entries.{Entry}
use Rattle.ipc_core.specs.Records.{Instance, SendRecord, ReceiveRecord, same_instance}
use Rattle.kernel_abstract.specs.declared.call.ThreadState.TheVariants.{Ready, Inactive}
use Rattle.kernel_abstract.specs.Shown.{threads_of, endpoints_of, waiting_at}
use Rattle.kernel_abstract.specs.State.{State, endpoint_at, thread_at, first_of, is_sending, is_receiving, inbox_of, thread_view, shown, waiters, waiting_sends, waiting_receives}
use Rattle.kernel_abstract.specs.Step.{next_call}
use Rattle.kernel_abstract.specs.Step as spec
use Rattle.kernel_abstract.specs.Private.Effects.{done, rearranged}
use Rattle.kernel_abstract.proofs.Messages.DeliveredSend.{pending}
use Rattle.kernel_abstract.proofs.Lists.Searches.{find_agrees, table_agrees, some_tally}
use Rattle.kernel_abstract.proofs.Lists.Rising.{all_weaker}
use Rattle.kernel_abstract.proofs.Reached.Invariant.{Invariant, IsOpen, SendIsOpen, ReceiveIsOpen, IsShown, list_shown, receives_later, sends_later, receives_born_later, sends_born_later}

-- a thread waits on one live endpoint at most
module _ (A : State) (inv : Invariant A) (m : Instance) where
  sends_pending : (b : ℕ) → is_sending A m b ≡ true → 1 ≤ pending A m b
  sends_pending b h = let le = some_tally (λ (s : SendRecord). same_instance s.thread m) (waiting_sends A (endpoint_at A b)) h in omega arith

  receives_pending : (b : ℕ) → is_receiving A m b ≡ true → 1 ≤ pending A m b
  receives_pending b h = let le = some_tally (λ (a : ReceiveRecord). same_instance a.thread m) (waiting_receives A (endpoint_at A b)) h in omega arith

  one_pending : (b c : ℕ) → list_any (λ k. b == k) (endpoints_of A.derivations) ≡ true → list_any (λ k. c == k) (endpoints_of A.derivations) ≡ true → 1 ≤ pending A m b → 1 ≤ pending A m c → b ≡ c
  one_pending b c live live' here there = elim (eqb_tells b c) [
    | inl w ↦ w.1
    | inr w ↦ let le = inv.alone m b c live live' w.1 in absurd (omega arith)
  ]

  pub sends_once : (b c : ℕ) → list_any (λ k. b == k) (endpoints_of A.derivations) ≡ true → list_any (λ k. c == k) (endpoints_of A.derivations) ≡ true → is_sending A m b ≡ true → is_sending A m c ≡ true → b ≡ c
  sends_once b c live live' h h' = one_pending b c live live' (sends_pending b h) (sends_pending c h')

  pub receives_once : (b c : ℕ) → list_any (λ k. b == k) (endpoints_of A.derivations) ≡ true → list_any (λ k. c == k) (endpoints_of A.derivations) ≡ true → is_receiving A m b ≡ true → is_receiving A m c ≡ true → b ≡ c
  receives_once b c live live' h h' = one_pending b c live live' (receives_pending b h) (receives_pending c h')

module _ (A : State) (f : Forest Entry) (inv : Invariant A)
    (threads : (q : ℕ) → list_any (λ k. q == k) (threads_of f) ≡ list_any (λ k. q == k) (threads_of A.derivations))
    (endpoints : (q : ℕ) → list_any (λ k. q == k) (endpoints_of f) ≡ list_any (λ k. q == k) (endpoints_of A.derivations)) where
  abbrev after_rearranged : State
  after_rearranged = record (next_call A) { derivations = f }

  same_sending : (m : Instance) → find (is_sending A m) (endpoints_of f) ≡ find (is_sending A m) (endpoints_of A.derivations)
  same_sending m = find_agrees (is_sending A m) (is_sending A m) (endpoints_of A.derivations) (endpoints_of f) (λ k live h. (endpoints k ∙ live, h)) (λ k live h. (sym (endpoints k) ∙ live, h)) (sends_once A inv m)

  same_receiving : (m : Instance) → find (is_receiving A m) (endpoints_of f) ≡ find (is_receiving A m) (endpoints_of A.derivations)
  same_receiving m = find_agrees (is_receiving A m) (is_receiving A m) (endpoints_of A.derivations) (endpoints_of f) (λ k live h. (endpoints k ∙ live, h)) (λ k live h. (sym (endpoints k) ∙ live, h)) (receives_once A inv m)

  same_view : (q : ℕ) → thread_view after_rearranged q ≡ thread_view A q
  same_view q = λ i. record {
    state = first_of (same_sending (thread_at A q) i) (same_receiving (thread_at A q) i) (cond (A.is_inactive (thread_at A q)) Inactive Ready);
    inbox = inbox_of A (thread_at A q);
  }

  pub rearranged_steps : IsShown (done (rearranged (shown A) f)) (spec.rearranged A f)
  unfolding shown
  rearranged_steps =
      let rows = table_agrees (threads_of A.derivations) (threads_of f) (thread_view A) (thread_view after_rearranged) threads (λ q live. same_view q) in
      let lists = table_agrees (endpoints_of f) (endpoints_of f) (waiting_at (shown A)) (λ base. waiters A (endpoint_at A base)) (λ q. refl) (λ q live. sym (list_shown A q (sym (endpoints q) ∙ live))) in
      (refl, λ i. record { derivations = f; threads = sym rows i; endpoints = sym lists i })

  pub inv_rearranged : Invariant after_rearranged
  inv_rearranged = record {
    fresh = λ n lt. inv.fresh n (omega arith);
    numbered = receives_later A.count A.receives inv.numbered;
    sends_numbered = sends_later A.count A.sends inv.sends_numbered;
    rising = inv.rising;
    endpoint_births = λ b. let le = inv.endpoint_births b in omega arith;
    thread_births = λ b. let le = inv.thread_births b in omega arith;
    born = receives_born_later A.count A.receives inv.born;
    sends_born = sends_born_later A.count A.sends inv.sends_born;
    younger = inv.younger;
    sends_younger = inv.sends_younger;
    sends_rising = inv.sends_rising;
    unshared = inv.unshared;
    receives_open = λ e. all_weaker (ReceiveIsOpen A) (ReceiveIsOpen after_rearranged) (λ a o. still_open a.endpoint a.thread o) (waiting_receives A e) (inv.receives_open e);
    sends_open = λ e. all_weaker (SendIsOpen A) (SendIsOpen after_rearranged) (λ s o. still_open s.endpoint s.thread o) (waiting_sends A e) (inv.sends_open e);
    once = λ m b live. inv.once m b (sym (endpoints b) ∙ live);
    alone = λ m b c live live' ne. inv.alone m b c (sym (endpoints b) ∙ live) (sym (endpoints c) ∙ live') ne;
  }
    where
      still_open : (e m : Instance) → IsOpen A e m → IsOpen after_rearranged e m
      still_open e m o = record {
        endpoint_is = o.endpoint_is;
        endpoint_live = endpoints e.base ∙ o.endpoint_live;
        thread_is = o.thread_is;
        thread_live = threads m.base ∙ o.thread_live;
        awake = o.awake;
      }
