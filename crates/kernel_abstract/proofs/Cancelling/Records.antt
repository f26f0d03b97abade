-- What a cancellation leaves of an endpoint's records.
use Rattle.std.proofs.Common.{◌≡◌, Bool, true, false, not, ◌==◌, ◌&&◌, ◌||◌, filter, find, length, drop, refl, sym, ap, ◌∙◌, inl, inr}
use Rattle.std.specs.List.{filter_map, AllByRecursion}
use Rattle.std.proofs.lemmas.Bool.{false≢true}
use Rattle.ipc_core.specs.Records.{Instance, same_instance, SendRecord, ReceiveRecord, paired}
use Rattle.ipc_core.specs.Cancelled.{sends_less, receives_less}
use Rattle.ipc_core.proofs.Histories.Cancelling.{pairs_stay}
use Rattle.kernel_abstract.specs.State.{State, sends_to, receives_of, pairs, waiting_sends, waiting_receives, inbox_of, inbox_with, last_completed}
use Rattle.kernel_abstract.specs.Cancelling.{cancelling, cancels_send, cancels_receive, is_open_send, is_open_receive}
use Rattle.kernel_abstract.proofs.Messages.WaitingSend.{same_tells}
use Rattle.kernel_abstract.proofs.Lists.Numbered.{send_number, receive_number}
use Rattle.kernel_abstract.proofs.Reached.Invariant.{Unshared}
use Rattle.kernel_abstract.proofs.Lists.Rising.{Rises, has_number, all_weaker, all_passing, all_of, all_joined, filter_same, filter_both, rises_filter, by_number, no_number, filter_open, filter_past, drop_less, passes_not, each_there}

not_either : (a b c : Bool) → (a && not (b || c)) ≡ ((a && not b) && not c)
not_either true true c = refl
not_either true false c = refl
not_either false b c = refl

is_there : (m n : Instance) (b : Bool) → (same_instance m n && b) ≡ true → m ≡ n
is_there m n b h = elim (same_tells m n) [
  | inl w ↦ w
  | inr w ↦ absurd (false≢true (sym (ap (λ (x : Bool). x && b) w) ∙ h))
]

-- the records of an endpoint are its own
pub own_sends : (A : State) (e : Instance) → AllByRecursion (λ (s : SendRecord). s.endpoint ≡ e) (sends_to A e)
own_sends A e = all_weaker _ (λ (s : SendRecord). s.endpoint ≡ e) (λ s w. is_there s.endpoint e (not (A.is_cancelled s.number)) w.1) (sends_to A e)
    (all_passing (λ (s : SendRecord). s ≡ s) (λ (s : SendRecord). same_instance s.endpoint e && not (A.is_cancelled s.number)) A.sends (all_of (λ (s : SendRecord). s ≡ s) (λ s. refl) A.sends))

pub own_receives : (A : State) (e : Instance) → AllByRecursion (λ (a : ReceiveRecord). a.endpoint ≡ e) (receives_of A e)
own_receives A e = all_weaker _ (λ (a : ReceiveRecord). a.endpoint ≡ e) (λ a w. is_there a.endpoint e (not (A.is_cancelled a.number)) w.1) (receives_of A e)
    (all_passing (λ (a : ReceiveRecord). a ≡ a) (λ (a : ReceiveRecord). same_instance a.endpoint e && not (A.is_cancelled a.number)) A.receives (all_of (λ (a : ReceiveRecord). a ≡ a) (λ a. refl) A.receives))

-- what waits on an endpoint is what is open of its records
pub open_sends : (A : State) → Rises send_number A.sends → (e : Instance) → filter (is_open_send A) (sends_to A e) ≡ waiting_sends A e
open_sends A rise e =
    filter_same (is_open_send A) (λ (s : SendRecord). has_number send_number (waiting_sends A e) s.number) (sends_to A e)
    (all_weaker (λ (s : SendRecord). s.endpoint ≡ e) _ (λ s own. ap (λ (m : Instance). has_number send_number (waiting_sends A m) s.number) own) (sends_to A e) (own_sends A e))
    ∙ filter_past send_number (length (receives_of A e)) (sends_to A e) (rises_filter send_number _ A.sends rise)

pub open_receives : (A : State) → Rises receive_number A.receives → (e : Instance) → filter (is_open_receive A) (receives_of A e) ≡ waiting_receives A e
open_receives A rise e =
    filter_same (is_open_receive A) (λ (a : ReceiveRecord). has_number receive_number (waiting_receives A e) a.number) (receives_of A e)
    (all_weaker (λ (a : ReceiveRecord). a.endpoint ≡ e) _ (λ a own. ap (λ (m : Instance). has_number receive_number (waiting_receives A m) a.number) own) (receives_of A e) (own_receives A e))
    ∙ filter_past receive_number (length (sends_to A e)) (receives_of A e) (rises_filter receive_number _ A.receives rise)

module _ (A : State) (S : SendRecord → Bool) (Q : ReceiveRecord → Bool) (sends_rise : Rises send_number A.sends) (receives_rise : Rises receive_number A.receives) (unshared : Unshared A) where
  -- which of the sends and of the receives are cancelled after
  sends_cancelled : AllByRecursion (λ (s : SendRecord). (cancelling A S Q).is_cancelled s.number ≡ (A.is_cancelled s.number || (is_open_send A s && S s))) A.sends
  sends_cancelled = all_joined (λ (s : SendRecord). cancels_send A S s.number ≡ (is_open_send A s && S s)) (λ (s : SendRecord). has_number send_number A.sends s.number ≡ true) _
      (λ s is there.
      ap (λ (b : Bool). A.is_cancelled s.number || (b || cancels_receive A Q s.number)) is
      ∙ ap (λ (b : Bool). A.is_cancelled s.number || ((is_open_send A s && S s) || b)) (no_number receive_number (λ (a : ReceiveRecord). is_open_receive A a && Q a) A.receives s.number (unshared s.number there))
      ∙ ap (λ (b : Bool). A.is_cancelled s.number || b) (or_nothing (is_open_send A s && S s)))
      A.sends (by_number send_number (λ (s : SendRecord). is_open_send A s && S s) A.sends sends_rise) (each_there send_number A.sends A.sends (λ n there. there))
    where
      or_nothing : (b : Bool) → (b || false) ≡ b
      or_nothing true = refl
      or_nothing false = refl

  receives_cancelled : AllByRecursion (λ (a : ReceiveRecord). (cancelling A S Q).is_cancelled a.number ≡ (A.is_cancelled a.number || (is_open_receive A a && Q a))) A.receives
  receives_cancelled = all_joined (λ (a : ReceiveRecord). cancels_receive A Q a.number ≡ (is_open_receive A a && Q a)) (λ (a : ReceiveRecord). has_number receive_number A.receives a.number ≡ true) _
      (λ a is there.
      ap (λ (b : Bool). A.is_cancelled a.number || (cancels_send A S a.number || b)) is
      ∙ ap (λ (b : Bool). A.is_cancelled a.number || (b || (is_open_receive A a && Q a))) (no_number send_number (λ (s : SendRecord). is_open_send A s && S s) A.sends a.number
      (passes_not (has_number send_number A.sends a.number) (λ sent. false≢true (sym (unshared a.number sent) ∙ there)))))
      A.receives (by_number receive_number (λ (a : ReceiveRecord). is_open_receive A a && Q a) A.receives receives_rise) (each_there receive_number A.receives A.receives (λ n there. there))

  -- the sends and the receives that stand
  pub sends_left : (e : Instance) → sends_to (cancelling A S Q) e ≡ sends_less S (sends_to A e) (receives_of A e)
  sends_left e =
      filter_same (λ (s : SendRecord). same_instance s.endpoint e && not ((cancelling A S Q).is_cancelled s.number)) (λ (s : SendRecord). (same_instance s.endpoint e && not (A.is_cancelled s.number)) && not (is_open_send A s && S s)) A.sends
      (all_weaker _ _ (λ (s : SendRecord) is. ap (λ (b : Bool). same_instance s.endpoint e && not b) is ∙ not_either (same_instance s.endpoint e) (A.is_cancelled s.number) (is_open_send A s && S s)) A.sends sends_cancelled)
      ∙ filter_both (λ (s : SendRecord). same_instance s.endpoint e && not (A.is_cancelled s.number)) (λ (s : SendRecord). not (is_open_send A s && S s)) A.sends
      ∙ filter_same (λ (s : SendRecord). not (is_open_send A s && S s)) (λ (s : SendRecord). not (has_number send_number (waiting_sends A e) s.number && S s)) (sends_to A e)
      (all_weaker _ _ (λ (s : SendRecord) is. ap (λ (m : Instance). not (has_number send_number (waiting_sends A m) s.number && S s)) is) (sends_to A e) (own_sends A e))
      ∙ filter_open send_number S (length (receives_of A e)) (sends_to A e) (rises_filter send_number _ A.sends sends_rise)

  pub receives_left : (e : Instance) → receives_of (cancelling A S Q) e ≡ receives_less Q (sends_to A e) (receives_of A e)
  receives_left e =
      filter_same (λ (a : ReceiveRecord). same_instance a.endpoint e && not ((cancelling A S Q).is_cancelled a.number)) (λ (a : ReceiveRecord). (same_instance a.endpoint e && not (A.is_cancelled a.number)) && not (is_open_receive A a && Q a)) A.receives
      (all_weaker _ _ (λ (a : ReceiveRecord) is. ap (λ (b : Bool). same_instance a.endpoint e && not b) is ∙ not_either (same_instance a.endpoint e) (A.is_cancelled a.number) (is_open_receive A a && Q a)) A.receives receives_cancelled)
      ∙ filter_both (λ (a : ReceiveRecord). same_instance a.endpoint e && not (A.is_cancelled a.number)) (λ (a : ReceiveRecord). not (is_open_receive A a && Q a)) A.receives
      ∙ filter_same (λ (a : ReceiveRecord). not (is_open_receive A a && Q a)) (λ (a : ReceiveRecord). not (has_number receive_number (waiting_receives A e) a.number && Q a)) (receives_of A e)
      (all_weaker _ _ (λ (a : ReceiveRecord) is. ap (λ (m : Instance). not (has_number receive_number (waiting_receives A m) a.number && Q a)) is) (receives_of A e) (own_receives A e))
      ∙ filter_open receive_number Q (length (sends_to A e)) (receives_of A e) (rises_filter receive_number _ A.receives receives_rise)

  -- only what waits is cancelled: the pairs stay
  pub pairs_same : (e : Instance) → pairs (cancelling A S Q) e ≡ pairs A e
  pairs_same e = (λ i. paired (sends_left e i) (receives_left e i)) ∙ pairs_stay S Q (sends_to A e) (receives_of A e)

  -- of what waits, the others stay, in order
  pub waiting_sends_left : (e : Instance) → waiting_sends (cancelling A S Q) e ≡ filter (λ (s : SendRecord). not (S s)) (waiting_sends A e)
  waiting_sends_left e = (λ i. drop (length (receives_left e i)) (sends_left e i)) ∙ drop_less S Q (sends_to A e) (receives_of A e)

  pub waiting_receives_left : (e : Instance) → waiting_receives (cancelling A S Q) e ≡ filter (λ (a : ReceiveRecord). not (Q a)) (waiting_receives A e)
  waiting_receives_left e = (λ i. drop (length (sends_left e i)) (receives_left e i)) ∙ drop_less Q S (receives_of A e) (sends_to A e)

  -- the inboxes stay
  pub inbox_same : (m : Instance) → inbox_of (cancelling A S Q) m ≡ inbox_of A m
  inbox_same m = λ i. inbox_with (last_completed (filter_map (λ (a : ReceiveRecord). find (λ (p : SendRecord × ReceiveRecord). p.1.number == a.number) (pairs_same a.endpoint i)) (filter (λ (a : ReceiveRecord). same_instance a.thread m) A.receives)))
