-- Who waits where, in a state where open records have live endpoints and live threads.
use Rattle.std.proofs.Common.{◌≡◌, ℕ, ◌≤◌, Bool, true, false, cond, ◌==◌, ◌&&◌, ◌||◌, List, [], ◌∷◌, ◌++◌, map, find, length, Option, None, Some, refl, sym, ap, subst, ◌∙◌, arith, inl, inr, eq-eqb}
use Rattle.std.specs.List.{list_any, AllByRecursion}
use Rattle.std.proofs.lemmas.Bool.{false≢true}
use Rattle.std.proofs.lemmas.Bool.Decides.{eqb_tells}
use Rattle.kernel_forest.specs.Forest.{Forest}
use Rattle.kernel_forest.specs.Entries.{Entry}
use Rattle.ipc_core.specs.Records.{Instance, same_instance, SendRecord, ReceiveRecord, sender, receiver}
use Rattle.kernel_abstract.specs.declared.call.ThreadState.TheVariants.{Inactive, Ready, Sending, Receiving}
use Rattle.kernel_abstract.specs.Shown.{endpoints_of}
use Rattle.kernel_abstract.specs.State.{State, endpoint_at, sends_to, receives_of, waiting_sends, waiting_receives, waiters, is_sending, is_receiving, state_of, first_of}
use Rattle.kernel_abstract.specs.Deliveries.{is_live}
use Rattle.kernel_abstract.specs.Cancelling.{ending}
use Rattle.kernel_abstract.proofs.Messages.WaitingSend.{same_tells, same_itself}
use Rattle.kernel_abstract.proofs.Messages.DeliveredSend.{pending}
use Rattle.kernel_abstract.proofs.Lists.Numbered.{tally, find_nothing}
use Rattle.kernel_abstract.proofs.Messages.WaitsOnce.{find_fails}
use Rattle.kernel_abstract.proofs.Lists.Searches.{find_found, some_tally}
use Rattle.kernel_abstract.proofs.Lists.Rising.{all_weaker, all_joined, all_dropped, passes_not, each_named}
use Rattle.kernel_abstract.proofs.Cancelling.Records.{own_sends, own_receives}
use Rattle.kernel_abstract.proofs.Reached.Invariant.{Invariant, IsOpen, SendIsOpen, ReceiveIsOpen}

-- what waits on an endpoint is its own
pub own_waiting_sends : (A : State) (e : Instance) → AllByRecursion (λ (s : SendRecord). s.endpoint ≡ e) (waiting_sends A e)
own_waiting_sends A e = all_dropped _ (length (receives_of A e)) (sends_to A e) (own_sends A e)

pub own_waiting_receives : (A : State) (e : Instance) → AllByRecursion (λ (a : ReceiveRecord). a.endpoint ≡ e) (waiting_receives A e)
own_waiting_receives A e = all_dropped _ (length (sends_to A e)) (receives_of A e) (own_receives A e)

pub same_is : (m n : Instance) → same_instance m n ≡ true → m ≡ n
same_is m n h = elim (same_tells m n) [
  | inl w ↦ w
  | inr w ↦ absurd (false≢true (sym w ∙ h))
]

-- one of those that pass has what each has
some_passes : {X : Type 0} (P : X → Type 0) (p : X → Bool) (C : Type 0) → ((x : X) → P x → p x ≡ true → C) → (xs : List X) → AllByRecursion P xs → list_any p xs ≡ true → C
some_passes P p C f [] h there = absurd (false≢true there)
some_passes P p C f (x ∷ xs) h there = elim (p x) as (λ b. p x ≡ b → (b || list_any p xs) ≡ true → C) [
  | true ↦ λ e _. f x h.0 e
  | false ↦ λ e rest. some_passes P p C f xs h.1 rest
] refl there

module _ (A : State) (inv : Invariant A) where
  -- where a thread waits, both are live, and it is not inactive
  pub sender_open : (e m : Instance) → list_any (λ (s : SendRecord). same_instance s.thread m) (waiting_sends A e) ≡ true → IsOpen A e m
  sender_open e m there = some_passes (λ (s : SendRecord). SendIsOpen A s × (s.endpoint ≡ e)) (λ (s : SendRecord). same_instance s.thread m) (IsOpen A e m)
      (λ s w is. subst (λ (x : Instance). IsOpen A x m) w.1 (subst (λ (x : Instance). IsOpen A s.endpoint x) (same_is s.thread m is) w.0))
      (waiting_sends A e) (all_joined (SendIsOpen A) (λ (s : SendRecord). s.endpoint ≡ e) _ (λ s o own. (o, own)) (waiting_sends A e) (inv.sends_open e) (own_waiting_sends A e)) there

  pub receiver_open : (e m : Instance) → list_any (λ (a : ReceiveRecord). same_instance a.thread m) (waiting_receives A e) ≡ true → IsOpen A e m
  receiver_open e m there = some_passes (λ (a : ReceiveRecord). ReceiveIsOpen A a × (a.endpoint ≡ e)) (λ (a : ReceiveRecord). same_instance a.thread m) (IsOpen A e m)
      (λ a w is. subst (λ (x : Instance). IsOpen A x m) w.1 (subst (λ (x : Instance). IsOpen A a.endpoint x) (same_is a.thread m is) w.0))
      (waiting_receives A e) (all_joined (ReceiveIsOpen A) (λ (a : ReceiveRecord). a.endpoint ≡ e) _ (λ a o own. (o, own)) (waiting_receives A e) (inv.receives_open e) (own_waiting_receives A e)) there

  open_live : (e m : Instance) → IsOpen A e m → is_live A e ≡ true
  open_live e m o =
      ap (λ (b : Bool). b && (A.endpoint_birth e.base == e.birth)) o.endpoint_live
      ∙ eq-eqb (A.endpoint_birth e.base) e.birth (sym (ap (λ (x : Instance). x.birth) o.endpoint_is))

  -- an endpoint that is not live has nobody waiting
  pub no_sends_wait : (e : Instance) → is_live A e ≡ false → waiting_sends A e ≡ []
  no_sends_wait e dead = nothing (waiting_sends A e) (all_joined (SendIsOpen A) (λ (s : SendRecord). s.endpoint ≡ e) (λ _. ⊥)
      (λ s o own. false≢true (sym dead ∙ subst (λ (x : Instance). is_live A x ≡ true) own (open_live s.endpoint s.thread o))) (waiting_sends A e) (inv.sends_open e) (own_waiting_sends A e))
    where
      nothing : (xs : List SendRecord) → AllByRecursion (λ _. ⊥) xs → xs ≡ []
      nothing [] h = refl
      nothing (x ∷ xs) h = absurd h.0

  pub no_receives_wait : (e : Instance) → is_live A e ≡ false → waiting_receives A e ≡ []
  no_receives_wait e dead = nothing (waiting_receives A e) (all_joined (ReceiveIsOpen A) (λ (a : ReceiveRecord). a.endpoint ≡ e) (λ _. ⊥)
      (λ a o own. false≢true (sym dead ∙ subst (λ (x : Instance). is_live A x ≡ true) own (open_live a.endpoint a.thread o))) (waiting_receives A e) (inv.receives_open e) (own_waiting_receives A e))
    where
      nothing : (xs : List ReceiveRecord) → AllByRecursion (λ _. ⊥) xs → xs ≡ []
      nothing [] h = refl
      nothing (x ∷ xs) h = absurd h.0

  pub nobody_waits : (e : Instance) → is_live A e ≡ false → waiters A e ≡ []
  nobody_waits e dead =
      let ss = no_sends_wait e dead in
      let qs = no_receives_wait e dead in
      λ i. map sender (ss i) ++ map receiver (qs i)

  -- a thread waits on one endpoint at most, and sends or receives there
  module _ (m : Instance) where
    abbrev sent : ℕ → ℕ
    sent b = tally (λ (s : SendRecord). same_instance s.thread m) (waiting_sends A (endpoint_at A b))

    abbrev received : ℕ → ℕ
    received b = tally (λ (a : ReceiveRecord). same_instance a.thread m) (waiting_receives A (endpoint_at A b))

    some_sent : (b : ℕ) → is_sending A m b ≡ true → 1 ≤ sent b
    some_sent b h = some_tally (λ (s : SendRecord). same_instance s.thread m) (waiting_sends A (endpoint_at A b)) h

    some_received : (b : ℕ) → is_receiving A m b ≡ true → 1 ≤ received b
    some_received b h = some_tally (λ (a : ReceiveRecord). same_instance a.thread m) (waiting_receives A (endpoint_at A b)) h

    live_sent : (b : ℕ) → is_sending A m b ≡ true → list_any (λ k. b == k) (endpoints_of A.derivations) ≡ true
    live_sent b h = (sender_open (endpoint_at A b) m h).endpoint_live

    live_received : (b : ℕ) → is_receiving A m b ≡ true → list_any (λ k. b == k) (endpoints_of A.derivations) ≡ true
    live_received b h = (receiver_open (endpoint_at A b) m h).endpoint_live

    one_waits : (b c : ℕ) → list_any (λ k. b == k) (endpoints_of A.derivations) ≡ true → list_any (λ k. c == k) (endpoints_of A.derivations) ≡ true → 1 ≤ pending A m b → 1 ≤ pending A m c → b ≡ c
    one_waits b c live live' here there = elim (eqb_tells b c) [
      | inl w ↦ w.1
      | inr w ↦ let le = inv.alone m b c live live' w.1 in absurd (omega (arith, here, there, le))
    ]

    pub sends_on_one : (b c : ℕ) → is_sending A m b ≡ true → is_sending A m c ≡ true → b ≡ c
    sends_on_one b c h h' = let le = some_sent b h in let le' = some_sent c h' in one_waits b c (live_sent b h) (live_sent c h') (omega (arith, le)) (omega (arith, le'))

    pub receives_on_one : (b c : ℕ) → is_receiving A m b ≡ true → is_receiving A m c ≡ true → b ≡ c
    receives_on_one b c h h' = let le = some_received b h in let le' = some_received c h' in one_waits b c (live_received b h) (live_received c h') (omega (arith, le)) (omega (arith, le'))

    pub not_both : (b c : ℕ) → is_sending A m b ≡ true → is_receiving A m c ≡ true → ⊥
    not_both b c h h' =
        let le = some_sent b h in
        let le' = some_received c h' in
        let same : b ≡ c = one_waits b c (live_sent b h) (live_received c h') (omega (arith, le)) (omega (arith, le')) in
        let here : 1 ≤ received b = subst (λ (n : ℕ). 1 ≤ received n) (sym same) le' in
        let most = inv.once m b (live_sent b h) in
        absurd (omega (arith, le, here, most))

    -- so the search through the live endpoints finds it
    pub found_sending : (b : ℕ) → is_sending A m b ≡ true → find (is_sending A m) (endpoints_of A.derivations) ≡ Some b
    found_sending b h = by (find (is_sending A m) (endpoints_of A.derivations)) refl
      where
        by : (o : Option ℕ) → find (is_sending A m) (endpoints_of A.derivations) ≡ o → o ≡ Some b
        by None none = absurd (false≢true (sym (find_fails (is_sending A m) (endpoints_of A.derivations) b none (live_sent b h)) ∙ h))
        by (Some c) some = ap Some (sends_on_one c b (find_found (is_sending A m) (endpoints_of A.derivations) c some).1 h)

    pub found_receiving : (b : ℕ) → is_receiving A m b ≡ true → find (is_receiving A m) (endpoints_of A.derivations) ≡ Some b
    found_receiving b h = by (find (is_receiving A m) (endpoints_of A.derivations)) refl
      where
        by : (o : Option ℕ) → find (is_receiving A m) (endpoints_of A.derivations) ≡ o → o ≡ Some b
        by None none = absurd (false≢true (sym (find_fails (is_receiving A m) (endpoints_of A.derivations) b none (live_received b h)) ∙ h))
        by (Some c) some = ap Some (receives_on_one c b (find_found (is_receiving A m) (endpoints_of A.derivations) c some).1 h)

    pub sends_alone : (b : ℕ) → is_sending A m b ≡ true → find (is_receiving A m) (endpoints_of A.derivations) ≡ None
    sends_alone b h = find_nothing (is_receiving A m) (endpoints_of A.derivations) (λ k live. passes_not (is_receiving A m k) (λ there. not_both b k h there))

    pub receives_alone : (b : ℕ) → is_receiving A m b ≡ true → find (is_sending A m) (endpoints_of A.derivations) ≡ None
    receives_alone b h = find_nothing (is_sending A m) (endpoints_of A.derivations) (λ k live. passes_not (is_sending A m k) (λ there. not_both k b there h))

    pub sends_there : (b : ℕ) → is_sending A m b ≡ true → state_of A m ≡ Sending b
    sends_there b h = let found = found_sending b h in λ i. first_of (found i) (find (is_receiving A m) (endpoints_of A.derivations)) (cond (A.is_inactive m) Inactive Ready)

    pub receives_there : (b : ℕ) → is_receiving A m b ≡ true → state_of A m ≡ Receiving b
    receives_there b h = let found = found_receiving b h in let none = receives_alone b h in λ i. first_of (none i) (found i) (cond (A.is_inactive m) Inactive Ready)

  -- each open record is one that its thread's state tells of
  pub senders_told : (e : Instance) → AllByRecursion (λ (s : SendRecord). state_of A s.thread ≡ Sending e.base) (waiting_sends A e)
  senders_told e = all_weaker _ _ (λ (s : SendRecord) w. sends_there s.thread e.base (subst (λ (x : Instance). list_any (λ (r : SendRecord). same_instance r.thread s.thread) (waiting_sends A x) ≡ true) (sym (w.1) ∙ w.0.endpoint_is ∙ ap (λ (x : Instance). endpoint_at A x.base) w.1) w.2)) (waiting_sends A e) facts
    where
      facts : AllByRecursion (λ (s : SendRecord). SendIsOpen A s × (s.endpoint ≡ e) × (list_any (λ (r : SendRecord). same_instance r.thread s.thread) (waiting_sends A e) ≡ true)) (waiting_sends A e)
      facts = all_joined (λ (s : SendRecord). SendIsOpen A s × (s.endpoint ≡ e)) (λ (s : SendRecord). list_any (λ (r : SendRecord). same_instance r.thread s.thread) (waiting_sends A e) ≡ true) _ (λ s w there. (w.0, w.1, there)) (waiting_sends A e)
          (all_joined (SendIsOpen A) (λ (s : SendRecord). s.endpoint ≡ e) _ (λ s o own. (o, own)) (waiting_sends A e) (inv.sends_open e) (own_waiting_sends A e))
          (each_named (λ (s : SendRecord). s.thread) same_instance same_itself (waiting_sends A e) (waiting_sends A e) (λ m there. there))

  pub receivers_told : (e : Instance) → AllByRecursion (λ (a : ReceiveRecord). state_of A a.thread ≡ Receiving e.base) (waiting_receives A e)
  receivers_told e = all_weaker _ _ (λ (a : ReceiveRecord) w. receives_there a.thread e.base (subst (λ (x : Instance). list_any (λ (r : ReceiveRecord). same_instance r.thread a.thread) (waiting_receives A x) ≡ true) (sym (w.1) ∙ w.0.endpoint_is ∙ ap (λ (x : Instance). endpoint_at A x.base) w.1) w.2)) (waiting_receives A e) facts
    where
      facts : AllByRecursion (λ (a : ReceiveRecord). ReceiveIsOpen A a × (a.endpoint ≡ e) × (list_any (λ (r : ReceiveRecord). same_instance r.thread a.thread) (waiting_receives A e) ≡ true)) (waiting_receives A e)
      facts = all_joined (λ (a : ReceiveRecord). ReceiveIsOpen A a × (a.endpoint ≡ e)) (λ (a : ReceiveRecord). list_any (λ (r : ReceiveRecord). same_instance r.thread a.thread) (waiting_receives A e) ≡ true) _ (λ a w there. (w.0, w.1, there)) (waiting_receives A e)
          (all_joined (ReceiveIsOpen A) (λ (a : ReceiveRecord). a.endpoint ≡ e) _ (λ a o own. (o, own)) (waiting_receives A e) (inv.receives_open e) (own_waiting_receives A e))
          (each_named (λ (a : ReceiveRecord). a.thread) same_instance same_itself (waiting_receives A e) (waiting_receives A e) (λ m there. there))

-- an endpoint that is not live is not live after objects end
pub stays_ended : (A : State) (g : Forest Entry) (e : Instance) → ((q : ℕ) → list_any (λ k. q == k) (endpoints_of g) ≡ true → list_any (λ k. q == k) (endpoints_of A.derivations) ≡ true) →
    is_live A e ≡ false → is_live (ending A g) e ≡ false
stays_ended A g e endpoints dead = by (list_any (λ k. e.base == k) (endpoints_of g)) refl
  where
    by : (b : Bool) → list_any (λ k. e.base == k) (endpoints_of g) ≡ b → (b && (A.endpoint_birth e.base == e.birth)) ≡ false
    by true there = sym (ap (λ (b : Bool). b && (A.endpoint_birth e.base == e.birth)) (endpoints e.base there)) ∙ dead
    by false there = refl
