-- A thread waits once at most.
use Rattle.std.proofs.Common.{◌≡◌, ◌≢◌, ℕ, suc, ◌+◌, ◌≤◌, Bool, true, false, cond, ◌==◌, ◌||◌, List, [], ◌∷◌, ◌++◌, find, length, drop, Option, None, Some, slice_get, refl, sym, ap, subst, ◌∙◌, arith, inl, inr, ◌⊎◌, length-append}
use Rattle.std.specs.List.{list_any}
use Rattle.std.proofs.lemmas.Bool.Decides.{eqb_tells}
use Rattle.std.proofs.lemmas.Bool.{false≢true}
use Rattle.kernel_abstract.proofs.Lists.Paired.{drop_all, drop_get, get_none, get_within}
use Rattle.kernel_abstract.proofs.Messages.WaitingSend.{record_sent, after_send, sends_here, sends_elsewhere, waits_here, same_tells, same_itself, not_same}
use Rattle.kernel_abstract.proofs.Messages.WaitingReceive.{none_received, ReceivesUpTo, record_received, after_receive, receives_here, receives_elsewhere, receives_wait}
use Rattle.kernel_abstract.proofs.Lists.Numbered.{tally, none_zero}
use Rattle.kernel_abstract.proofs.Messages.DeliveredSend.{pending}
use Rattle.kernel_abstract.specs.declared.invocation.Service.{Service}
use Rattle.kernel_abstract.specs.declared.call.ThreadState.TheVariants.{Ready}
use Rattle.ipc_core.specs.Records.{ReceiveRecord, Instance, SendRecord, same_instance}
use Rattle.cap_core.specs.declared.message.Message.{Message}
use Rattle.kernel_abstract.specs.State.{State, receives_of, endpoint_at, is_receiving, is_sending, sends_to, state_of, thread_at, waiting_receives, waiting_sends}
use Rattle.kernel_abstract.specs.Shown.{endpoints_of}

-- what a search does not find fails
pub find_fails : (p : ℕ → Bool) (keys : List ℕ) (e : ℕ) → find p keys ≡ None → list_any (λ k. e == k) keys ≡ true → p e ≡ false
find_fails p [] e none there = absurd (false≢true there)
find_fails p (k ∷ ks) e none there = elim (p k) as (λ b. p k ≡ b → cond b (Some k) (find p ks) ≡ None → p e ≡ false) [
  | true ↦ λ _ n. cc
  | false ↦ λ pk n. elim (eqb_tells e k) [
    | inl w ↦ ap p w.1 ∙ pk
    | inr w ↦ find_fails p ks e n (sym (ap (λ (b : Bool). b || list_any (λ k. e == k) ks) w.0) ∙ there)
  ]
] refl none

-- a ready thread waits nowhere
pub ready_waits_not : (A : State) (m : Instance) (b : ℕ) → state_of A m ≡ Ready → list_any (λ k. b == k) (endpoints_of A.derivations) ≡ true → pending A m b ≡ 0
ready_waits_not A m b ready live =
    let none = none_received _ _ _ ready in
    let ss = none_zero (λ (s : SendRecord). same_instance s.thread m) (waiting_sends A (endpoint_at A b)) (find_fails (is_sending A m) (endpoints_of A.derivations) b none.0 live) in
    let qs = none_zero (λ (a : ReceiveRecord). same_instance a.thread m) (waiting_receives A (endpoint_at A b)) (find_fails (is_receiving A m) (endpoints_of A.derivations) b none.1 live) in
    omega (arith, ss, qs)

tally_push : {X : Type 0} (p : X → Bool) (xs : List X) (x : X) → tally p (xs ++ x ∷ []) ≡ tally p xs + cond (p x) 1 0
tally_push p [] x = omega arith
tally_push p (y ∷ xs) x = let ih = tally_push p xs x in omega (arith, ih)

module _ (A : State) (t : ℕ) (service : Service) (message : Message) (fresh : A.is_cancelled (A.count + 1) ≡ false) where
  pub pending_elsewhere : (m : Instance) (b : ℕ) → b ≢ service.endpoint → pending (after_send A t service message fresh) m b ≡ pending A m b
  pending_elsewhere m b ne = ap (λ (ss : List SendRecord). tally (λ (s : SendRecord). same_instance s.thread m) (drop (length (receives_of A (endpoint_at A b))) ss) + tally (λ (a : ReceiveRecord). same_instance a.thread m) (drop (length ss) (receives_of A (endpoint_at A b))))
      (sends_elsewhere A t service message fresh (endpoint_at A b) (not_same (endpoint_at A service.endpoint) (endpoint_at A b) (λ d. ne (sym d))))

  pub pending_here : (o : Option ReceiveRecord) → slice_get (receives_of A (endpoint_at A service.endpoint)) (length (sends_to A (endpoint_at A service.endpoint))) ≡ o → (m : Instance) →
      pending (after_send A t service message fresh) m service.endpoint ≤ pending A m service.endpoint + cond (same_instance (thread_at A t) m) 1 0
  pending_here None met m =
      let p : SendRecord → Bool = λ s. same_instance s.thread m in
      let q : ReceiveRecord → Bool = λ a. same_instance a.thread m in
      let sends = ap (tally p) (waits_here A t service message fresh met) ∙ tally_push p (waiting_sends A (endpoint_at A service.endpoint)) (record_sent A t service message fresh) in
      let receives : tally q (waiting_receives (after_send A t service message fresh) (endpoint_at A service.endpoint)) ≡ 0 =
      ap (tally q) (drop_all _ (receives_of A (endpoint_at A service.endpoint))
      (let le = get_none _ (receives_of A (endpoint_at A service.endpoint)) met in
      let long = ap length (sends_here A t service message fresh) ∙ length-append (sends_to A (endpoint_at A service.endpoint)) (record_sent A t service message fresh ∷ []) in
      omega arith)) in
      omega (arith, sends, receives)
  pending_here (Some a) met m =
      let p : SendRecord → Bool = λ s. same_instance s.thread m in
      let q : ReceiveRecord → Bool = λ a. same_instance a.thread m in
      let sends : tally p (waiting_sends (after_send A t service message fresh) (endpoint_at A service.endpoint)) ≡ 0 = ap (tally p) (drop_all _ (sends_to (after_send A t service message fresh) (endpoint_at A service.endpoint))
      (let lt = get_within _ (receives_of A (endpoint_at A service.endpoint)) a met in
      let long = ap length (sends_here A t service message fresh) ∙ length-append (sends_to A (endpoint_at A service.endpoint)) (record_sent A t service message fresh ∷ []) in
      omega arith)) in
      let long : length (sends_to (after_send A t service message fresh) (endpoint_at A service.endpoint)) ≡ suc (length (sends_to A (endpoint_at A service.endpoint))) =
      ap length (sends_here A t service message fresh) ∙ length-append (sends_to A (endpoint_at A service.endpoint)) (record_sent A t service message fresh ∷ []) ∙ omega arith in
      let receives = ap (tally q) (drop_get _ (receives_of A (endpoint_at A service.endpoint)) a met ∙ ap (λ (n : ℕ). a ∷ drop n (receives_of A (endpoint_at A service.endpoint))) (sym long)) in
      omega (arith, sends, receives)

-- at most one, kept by a step at one endpoint
module _ (live : ℕ → Type 0) (f f' : ℕ → ℕ) (e x : ℕ) (elsewhere : (b : ℕ) → b ≢ e → f' b ≡ f b) (here : f' e ≤ f e + x) (small : (x ≡ 0) ⊎ ((x ≡ 1) × ((b : ℕ) → live b → f b ≡ 0)))
    (once : (b : ℕ) → live b → f b ≤ 1) (alone : (b c : ℕ) → live b → live c → b ≢ c → f b + f c ≤ 1) where
  at_e : live e → f' e ≤ 1
  at_e l = elim small [
    | inl z ↦ let o = once e l in omega arith
    | inr w ↦ let z = w.1 e l in let one = w.0 in omega arith
  ]

  pub once_kept : (b : ℕ) → live b → f' b ≤ 1
  once_kept b l = elim (eqb_tells b e) [
    | inl w ↦ subst (λ (n : ℕ). f' n ≤ 1) (sym w.1) (at_e (subst live w.1 l))
    | inr w ↦ let same = elsewhere b w.1 in let o = once b l in omega arith
  ]

  with_e : (c : ℕ) → live e → live c → c ≢ e → f' e + f' c ≤ 1
  with_e c l l' ne = let same = elsewhere c ne in elim small [
    | inl z ↦ let o = alone e c l l' (λ d. ne (sym d)) in omega arith
    | inr w ↦ let z = w.1 e l in let z' = w.1 c l' in let one = w.0 in omega arith
  ]

  pub alone_kept : (b c : ℕ) → live b → live c → b ≢ c → f' b + f' c ≤ 1
  alone_kept b c l l' ne = elim (eqb_tells b e) [
    | inl w ↦ let le = with_e c (subst live w.1 l) l' (λ d. ne (w.1 ∙ sym d)) in subst (λ (n : ℕ). f' n + f' c ≤ 1) (sym w.1) le
    | inr w ↦ elim (eqb_tells c e) [
      | inl u ↦ let le = with_e b (subst live u.1 l') l w.1 in let same : f' c ≡ f' e = ap f' u.1 in omega arith
      | inr u ↦ let sb = elsewhere b w.1 in let sc = elsewhere c u.1 in let o = alone b c l l' ne in omega arith
    ]
  ]

-- the thread of a call is the one that may wait more
pub small_or_ready : (A : State) (t : ℕ) (m : Instance) → state_of A (thread_at A t) ≡ Ready →
    (cond {A = ℕ} (same_instance (thread_at A t) m) 1 0 ≡ 0) ⊎ ((cond {A = ℕ} (same_instance (thread_at A t) m) 1 0 ≡ 1) × ((b : ℕ) → list_any (λ k. b == k) (endpoints_of A.derivations) ≡ true → pending A m b ≡ 0))
small_or_ready A t m ready = elim (same_tells (thread_at A t) m) [
  | inl w ↦ inr (ap (λ (b : Bool). cond {A = ℕ} b 1 0) (ap (same_instance (thread_at A t)) (sym w) ∙ same_itself (thread_at A t)), λ b live. ready_waits_not A m b (ap (state_of A) (sym w) ∙ ready) live)
  | inr w ↦ inl (ap (λ (b : Bool). cond {A = ℕ} b 1 0) w)
]

module _ (A : State) (t : ℕ) (service : Service) (fresh : A.is_cancelled (A.count + 1) ≡ false) (numbered : ReceivesUpTo A.count A.receives) where
  pub pending_elsewhere' : (m : Instance) (b : ℕ) → b ≢ service.endpoint → pending (after_receive A t service fresh numbered) m b ≡ pending A m b
  pending_elsewhere' m b ne = ap (λ (qs : List ReceiveRecord). tally (λ (s : SendRecord). same_instance s.thread m) (drop (length qs) (sends_to A (endpoint_at A b))) + tally (λ (a : ReceiveRecord). same_instance a.thread m) (drop (length (sends_to A (endpoint_at A b))) qs))
      (receives_elsewhere A t service fresh numbered (endpoint_at A b) (not_same (endpoint_at A service.endpoint) (endpoint_at A b) (λ d. ne (sym d))))

  pub pending_here' : (o : Option SendRecord) → slice_get (sends_to A (endpoint_at A service.endpoint)) (length (receives_of A (endpoint_at A service.endpoint))) ≡ o → (m : Instance) →
      pending (after_receive A t service fresh numbered) m service.endpoint ≤ pending A m service.endpoint + cond (same_instance (thread_at A t) m) 1 0
  pending_here' None met m =
      let p : SendRecord → Bool = λ s. same_instance s.thread m in
      let q : ReceiveRecord → Bool = λ a. same_instance a.thread m in
      let receives = ap (tally q) (receives_wait A t service fresh numbered met) ∙ tally_push q (waiting_receives A (endpoint_at A service.endpoint)) (record_received A t service fresh numbered) in
      let sends : tally p (waiting_sends (after_receive A t service fresh numbered) (endpoint_at A service.endpoint)) ≡ 0 =
      ap (tally p) (drop_all _ (sends_to A (endpoint_at A service.endpoint))
      (let le = get_none _ (sends_to A (endpoint_at A service.endpoint)) met in
      let long = ap length (receives_here A t service fresh numbered) ∙ length-append (receives_of A (endpoint_at A service.endpoint)) (record_received A t service fresh numbered ∷ []) in
      omega arith)) in
      omega (arith, sends, receives)
  pending_here' (Some s) met m =
      let p : SendRecord → Bool = λ s. same_instance s.thread m in
      let q : ReceiveRecord → Bool = λ a. same_instance a.thread m in
      let receives : tally q (waiting_receives (after_receive A t service fresh numbered) (endpoint_at A service.endpoint)) ≡ 0 = ap (tally q) (drop_all _ (receives_of (after_receive A t service fresh numbered) (endpoint_at A service.endpoint))
      (let lt = get_within _ (sends_to A (endpoint_at A service.endpoint)) s met in
      let long = ap length (receives_here A t service fresh numbered) ∙ length-append (receives_of A (endpoint_at A service.endpoint)) (record_received A t service fresh numbered ∷ []) in
      omega arith)) in
      let long : length (receives_of (after_receive A t service fresh numbered) (endpoint_at A service.endpoint)) ≡ suc (length (receives_of A (endpoint_at A service.endpoint))) =
      ap length (receives_here A t service fresh numbered) ∙ length-append (receives_of A (endpoint_at A service.endpoint)) (record_received A t service fresh numbered ∷ []) ∙ omega arith in
      let sends = ap (tally p) (drop_get _ (sends_to A (endpoint_at A service.endpoint)) s met ∙ ap (λ (n : ℕ). s ∷ drop n (sends_to A (endpoint_at A service.endpoint))) (sym long)) in
      omega (arith, sends, receives)
