-- The calls that wait behind an order, and what they were answered.
use Rattle.std.proofs.Common.{◌≡◌, ℕ, zero, suc, Bool, true, false, cond, List, [], ◌∷◌, ◌++◌, map, filter, take, drop, insert, Option, None, Some, slice_get, refl, ap, sym, subst, ◌∙◌, append_assoc, append-nil, eq-eqb}
use Rattle.std.specs.List.{AllByRecursion as Each}
use Rattle.cap_core.specs.declared.profile.ProfileName.{ProfileName}
use Rattle.kernel_abstract.specs.declared.call.Call.{Call}
use Rattle.kernel_abstract.specs.declared.call.Reply.{Reply}
use Rattle.kernel_abstract.specs.declared.call.Reply.TheVariants.{Done, Delivered, Waiting, Dropped, Empty, Refused}
use Rattle.kernel_abstract.specs.Reached.{IsReached}
use Rattle.kernel_abstract.specs.Shown.{state_at}
use Rattle.kernel_abstract.specs.State.{State, shown}
use Rattle.kernel_abstract.specs.Step.{step}
use Rattle.query_orders.specs.declared.answer.WaitingCall.{WaitingCall}
use Rattle.query_orders.specs.World.{World, call_of_client_at, next_client_call, next_place, is_wait, is_waiting, still_waits, waiting_call, waits_with, with_call}
use Rattle.query_orders.proofs.Contained.{each_append}
use Rattle.command_explore.proofs.Replay.Waiting.{caller_waits}
use Rattle.command_explore.proofs.Replay.Runs.{of_client, of_client-append, get_front, get_last, one_reply, replies_last, after_last, behind, answers, place_is}

pub each-filter : {X : Type 0} (P : X → Type 0) (t : X → Bool) (xs : List X) → Each P xs → Each P (filter t xs)
each-filter P t [] h = tt
each-filter {X} P t (x ∷ xs) h =
    elim (t x) as (λ b. Each P (cond b (x ∷ filter t xs) (filter t xs))) [ true ↦ (h.0, each-filter P t xs h.1) | false ↦ each-filter P t xs h.1 ]

pub each-weaker : {X : Type 0} (P Q : X → Type 0) → ((x : X) → P x → Q x) → (xs : List X) → Each P xs → Each Q xs
each-weaker P Q f [] h = tt
each-weaker P Q f (x ∷ xs) h = (f x h.0, each-weaker P Q f xs h.1)

pub each-and : {X : Type 0} (P : X → Type 0) (t : X → Bool) (xs : List X) → Each P xs → Each (λ x. P x × (t x ≡ true)) (filter t xs)
each-and P t [] h = tt
each-and {X} P t (x ∷ xs) h =
    elim (t x) as (λ b. t x ≡ b → Each (λ x. P x × (t x ≡ true)) (cond b (x ∷ filter t xs) (filter t xs))) [ true ↦ (λ e. ((h.0, e), each-and P t xs h.1)) | false ↦ (λ e. each-and P t xs h.1) ] refl

each-take : {X : Type 0} (P : X → Type 0) (n : ℕ) (xs : List X) → Each P xs → Each P (take n xs)
each-take P zero xs h = tt
each-take P (suc n) [] h = tt
each-take P (suc n) (x ∷ xs) h = (h.0, each-take P n xs h.1)

each-drop : {X : Type 0} (P : X → Type 0) (n : ℕ) (xs : List X) → Each P xs → Each P (drop n xs)
each-drop P zero xs h = h
each-drop P (suc n) [] h = tt
each-drop P (suc n) (x ∷ xs) h = each-drop P n xs h.1

each-insert : {X : Type 0} (P : X → Type 0) (xs : List X) (n : ℕ) (x : X) → Each P xs → P x → Each P (insert xs n x)
each-insert P xs n x h one = each_append P (take n xs) (x ∷ drop n xs) (each-take P n xs h) (one, each-drop P n xs h)

is_waiting_reply : (reply : Reply) → is_wait reply ≡ true → reply ≡ Waiting
is_waiting_reply Done e = cc
is_waiting_reply (Delivered endpoint from to badge message) e = cc
is_waiting_reply Waiting e = refl
is_waiting_reply Dropped e = cc
is_waiting_reply Empty e = cc
is_waiting_reply (Refused refusal) e = cc

-- a call that waits is answered so, its thread makes it, and is shown to wait
pub record IsWaitOf (p : ProfileName) (own : List (List Call)) (A : State) (order : List ℕ) (wait : WaitingCall) : Type 0 where
  pub answer : slice_get (of_client wait.client (answers p own A order)) wait.place ≡ Some Waiting
  pub call : Call
  pub call_is : call_of_client_at own wait.client wait.place ≡ Some call
  pub thread_is : call.thread ≡ wait.thread
  pub waits : still_waits (shown (behind p own A order).kernel) wait ≡ true

module _ (p : ProfileName) (own : List (List Call)) (A : State) where
  -- the answers to a client's calls, with those of one call more
  pub of_client-last : (order : List ℕ) (c i : ℕ) → of_client i (answers p own A (order ++ c ∷ []))
      ≡ of_client i (answers p own A order) ++ of_client i (one_reply p own (behind p own A order).kernel c (next_client_call own (behind p own A order).made c))
  of_client-last order c i = ap (of_client i) (replies_last p own _ order c) ∙ of_client-append i (answers p own A order) _

  pub same_place : (order : List ℕ) (c i k : ℕ) (reply : Reply) → slice_get (of_client i (answers p own A order)) k ≡ Some reply → slice_get (of_client i (answers p own A (order ++ c ∷ []))) k ≡ Some reply
  same_place order c i k reply h = ap (λ l. slice_get l k) (of_client-last order c i) ∙ get_front (of_client i (answers p own A order)) _ k reply h

  -- the kernel behind one call more
  pub kernel_last : (order : List ℕ) (c : ℕ) (o : Option Call) → next_client_call own (behind p own A order).made c ≡ o → (behind p own A (order ++ c ∷ [])).kernel ≡ (with_call p (behind p own A order) c o).kernel
  kernel_last order c o e = ap (λ (w : World). w.kernel) (after_last p own _ order c) ∙ ap (λ (o : Option Call). (with_call p (behind p own A order) c o).kernel) e

  kept_wait : (order : List ℕ) (c : ℕ) (wait : WaitingCall) → IsWaitOf p own A order wait → still_waits (shown (behind p own A (order ++ c ∷ [])).kernel) wait ≡ true → IsWaitOf p own A (order ++ c ∷ []) wait
  kept_wait order c wait h still = record { answer = same_place order c wait.client wait.place Waiting h.answer; call = h.call; call_is = h.call_is; thread_is = h.thread_is; waits = still }

  -- the call that an order ends with is answered last
  pub own_answer : (order : List ℕ) (c : ℕ) (call : Call) → next_client_call own (behind p own A order).made c ≡ Some call
      → slice_get (of_client c (answers p own A (order ++ c ∷ []))) (next_place (behind p own A order).made c) ≡ Some (step p (behind p own A order).kernel call).reply
  own_answer order c call e =
      let at = place_is p own A order c call e in
      let reply = (step p (behind p own A order).kernel call).reply in
      ap (λ l. slice_get l (next_place (behind p own A order).made c)) (of_client-last order c c)
      ∙ (ap (λ (o : Option Call). slice_get (of_client c (answers p own A order) ++ of_client c (one_reply p own (behind p own A order).kernel c o)) (next_place (behind p own A order).made c)) e
      ∙ (ap (λ b. slice_get (of_client c (answers p own A order) ++ map (λ (x : ℕ × Reply). x.1) (cond b ((c, reply) ∷ []) [])) (next_place (behind p own A order).made c)) (eq-eqb c c refl)
      ∙ get_last (of_client c (answers p own A order)) reply (next_place (behind p own A order).made c) at.0))

  module _ (reached : (order : List ℕ) → IsReached p (behind p own A order).kernel) where
    new_wait : (order : List ℕ) (c : ℕ) (call : Call) → next_client_call own (behind p own A order).made c ≡ Some call → is_wait (step p (behind p own A order).kernel call).reply ≡ true
        → IsWaitOf p own A (order ++ c ∷ []) (waiting_call call.thread c (next_place (behind p own A order).made c))
    new_wait order c call e w =
        let at = place_is p own A order c call e in
        let waiting = is_waiting_reply (step p (behind p own A order).kernel call).reply w in
        record {
          answer = own_answer order c call e ∙ ap (λ r. Some r) waiting;
          call = call;
          call_is = ap (call_of_client_at own c) at.0 ∙ at.1;
          thread_is = refl;
          waits = ap (λ B. is_waiting (state_at (shown B) call.thread)) (kernel_last order c (Some call) e) ∙ caller_waits p (behind p own A order).kernel call (reached order) waiting;
        }

    more_waits : (order : List ℕ) (c : ℕ) → Each (IsWaitOf p own A order) (behind p own A order).waits
        → (o : Option Call) → next_client_call own (behind p own A order).made c ≡ o → Each (IsWaitOf p own A (order ++ c ∷ [])) (with_call p (behind p own A order) c o).waits
    more_waits order c h None e = each-weaker _ _ (λ wait w. kept_wait order c wait w (ap (λ B. still_waits (shown B) wait) (kernel_last order c None e) ∙ w.waits)) _ h
    more_waits order c h (Some call) e =
        let v = behind p own A order in
        let o = step p v.kernel call in
        let left = filter (still_waits (shown o.state)) v.waits in
        let old : Each (IsWaitOf p own A (order ++ c ∷ [])) left =
        each-weaker (λ (wait : WaitingCall). IsWaitOf p own A order wait × (still_waits (shown o.state) wait ≡ true)) (IsWaitOf p own A (order ++ c ∷ []))
        (λ wait w. kept_wait order c wait w.0 (ap (λ B. still_waits (shown B) wait) (kernel_last order c (Some call) e) ∙ w.1)) left
        (each-and (IsWaitOf p own A order) (still_waits (shown o.state)) v.waits h) in
        let new = waiting_call call.thread c (next_place v.made c) in
        elim (is_wait o.reply) as (λ b. is_wait o.reply ≡ b → Each (IsWaitOf p own A (order ++ c ∷ [])) (cond b (waits_with left new) left)) [
          | true ↦ (λ w. each-insert _ left _ new old (new_wait order c call e w))
          | false ↦ (λ w. old)
        ] refl

    waits_from : (done rest : List ℕ) → Each (IsWaitOf p own A done) (behind p own A done).waits → Each (IsWaitOf p own A (done ++ rest)) (behind p own A (done ++ rest)).waits
    waits_from done [] h = subst (λ l. Each (IsWaitOf p own A l) (behind p own A l).waits) (sym (append-nil done)) h
    waits_from done (c ∷ rest) h =
        let one : Each (IsWaitOf p own A (done ++ c ∷ [])) (behind p own A (done ++ c ∷ [])).waits =
        subst (λ (w : World). Each (IsWaitOf p own A (done ++ c ∷ [])) w.waits) (sym (after_last p own _ done c)) (more_waits done c h (next_client_call own (behind p own A done).made c) refl) in
        subst (λ l. Each (IsWaitOf p own A l) (behind p own A l).waits) (append_assoc done (c ∷ []) rest) (waits_from (done ++ c ∷ []) rest one)

    -- each call that waits behind an order is answered so
    pub waits_known : (order : List ℕ) → Each (IsWaitOf p own A order) (behind p own A order).waits
    waits_known order = waits_from [] order tt
