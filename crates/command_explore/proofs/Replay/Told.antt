-- What is told of an order holds of the answers to its calls.
use Rattle.std.proofs.Common.{◌≡◌, ◌==◌, ◌||◌, ◌+◌, ◌<◌, ◌≤◌, ℕ, zero, suc, Bool, true, false, cond, not, List, [], ◌∷◌, ◌++◌, map, filter, length, Option, None, Some, slice_get, unwrap_or, refl, ap, subst, ◌∙◌, arith}
use Rattle.std.specs.List.{flat_map, AllByRecursion as Each}
use Rattle.std.proofs.lemmas.Option.{slice_get_past}
use Rattle.kernel_lists.specs.Firsts.{has_kind_of, with_first, with_firsts, firsts}
use Rattle.cap_core.specs.declared.profile.ProfileName.{ProfileName}
use Rattle.kernel_abstract.specs.declared.call.Call.{Call}
use Rattle.kernel_abstract.specs.declared.call.Reply.{Reply}
use Rattle.kernel_abstract.specs.declared.call.Reply.TheVariants.{Done, Delivered, Waiting, Dropped, Empty, Refused}
use Rattle.kernel_abstract.specs.Reached.{IsReached}
use Rattle.kernel_abstract.specs.Shown.{state_at}
use Rattle.kernel_abstract.specs.State.{State, shown}
use Rattle.kernel_abstract.specs.Step.{step}
use Rattle.query_orders.specs.declared.answer.Answer.{Answer}
use Rattle.query_orders.specs.declared.answer.Answer.TheVariants.{Replied, Served, Cancelled, Waits, NotMade}
use Rattle.query_orders.specs.declared.answer.WaitingCall.{WaitingCall}
use Rattle.query_orders.specs.declared.left.LeftCall.{LeftCall}
use Rattle.query_orders.specs.World.{World, start, call_of_client_at, next_client_call, may_call, next_place, is_wait, is_waiting, still_waits}
use Rattle.query_orders.specs.Orders.{numbers_below, clients, orders, is_end, is_stuck, found_before}
use Rattle.query_orders.specs.Answers.{Answered, answered, replied, wait_ended, waits_ended, call_answers, outcome_answers, numbers_from, places_left, end_answers, answers_behind, first_answers, same_answer, answers_before}
use Rattle.query_orders.specs.Ends.{StuckEnd, stuck_end, left_calls, stuck_behind, stuck_before}
use Rattle.query_orders.proofs.Contained.{each_append, each-flat_map}
use Rattle.command_explore.specs.Replays.{is_shown_waiting}
use Rattle.command_explore.proofs.Replay.Runs.{of_client, one_reply, replies_last, after_last, behind, answers, made_of}
use Rattle.command_explore.proofs.Replay.Waits.{each-and, each-weaker, IsWaitOf, kernel_last, same_place, own_answer, waits_known}

-- ---- lists

each-map : {X Y : Type 0} (P : X → Type 0) (Q : Y → Type 0) (f : X → Y) → ((x : X) → P x → Q (f x)) → (xs : List X) → Each P xs → Each Q (map f xs)
each-map P Q f h [] e = tt
each-map P Q f h (x ∷ xs) e = (h x e.0, each-map P Q f h xs e.1)

each-below : (P : ℕ → Type 0) (n : ℕ) → ((i : ℕ) → i < n → P i) → Each P (numbers_below n)
each-below P zero h = tt
each-below P (suc n) h = each_append P (numbers_below n) (n ∷ []) (each-below P n (λ i lt. h i (omega (arith, lt)))) (h n (omega arith), tt)

each-numbers : (first n : ℕ) → Each (λ place. first ≤ place) (numbers_from first n)
each-numbers first zero = tt
each-numbers first (suc n) = (omega arith, each-weaker _ _ (λ place le. omega (arith, le)) (numbers_from (first + 1) n) (each-numbers (first + 1) n))

each-firsts : {X : Type 0} (P : X → Type 0) (same : X → X → Bool) (xs ys : List X) → Each P ys → Each P xs → Each P (with_firsts same ys xs)
each-firsts P same [] ys old new = old
each-firsts {X} P same (x ∷ xs) ys old new =
    each-firsts P same xs (with_first same ys x)
    (elim (has_kind_of same ys x) as (λ b. Each P (cond b ys (ys ++ x ∷ []))) [ true ↦ old | false ↦ each_append P ys (x ∷ []) old (new.0, tt) ]) new.1

each-found : {X : Type 0} (P : X → Type 0) (same : X → X → Bool) (behind : List ℕ → List X) (found : List X) (p : ProfileName) (own : List (List Call)) (w : World) (first : List ℕ) (n : ℕ)
    → Each P found → ((order : List ℕ) → Each P (behind order)) → Each P (found_before same behind found p own w first n)
each-found P same behind found p own w first zero old each = old
each-found {X} P same behind found p own w first (suc n) old each =
    each-firsts P same (flat_map behind (orders p own w first n)) (found_before same behind found p own w first n) (each-found P same behind found p own w first n old each)
    (each-flat_map (λ _. Unit {0}) P behind (λ order _. each order) (orders p own w first n) (every (orders p own w first n)))
  where
    every : (l : List (List ℕ)) → Each (λ _. Unit {0}) l
    every [] = tt
    every (order ∷ l) = (tt, every l)

not_true : (b : Bool) → not b ≡ true → b ≡ false
not_true true e = cc
not_true false e = refl

-- ---- the answers

module _ (p : ProfileName) (own : List (List Call)) (A : State) where
  abbrev answer_at : List ℕ → ℕ → ℕ → Option Reply
  answer_at order client place = slice_get (of_client client (answers p own A order)) place

  -- the last of the answers
  abbrev pub LastAnswer : List ℕ → Reply → Type 0
  LastAnswer order reply = (before : List (ℕ × Reply)) × (client : ℕ) × (answers p own A order ≡ before ++ (client, reply) ∷ [])

  -- what a call is answered says what it came to
  abbrev pub Tells : List ℕ → ℕ → ℕ → Answer → Type 0
  Tells order client place (Replied reply) = (answer_at order client place ≡ Some reply) × LastAnswer order reply
  Tells order client place (Served reply) =
      (answer_at order client place ≡ Some Waiting) × LastAnswer order reply × (is_shown_waiting (shown (behind p own A order).kernel) (call_of_client_at own client place) ≡ false)
  Tells order client place Cancelled = (answer_at order client place ≡ Some Waiting) × (is_shown_waiting (shown (behind p own A order).kernel) (call_of_client_at own client place) ≡ false)
  Tells order client place Waits =
      (answer_at order client place ≡ Some Waiting) × (is_shown_waiting (shown (behind p own A order).kernel) (call_of_client_at own client place) ≡ true) × (is_end own (behind p own A order) ≡ true)
  Tells order client place NotMade = (answer_at order client place ≡ None) × (is_end own (behind p own A order) ≡ true)

  abbrev pub Told : Answered → Type 0
  Told a = Tells a.order a.client a.place a.answer

  module _ (reached : (order : List ℕ) → IsReached p (behind p own A order).kernel) where
    -- ---- one call more

    module _ (order : List ℕ) (c : ℕ) (call : Call) (e : next_client_call own (behind p own A order).made c ≡ Some call) where
      abbrev v : World
      v = behind p own A order

      abbrev more : List ℕ
      more = order ++ c ∷ []

      abbrev reply : Reply
      reply = (step p v.kernel call).reply

      last : LastAnswer more reply
      last = (answers p own A order, c, replies_last p own _ order c ∙ ap (λ (o : Option Call). answers p own A order ++ one_reply p own v.kernel c o) e)

      replied_told : Each Told (replied more c (next_place v.made c) reply)
      replied_told = elim (is_wait reply) as (λ b. Each Told (cond b [] (answered more c (next_place v.made c) (Replied reply) ∷ []))) [ true ↦ tt | false ↦ ((own_answer p own A order c call e, last), tt) ]

      -- what became of a wait that is not shown any more
      ended : (wait : WaitingCall) → IsWaitOf p own A order wait → not (still_waits (shown (step p v.kernel call).state) wait) ≡ true → (r : Reply) → reply ≡ r → Tells more wait.client wait.place (wait_ended r wait.thread)
      ended wait h out r is = by r is
        where
          answer : answer_at more wait.client wait.place ≡ Some Waiting
          answer = same_place p own A order c wait.client wait.place Waiting h.answer

          over : is_shown_waiting (shown (behind p own A more).kernel) (call_of_client_at own wait.client wait.place) ≡ false
          over =
              ap (λ (o : Option Call). is_shown_waiting (shown (behind p own A more).kernel) o) h.call_is
              ∙ (ap (λ (B : State). is_waiting (state_at (shown B) h.call.thread)) (kernel_last p own A order c (Some call) e)
              ∙ (ap (λ t. is_waiting (state_at (shown (step p v.kernel call).state) t)) h.thread_is ∙ not_true _ out))

          by : (r : Reply) → reply ≡ r → Tells more wait.client wait.place (wait_ended r wait.thread)
          by Done is = (answer, over)
          by (Delivered endpoint from to badge message) is =
              elim (from == wait.thread || to == wait.thread) as (λ b. Tells more wait.client wait.place (cond b (Served (Delivered endpoint from to badge message)) Cancelled)) [
                | true ↦ (answer, subst (λ (r : Reply). LastAnswer more r) is last, over)
                | false ↦ (answer, over)
              ]
          by Waiting is = (answer, over)
          by Dropped is = (answer, over)
          by Empty is = (answer, over)
          by (Refused refusal) is = (answer, over)

      ended_told : Each Told (waits_ended more (shown (step p v.kernel call).state) v.waits reply)
      ended_told =
          each-map (λ (wait : WaitingCall). IsWaitOf p own A order wait × (not (still_waits (shown (step p v.kernel call).state) wait) ≡ true)) Told
          (λ (wait : WaitingCall). answered more wait.client wait.place (wait_ended reply wait.thread))
          (λ wait h. ended wait h.0 h.1 reply refl) _
          (each-and (IsWaitOf p own A order) (λ wait. not (still_waits (shown (step p v.kernel call).state) wait)) v.waits (waits_known p own A reached order))

      call_told : Each Told (outcome_answers v more c (step p v.kernel call))
      call_told = each_append Told (replied more c (next_place v.made c) reply) _ replied_told ended_told

    next_told : (order : List ℕ) (c : ℕ) (o : Option Call) → next_client_call own (behind p own A order).made c ≡ o → Each Told (call_answers p (behind p own A order) order c o)
    next_told order c None e = tt
    next_told order c (Some call) e = call_told order c call e

    -- ---- the end

    not_made : (order : List ℕ) (client place : ℕ) → client < length own → next_place (behind p own A order).made client ≤ place → answer_at order client place ≡ None
    not_made order client place lt le =
        let made = ap (λ (o : Option ℕ). unwrap_or o 0) (made_of p own A order client lt) in
        slice_get_past (of_client client (answers p own A order)) place (omega (arith, made, le))

    waits_still : (order : List ℕ) (wait : WaitingCall) → IsWaitOf p own A order wait → is_shown_waiting (shown (behind p own A order).kernel) (call_of_client_at own wait.client wait.place) ≡ true
    waits_still order wait h =
        let v = shown (behind p own A order).kernel in
        ap (is_shown_waiting v) h.call_is ∙ (ap (λ t. is_waiting (state_at v t)) h.thread_is ∙ h.waits)

    end_told : (order : List ℕ) → is_end own (behind p own A order) ≡ true → Each Told (end_answers own (behind p own A order) order)
    end_told order ends =
        let v = behind p own A order in
        each_append Told (map (λ (wait : WaitingCall). answered order wait.client wait.place Waits) v.waits) _
        (each-map (IsWaitOf p own A order) Told (λ (wait : WaitingCall). answered order wait.client wait.place Waits) (λ wait h. (h.answer, waits_still order wait h, ends)) v.waits (waits_known p own A reached order))
        (each-flat_map (λ client. client < length own) Told (λ client. map (λ place. answered order client place NotMade) (places_left own v.made client))
        (λ client lt. each-map (λ place. next_place v.made client ≤ place) Told (λ place. answered order client place NotMade) (λ place le. (not_made order client place lt le, ends))
        (places_left own v.made client) (each-numbers (next_place v.made client) _))
        (clients own) (each-below _ (length own) (λ i lt. lt)))

    behind_told : (order : List ℕ) → Each Told (answers_behind p own (start own A) order)
    behind_told order =
        let v = behind p own A order in
        each_append Told (flat_map (λ client. call_answers p v order client (next_client_call own v.made client)) (filter (may_call own v) (clients own))) _
        (each-flat_map (λ (_ : ℕ). Unit {0}) Told (λ client. call_answers p v order client (next_client_call own v.made client)) (λ client _. next_told order client (next_client_call own v.made client) refl) _ (every _))
        (elim (is_end own v) as (λ b. is_end own v ≡ b → Each Told (cond b (end_answers own v order) [])) [ true ↦ (λ e. end_told order e) | false ↦ (λ e. tt) ] refl)
      where
        every : (l : List ℕ) → Each (λ _. Unit {0}) l
        every [] = tt
        every (x ∷ l) = (tt, every l)

    first_told : (done rest : List ℕ) → Each Told (first_answers p own (behind p own A done) done rest)
    first_told done [] = tt
    first_told done (c ∷ rest) =
        let w = behind p own A done in
        each_append Told (call_answers p w done c (next_client_call own w.made c)) _ (next_told done c (next_client_call own w.made c) refl)
        (subst (λ (w : World). Each Told (first_answers p own w (done ++ c ∷ []) rest)) (after_last p own _ done c) (first_told (done ++ c ∷ []) rest))

    -- each answer that is told
    pub answers_told : (same : Answer → Answer → Bool) (begin : List ℕ) (n : ℕ) → Each Told (answers_before same (firsts (same_answer same) (first_answers p own (start own A) [] begin)) p own (start own A) begin n)
    answers_told same begin n =
        each-found Told (same_answer same) (answers_behind p own (start own A)) _ p own (start own A) begin n
        (each-firsts Told (same_answer same) (first_answers p own (start own A) [] begin) [] tt (first_told [] begin)) behind_told

  -- ---- ends

  abbrev pub ToldStuck : StuckEnd → Type 0
  ToldStuck s = (is_stuck own (behind p own A s.order) ≡ true) × (s.left ≡ left_calls own (behind p own A s.order).made (shown (behind p own A s.order).kernel))

  pub stuck_told : (same : List LeftCall → List LeftCall → Bool) (begin : List ℕ) (n : ℕ) → Each ToldStuck (stuck_before same p own (start own A) begin n)
  stuck_told same begin n =
      each-found ToldStuck _ (stuck_behind p own (start own A)) [] p own (start own A) begin n tt
      (λ order. elim (is_stuck own (behind p own A order)) as (λ b. is_stuck own (behind p own A order) ≡ b → Each ToldStuck (cond b (stuck_end order (left_calls own (behind p own A order).made (shown (behind p own A order).kernel)) ∷ []) [])) [
        | true ↦ (λ e. ((e, refl), tt))
        | false ↦ (λ e. tt)
      ] refl)
