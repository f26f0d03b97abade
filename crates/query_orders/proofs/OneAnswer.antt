-- Of each call an order tells one answer.
use Rattle.std.proofs.Common.{◌≡◌, ◌≢◌, ◌==◌, ◌&&◌, ℕ, suc, ◌+◌, ◌-◌, ◌<◌, true, false, cond, not, List, [], ◌∷◌, ◌++◌, map, filter, length, replicate, Option, None, Some, option_and_then, slice_get, slice_set, unwrap_or, position, nat_lt, refl, ap, sym, ◌∙◌, inl, inr, arith}
use Rattle.std.specs.List.{flat_map, sum_by, count_by}
use Rattle.std.proofs.lemmas.List.{get_or-set_same, get_or-set_other, get_or-replicate, length-replicate, length-set}
use Rattle.std.proofs.lemmas.List.Sums.{sum_by-append, sum_by-cons, sum_by-insert}
use Rattle.std.proofs.lemmas.List.Filters.{sum_by-filter_both}
use Rattle.std.proofs.lemmas.Option.{slice_get_within, slice_get-get_or, get_or_from_slice_get}
use Rattle.std.proofs.lemmas.Bool.Decides.{eqb_tells}
use Rattle.cap_core.specs.declared.profile.ProfileName.{ProfileName}
use Rattle.kernel_abstract.specs.declared.call.Call.{Call}
use Rattle.kernel_abstract.specs.declared.call.Reply.{Reply}
use Rattle.kernel_abstract.specs.State.{State, shown}
use Rattle.kernel_abstract.specs.Step.{Outcome, step}
use Rattle.query_orders.specs.declared.answer.Answer.TheVariants.{Replied, Waits, NotMade}
use Rattle.query_orders.specs.declared.answer.WaitingCall.{WaitingCall}
use Rattle.query_orders.specs.World.{World, start, call_of_client_at, next_client_call, one_more, next_place, is_wait, still_waits, waiting_call, waits_with, with_outcome, with_call, after_call, world_after}
use Rattle.query_orders.specs.Orders.{clients}
use Rattle.query_orders.specs.Answers.{Answered, answered, replied, wait_ended, waits_ended, outcome_answers, call_answers, numbers_from, places_left, end_answers, first_answers}
use Rattle.query_orders.specs.Laws.{told_in, is_to, AnswersEachOnce}
use Rattle.query_orders.proofs.Sums.{sum_by-map, sum_by-flat_map, sum_by-same, count-sum, hits, to_come, one-below}

module _ (i k : ℕ) where
  -- a call weighs 1 where it is the one at place k of client i
  abbrev hit : ℕ → ℕ → ℕ
  hit client place = cond ((client == i) && (place == k)) 1 0

  abbrev weigh : Answered → ℕ
  weigh a = hit a.client a.place

  abbrev weigh_wait : WaitingCall → ℕ
  weigh_wait c = hit c.client c.place

  -- ---- the calls that wait

  one_reply : (order : List ℕ) (client place : ℕ) (reply : Reply) (waits : List WaitingCall) (new : WaitingCall) → new.client ≡ client → new.place ≡ place →
      sum_by weigh (replied order client place reply) + sum_by weigh_wait (cond (is_wait reply) (waits_with waits new) waits) ≡ sum_by weigh_wait waits + hit client place
  one_reply order client place reply waits new c-is p-is =
      let e : weigh_wait new ≡ hit client place = ap (λ c. hit c new.place) c-is ∙ ap (hit client) p-is in
      elim (is_wait reply) as (λ b. sum_by weigh (cond b [] (answered order client place (Replied reply) ∷ [])) + sum_by weigh_wait (cond b (waits_with waits new) waits) ≡ sum_by weigh_wait waits + hit client place) [
        | true ↦ (let a = sum_by-insert weigh_wait waits (unwrap_or (position (λ (call : WaitingCall). nat_lt new.thread call.thread) waits) (length waits)) new in omega (arith, a, e))
        | false ↦ (let a = sum_by-cons weigh (answered order client place (Replied reply)) [] in omega (arith, a))
      ]

  -- what a call tells, and the calls that wait then, weigh as much as those that waited before, and the call
  outcome_weighs : (w : World) (order : List ℕ) (client : ℕ) (call : Call) (o : Outcome) →
      sum_by weigh (outcome_answers w order client o) + sum_by weigh_wait (with_outcome w client call o).waits ≡ sum_by weigh_wait w.waits + hit client (next_place w.made client)
  outcome_weighs w order client call o =
      let v = shown o.state in
      let kept = filter (still_waits v) w.waits in
      let gone = filter (λ call. not (still_waits v call)) w.waits in
      let place = next_place w.made client in
      let new = waiting_call call.thread client place in
      let a = sum_by-append weigh (replied order client place o.reply) (waits_ended order v w.waits o.reply) in
      let m = sum_by-map weigh (λ (call : WaitingCall). answered order call.client call.place (wait_ended o.reply call.thread)) gone in
      let both = sum_by-filter_both (still_waits v) (λ call. not (still_waits v call)) (λ x. refl) weigh_wait w.waits in
      let one = one_reply order client place o.reply kept new refl refl in
      omega (arith, a, m, both, one)

-- ---- the calls that are left

none-hit : {X : Type 0} (f : X → ℕ) → ((x : X) → f x ≡ 0) → (xs : List X) → sum_by f xs ≡ 0
none-hit f h [] = refl
none-hit f h (x ∷ xs) = let a = sum_by-cons f x xs in let z = h x in let r = none-hit f h xs in omega (arith, a, z, r)

get-set_same : (l : List ℕ) (i n k : ℕ) → slice_get l i ≡ Some k → slice_get (slice_set l i n) i ≡ Some n
get-set_same l i n k h =
    let within = slice_get_within l i k h in
    let long = length-set l i n in
    slice_get-get_or (slice_set l i n) i n (omega (arith, within, long)) ∙ ap (λ m. Some m) (get_or-set_same l i n n within)

get-set_other : (l : List ℕ) (i j n k : ℕ) → j ≢ i → slice_get l j ≡ Some k → slice_get (slice_set l i n) j ≡ Some k
get-set_other l i j n k other h =
    let within = slice_get_within l j k h in
    let long = length-set l i n in
    slice_get-get_or (slice_set l i n) j k (omega (arith, within, long)) ∙ ap (λ m. Some m) (get_or-set_other l i j n k other ∙ get_or_from_slice_get l j k k h)

module _ (own : List (List Call)) (i k : ℕ) (calls : List Call) (its_own : slice_get own i ≡ Some calls) where
  abbrev w8 : Answered → ℕ
  w8 = weigh i k

  -- what is left of client i from place n on
  abbrev from : ℕ → ℕ
  from n = sum_by (hits k) (numbers_from n (length calls - n))

  hit-other : (client place : ℕ) → client ≢ i → hit i k client place ≡ 0
  hit-other client place ne = elim (eqb_tells client i) as (λ _. hit i k client place ≡ 0) [
    | inl same ↦ absurd (ne same.1)
    | inr other ↦ ap (λ b. cond (b && (place == k)) 1 0) other.0
  ]

  hit-own : (client place : ℕ) → client ≡ i → hit i k client place ≡ hits k place
  hit-own client place e = elim (eqb_tells client i) as (λ _. hit i k client place ≡ hits k place) [
    | inl same ↦ ap (λ b. cond (b && (place == k)) 1 0) same.0
    | inr other ↦ absurd (other.1 e)
  ]

  abbrev left_of : List ℕ → List ℕ → ℕ → List Answered
  left_of order made client = map (λ place. answered order client place NotMade) (places_left own made client)

  left_weighs : (order made : List ℕ) (n : ℕ) → slice_get made i ≡ Some n → sum_by w8 (flat_map (left_of order made) (clients own)) ≡ from n
  left_weighs order made n h =
      let within = slice_get_within own i calls its_own in
      let flat = sum_by-flat_map w8 (left_of order made) (clients own) in
      let one = one-below (λ client. sum_by w8 (left_of order made client)) i (length own) (λ j ne. sum_by-map w8 (λ place. answered order j place NotMade) (places_left own made j) ∙ none-hit (λ place. hit i k j place) (λ place. hit-other j place ne) (places_left own made j)) within in
      let mapped = sum_by-map w8 (λ place. answered order i place NotMade) (places_left own made i) in
      let same = sum_by-same (λ place. hit i k i place) (hits k) (λ place. hit-own i place refl) (places_left own made i) in
      let is : sum_by (hits k) (places_left own made i) ≡ from n =
      ap (λ (o : Option ℕ). sum_by (hits k) (numbers_from (unwrap_or o 0) (length (unwrap_or (slice_get own i) []) - unwrap_or o 0))) h
      ∙ ap (λ (o : Option (List Call)). sum_by (hits k) (numbers_from n (length (unwrap_or o []) - n))) its_own in
      omega (arith, flat, one, mapped, same, is)

  -- one call more
  one_further : (n : ℕ) → n < length calls → from n ≡ hits k n + from (n + 1)
  one_further n lt =
      let e : length calls - n ≡ suc (length calls - (n + 1)) = omega (arith, lt) in
      ap (λ m. sum_by (hits k) (numbers_from n m)) e ∙ sum_by-cons (hits k) n (numbers_from (n + 1) (length calls - (n + 1)))

  module _ (p : ProfileName) where
    -- what waits and what is left
    abbrev open_of : World → ℕ → ℕ
    open_of w n = sum_by (weigh_wait i k) w.waits + from n

    abbrev Goes : World → World → ℕ → List Answered → Type 0
    Goes w w' n told = (n' : ℕ) × (slice_get w'.made i ≡ Some n') × (sum_by w8 told + open_of w' n' ≡ open_of w n)

    next_is : (w : World) (n : ℕ) → slice_get w.made i ≡ Some n → next_client_call own w.made i ≡ slice_get calls n
    next_is w n h = ap (λ (o : Option ℕ). option_and_then (call_of_client_at own i) o) h ∙ ap (λ (o : Option (List Call)). option_and_then (λ (calls : List Call). slice_get calls n) o) its_own

    one_call : (w : World) (order : List ℕ) (client n : ℕ) (c : Option Call) → next_client_call own w.made client ≡ c → slice_get w.made i ≡ Some n → Goes w (with_call p w client c) n (call_answers p w order client c)
    one_call w order client n None e h = (n, h, omega arith)
    one_call w order client n (Some call) e h =
        let o = step p w.kernel call in
        let weighs = outcome_weighs i k w (order ++ client ∷ []) client call o in
        elim (eqb_tells client i) as (λ _. Goes w (with_call p w client (Some call)) n (call_answers p w order client (Some call))) [
          | inl same ↦ (
              let mine : slice_get calls n ≡ Some call = sym (next_is w n h) ∙ ap (next_client_call own w.made) (sym same.1) ∙ e in
              let lt = slice_get_within calls n call mine in
              let made : slice_get w.made client ≡ Some n = ap (slice_get w.made) same.1 ∙ h in
              let more : slice_get (with_call p w client (Some call)).made i ≡ Some (n + 1) =
              ap (λ (o : Option ℕ). slice_get (one_more client o w.made) i) made ∙ ap (λ j. slice_get (slice_set w.made j (n + 1)) i) same.1 ∙ get-set_same w.made i (n + 1) n h in
              let place : hit i k client (next_place w.made client) ≡ hits k n = ap (λ (o : Option ℕ). hit i k client (unwrap_or o 0)) made ∙ hit-own client n same.1 in
              let further = one_further n lt in
              (n + 1, more, omega (arith, weighs, place, further)))
          | inr other ↦ (
              let none : hit i k client (next_place w.made client) ≡ 0 = hit-other client (next_place w.made client) other.1 in
              (n, kept other.1 (slice_get w.made client), omega (arith, weighs, none)))
        ]
      where
        kept : client ≢ i → (made : Option ℕ) → slice_get (one_more client made w.made) i ≡ Some n
        kept ne None = h
        kept ne (Some m) = get-set_other w.made client i (m + 1) n (λ e. ne (sym e)) h

    all_calls : (order before : List ℕ) (w : World) (n : ℕ) → slice_get w.made i ≡ Some n → Goes w (world_after p own w order) n (first_answers p own w before order)
    all_calls [] before w n h = (n, h, omega arith)
    all_calls (client ∷ order) before w n h =
        let one = one_call w before client n (next_client_call own w.made client) refl h in
        let rest = all_calls order (before ++ client ∷ []) (after_call p own w client) one.0 one.1 in
        let a = sum_by-append w8 (call_answers p w before client (next_client_call own w.made client)) (first_answers p own (after_call p own w client) (before ++ client ∷ []) order) in
        let x = one.2 in
        let y = rest.2 in
        (rest.0, rest.1, omega (arith, a, x, y))

    pub told_once : (w : World) (order : List ℕ) → w.waits ≡ [] → slice_get w.made i ≡ Some 0 → k < length calls → sum_by w8 (told_in p own w order) ≡ 1
    told_once w order none begin lt =
        let all = all_calls order [] w 0 begin in
        let v = world_after p own w order in
        let a = sum_by-append w8 (first_answers p own w [] order) (end_answers own v order) in
        let b = sum_by-append w8 (map (λ (call : WaitingCall). answered order call.client call.place Waits) v.waits) (flat_map (left_of order v.made) (clients own)) in
        let m = sum_by-map w8 (λ (call : WaitingCall). answered order call.client call.place Waits) v.waits in
        let l = left_weighs order v.made all.0 all.1 in
        let x = all.2 in
        let empty : sum_by (weigh_wait i k) w.waits ≡ 0 = ap (λ (ws : List WaitingCall). sum_by (weigh_wait i k) ws) none in
        let one = to_come k (length calls - 0) 0 (omega arith) (omega (arith, lt)) in
        omega (arith, a, b, m, l, x, empty, one)

pub answers_once : (p : ProfileName) (own : List (List Call)) (A : State) (order : List ℕ) → AnswersEachOnce p own A order
answers_once p own A order i k call at = by (slice_get own i) refl at
  where
    by : (o : Option (List Call)) → slice_get own i ≡ o → option_and_then (λ (calls : List Call). slice_get calls k) o ≡ Some call → count_by (is_to i k) (told_in p own (start own A) order) ≡ 1
    by None e h = absurd (let no : None ≡ Some call = h in cc)
    by (Some calls) e h =
        let within = slice_get_within own i calls e in
        let long = length-replicate {A = ℕ} (length own) 0 in
        let begin : slice_get (replicate (length own) 0) i ≡ Some 0 =
        slice_get-get_or (replicate (length own) 0) i 0 (omega (arith, within, long)) ∙ ap (λ n. Some n) (get_or-replicate {A = ℕ} (length own) i 0 0 within) in
        sym (count-sum (is_to i k) (told_in p own (start own A) order)) ∙ told_once own i k calls e p (start own A) order refl begin (slice_get_within calls k call h)
