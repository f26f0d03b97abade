-- What the calls of an order are answered, one by one.
use Rattle.std.proofs.Common.{◌≡◌, ◌≢◌, ◌==◌, ℕ, zero, suc, ◌+◌, ◌<◌, ◌≤◌, cond, List, [], ◌∷◌, ◌++◌, map, filter, length, replicate, Option, None, Some, option_and_then, slice_get, slice_set, unwrap_or, refl, ap, sym, ◌∙◌, append_assoc, append-nil, inl, inr, length-append, arith}
use Rattle.std.proofs.lemmas.List.{map-append, length-replicate, get_or-replicate, length-set, get_or-set_same, get_or-set_other}
use Rattle.std.proofs.lemmas.List.Elements.{filter-append}
use Rattle.std.proofs.lemmas.Option.{slice_get-get_or, slice_get_within, slice_get_past, get_or_from_slice_get, none-some}
use Rattle.std.proofs.lemmas.Bool.Decides.{eqb_tells}
use Rattle.cap_core.specs.declared.profile.ProfileName.{ProfileName}
use Rattle.kernel_abstract.specs.declared.call.Call.{Call}
use Rattle.kernel_abstract.specs.declared.call.Reply.{Reply}
use Rattle.kernel_abstract.specs.State.{State}
use Rattle.kernel_abstract.specs.Step.{step, replies_of, state_after}
use Rattle.query_orders.specs.World.{World, start, call_of_client_at, next_client_call, one_more, next_place, with_call, after_call, world_after}
use Rattle.query_orders.specs.Laws.{made_by, calls_of_orders}

-- of things with their clients, those of one client
abbrev pub of_client : {X : Type 0} → ℕ → List (ℕ × X) → List X
of_client {X} client xs = map (λ (x : ℕ × X). x.1) (filter (λ (x : ℕ × X). x.0 == client) xs)

pub of_client-append : {X : Type 0} (i : ℕ) (xs ys : List (ℕ × X)) → of_client i (xs ++ ys) ≡ of_client i xs ++ of_client i ys
of_client-append {X} i xs ys =
    ap (map (λ (x : ℕ × X). x.1)) (filter-append (λ (x : ℕ × X). x.0 == i) xs ys)
    ∙ map-append (λ (x : ℕ × X). x.1) (filter (λ (x : ℕ × X). x.0 == i) xs) (filter (λ (x : ℕ × X). x.0 == i) ys)

get-set_same : (l : List ℕ) (i n k : ℕ) → slice_get l i ≡ Some k → slice_get (slice_set l i n) i ≡ Some n
get-set_same l i n k h =
    let within = slice_get_within l i k h in
    let long = length-set l i n in
    slice_get-get_or (slice_set l i n) i n (omega (arith, within, long)) ∙ ap (λ m. Some m) (get_or-set_same l i n n within)

get-set_other : (l : List ℕ) (i j n k : ℕ) → j ≢ i → slice_get l j ≡ Some k → slice_get (slice_set l i n) j ≡ Some k
get-set_other l i j n k other h =
    let within = slice_get_within l j k h in
    let long = length-set l i n in
    slice_get-get_or (slice_set l i n) j k (omega (arith, within, long)) ∙ ap (λ m. Some m) (get_or-set_other l i j n k other ∙ get_or_from_slice_get l j k k h)

pub get_front : {X : Type 0} (xs ys : List X) (k : ℕ) (x : X) → slice_get xs k ≡ Some x → slice_get (xs ++ ys) k ≡ Some x
get_front [] ys k x h = absurd (none-some x h)
get_front (z ∷ xs) ys zero x h = h
get_front (z ∷ xs) ys (suc k) x h = get_front xs ys k x h

pub get_last : {X : Type 0} (xs : List X) (x : X) (k : ℕ) → k ≡ length xs → slice_get (xs ++ x ∷ []) k ≡ Some x
get_last [] x zero e = refl
get_last [] x (suc k) e = absurd (omega (arith, e))
get_last (z ∷ xs) x zero e = absurd (omega (arith, e))
get_last (z ∷ xs) x (suc k) e = get_last xs x k (omega (arith, e))

module _ (p : ProfileName) (own : List (List Call)) where
  -- what a call is answered, where there is one
  abbrev pub one_reply : State → ℕ → Option Call → List (ℕ × Reply)
  one_reply A client None = []
  one_reply A client (Some call) = (client, (step p A call).reply) ∷ []

  -- what the calls of an order are answered, each with its client
  abbrev pub replies_made : World → List ℕ → List (ℕ × Reply)
  replies_made w [] = []
  replies_made w (client ∷ order) = one_reply w.kernel client (next_client_call own w.made client) ++ replies_made (after_call p own w client) order

  abbrev made_calls : World → List ℕ → List Call
  made_calls w order = map (λ (c : ℕ × Call). c.1) (calls_of_orders p own w order)

  pub replies_run : (w : World) (order : List ℕ) → replies_of p w.kernel (made_calls w order) ≡ map (λ (r : ℕ × Reply). r.1) (replies_made w order)
  unfolding replies_of
  replies_run w [] = refl
  replies_run w (client ∷ order) =
      elim (next_client_call own w.made client) as (λ c. replies_of p w.kernel (map (λ (c : ℕ × Call). c.1) (made_by client c ++ calls_of_orders p own (with_call p w client c) order))
      ≡ map (λ (r : ℕ × Reply). r.1) (one_reply w.kernel client c ++ replies_made (with_call p w client c) order)) [
        | None ↦ replies_run w order
        | Some call ↦ ap (λ l. (step p w.kernel call).reply ∷ l) (replies_run (with_call p w client (Some call)) order)
      ]

  pub state_run : (w : World) (order : List ℕ) → state_after p w.kernel (made_calls w order) ≡ (world_after p own w order).kernel
  unfolding state_after
  state_run w [] = refl
  state_run w (client ∷ order) =
      elim (next_client_call own w.made client) as (λ c. state_after p w.kernel (map (λ (c : ℕ × Call). c.1) (made_by client c ++ calls_of_orders p own (with_call p w client c) order))
      ≡ (world_after p own (with_call p w client c) order).kernel) [
        | None ↦ state_run w order
        | Some call ↦ state_run (with_call p w client (Some call)) order
      ]

  pub same_clients : (w : World) (order : List ℕ) → map (λ (c : ℕ × Call). c.0) (calls_of_orders p own w order) ≡ map (λ (r : ℕ × Reply). r.0) (replies_made w order)
  same_clients w [] = refl
  same_clients w (client ∷ order) =
      elim (next_client_call own w.made client) as (λ c. map (λ (c : ℕ × Call). c.0) (made_by client c ++ calls_of_orders p own (with_call p w client c) order)
      ≡ map (λ (r : ℕ × Reply). r.0) (one_reply w.kernel client c ++ replies_made (with_call p w client c) order)) [
        | None ↦ same_clients w order
        | Some call ↦ ap (λ l. client ∷ l) (same_clients (with_call p w client (Some call)) order)
      ]

  pub after_last : (w : World) (order : List ℕ) (client : ℕ) → world_after p own w (order ++ client ∷ []) ≡ after_call p own (world_after p own w order) client
  after_last w [] client = refl
  after_last w (c ∷ order) client = after_last (after_call p own w c) order client

  pub replies_last : (w : World) (order : List ℕ) (client : ℕ) → replies_made w (order ++ client ∷ [])
      ≡ replies_made w order ++ one_reply (world_after p own w order).kernel client (next_client_call own (world_after p own w order).made client)
  replies_last w [] client = append-nil (one_reply w.kernel client (next_client_call own w.made client))
  replies_last w (c ∷ order) client =
      ap (λ l. one_reply w.kernel c (next_client_call own w.made c) ++ l) (replies_last (after_call p own w c) order client)
      ∙ sym (append_assoc (one_reply w.kernel c (next_client_call own w.made c)) (replies_made (after_call p own w c) order) _)

  -- ---- how many calls each client has made

  one_length : (w : World) (client : ℕ) (c : Option Call) → length (with_call p w client c).made ≡ length w.made
  one_length w client None = refl
  one_length w client (Some call) = elim (slice_get w.made client) as (λ o. length (one_more client o w.made) ≡ length w.made) [ None ↦ refl | Some n ↦ length-set w.made client (n + 1) ]

  pub made_length : (w : World) (order : List ℕ) → length (world_after p own w order).made ≡ length w.made
  made_length w [] = refl
  made_length w (client ∷ order) = made_length (after_call p own w client) order ∙ one_length w client (next_client_call own w.made client)

  one_made : (w : World) (client i k : ℕ) (c : Option Call) → slice_get w.made i ≡ Some k
      → slice_get (with_call p w client c).made i ≡ Some (k + length (of_client i (one_reply w.kernel client c)))
  one_made w client i k None h = let e : k ≡ k + 0 = omega arith in h ∙ ap (λ n. Some n) e
  one_made w client i k (Some call) h = elim (eqb_tells client i) as (λ _. slice_get (one_more client (slice_get w.made client) w.made) i ≡ Some (k + length (of_client i ((client, (step p w.kernel call).reply) ∷ [])))) [
    | inl same ↦
        ap (λ (o : Option ℕ). slice_get (one_more client o w.made) i) (ap (slice_get w.made) same.1 ∙ h)
        ∙ (ap (λ j. slice_get (slice_set w.made j (k + 1)) i) same.1 ∙ (get-set_same w.made i (k + 1) k h
        ∙ ap (λ b. Some (k + length (map (λ (x : ℕ × Reply). x.1) (cond b ((client, (step p w.kernel call).reply) ∷ []) [])))) (sym same.0)))
    | inr other ↦
        let e : k ≡ k + 0 = omega arith in
        kept other.1 (slice_get w.made client)
        ∙ (ap (λ n. Some n) e ∙ ap (λ b. Some (k + length (map (λ (x : ℕ × Reply). x.1) (cond b ((client, (step p w.kernel call).reply) ∷ []) [])))) (sym other.0))
  ]
    where
      kept : client ≢ i → (o : Option ℕ) → slice_get (one_more client o w.made) i ≡ Some k
      kept ne None = h
      kept ne (Some n) = get-set_other w.made client i (n + 1) k (λ e. ne (sym e)) h

  pub made_is : (w : World) (order : List ℕ) (i k : ℕ) → slice_get w.made i ≡ Some k
      → slice_get (world_after p own w order).made i ≡ Some (k + length (of_client i (replies_made w order)))
  made_is w [] i k h = let e : k ≡ k + 0 = omega arith in h ∙ ap (λ n. Some n) e
  made_is w (client ∷ order) i k h =
      let c = next_client_call own w.made client in
      let one = one_reply w.kernel client c in
      let rest = replies_made (after_call p own w client) order in
      let both : length (of_client i (one ++ rest)) ≡ length (of_client i one) + length (of_client i rest) =
      ap length (of_client-append i one rest) ∙ length-append (of_client i one) (of_client i rest) in
      let all : k + length (of_client i one) + length (of_client i rest) ≡ k + length (of_client i (one ++ rest)) = omega (arith, both) in
      made_is (after_call p own w client) order i (k + length (of_client i one)) (one_made w client i k c h) ∙ ap (λ n. Some n) all

  module _ (A : State) where
    -- the world behind an order, from the start on, and what its calls are answered
    abbrev pub behind : List ℕ → World
    behind order = world_after p own (start own A) order

    abbrev pub answers : List ℕ → List (ℕ × Reply)
    answers order = replies_made (start own A) order

    start_made : (i : ℕ) → i < length own → slice_get (start own A).made i ≡ Some 0
    start_made i lt =
        let long = length-replicate {A = ℕ} (length own) 0 in
        slice_get-get_or (replicate (length own) 0) i 0 (omega (arith, lt, long)) ∙ ap (λ n. Some n) (get_or-replicate {A = ℕ} (length own) i 0 0 lt)

    pub made_of : (order : List ℕ) (i : ℕ) → i < length own → slice_get (behind order).made i ≡ Some (length (of_client i (answers order)))
    made_of order i lt =
        let e : 0 + length (of_client i (answers order)) ≡ length (of_client i (answers order)) = omega arith in
        made_is (start own A) order i 0 (start_made i lt) ∙ ap (λ n. Some n) e

    pub made_past : (order : List ℕ) (i : ℕ) → length own ≤ i → slice_get (behind order).made i ≡ None
    made_past order i le =
        let long = made_length (start own A) order in
        let first = length-replicate {A = ℕ} (length own) 0 in
        slice_get_past (behind order).made i (omega (arith, le, long, first))

    -- a client that has a next call is one
    pub caller : (made : List ℕ) (client : ℕ) (call : Call) → next_client_call own made client ≡ Some call → client < length own
    caller made client call e = by (slice_get made client) e
      where
        by : (o : Option ℕ) → option_and_then (call_of_client_at own client) o ≡ Some call → client < length own
        by None h = absurd (none-some call h)
        by (Some n) h = within (slice_get own client) refl h
          where
            within : (o : Option (List Call)) → slice_get own client ≡ o → option_and_then (λ (calls : List Call). slice_get calls n) o ≡ Some call → client < length own
            within None f h = absurd (none-some call h)
            within (Some calls) f h = slice_get_within own client calls f

    -- its place is how many of its calls are answered
    pub place_is : (order : List ℕ) (client : ℕ) (call : Call) → next_client_call own (behind order).made client ≡ Some call
        → (next_place (behind order).made client ≡ length (of_client client (answers order))) × (call_of_client_at own client (length (of_client client (answers order))) ≡ Some call)
    place_is order client call e =
        let made = made_of order client (caller (behind order).made client call e) in
        (ap (λ (o : Option ℕ). unwrap_or o 0) made, sym (ap (λ (o : Option ℕ). option_and_then (call_of_client_at own client) o) made) ∙ e)
