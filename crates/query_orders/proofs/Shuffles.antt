-- Where no calls are left, the calls of each client are its own.
use Rattle.std.proofs.Common.{◌≡◌, ◌≢◌, ◌==◌, ◌||◌, ℕ, suc, ◌<◌, ◌≤◌, ◌+◌, Bool, true, false, cond, List, [], ◌∷◌, ◌++◌, map, filter, length, drop, replicate, Option, None, Some, is_some, option_and_then, slice_get, slice_set, refl, ap, sym, ◌∙◌, append_assoc, append-nil, inl, inr, add-one, arith}
use Rattle.std.proofs.Math.Seq.{drop-cons}
use Rattle.std.proofs.lemmas.List.{map-append, drop_all, get_or-set_same, get_or-set_other, get_or-replicate, length-replicate, length-set}
use Rattle.std.proofs.lemmas.List.Elements.{filter-append}
use Rattle.std.proofs.lemmas.Option.{slice_get_cases, slice_get_within, slice_get-get_or, get_or_from_slice_get}
use Rattle.std.proofs.lemmas.Bool.Decides.{eqb_tells}
use Rattle.std.specs.List.{list_any, Contains}
use Rattle.cap_core.specs.declared.profile.ProfileName.{ProfileName}
use Rattle.kernel_abstract.specs.declared.call.Call.{Call}
use Rattle.kernel_abstract.specs.State.{State}
use Rattle.query_orders.specs.World.{World, start, call_of_client_at, next_client_call, one_more, with_call, after_call, world_after}
use Rattle.query_orders.specs.Orders.{clients, has_calls_left}
use Rattle.query_orders.specs.Laws.{made_by, calls_of_orders, calls_of, IsShuffle}
use Rattle.query_orders.proofs.Contained.{contains-below, contains-cases}

get-set_same : (l : List ℕ) (i n k : ℕ) → slice_get l i ≡ Some k → slice_get (slice_set l i n) i ≡ Some n
get-set_same l i n k h =
    let within = slice_get_within l i k h in
    let long = length-set l i n in
    slice_get-get_or (slice_set l i n) i n (omega (arith, within, long)) ∙ ap (λ m. Some m) (get_or-set_same l i n n within)

get-set_other : (l : List ℕ) (i j n k : ℕ) → j ≢ i → slice_get l j ≡ Some k → slice_get (slice_set l i n) j ≡ Some k
get-set_other l i j n k other h =
    let within = slice_get_within l j k h in
    let long = length-set l i n in
    slice_get-get_or (slice_set l i n) j k (omega (arith, within, long)) ∙ ap (λ m. Some m) (get_or-set_other l i j n k other ∙ get_or_from_slice_get l j k k h)

calls_of-append : (i : ℕ) (xs ys : List (ℕ × Call)) → calls_of i (xs ++ ys) ≡ calls_of i xs ++ calls_of i ys
calls_of-append i xs ys =
    ap (map (λ (call : ℕ × Call). call.1)) (filter-append (λ (call : ℕ × Call). call.0 == i) xs ys)
    ∙ map-append (λ (call : ℕ × Call). call.1) (filter (λ (call : ℕ × Call). call.0 == i) xs) (filter (λ (call : ℕ × Call). call.0 == i) ys)

module _ (p : ProfileName) (own : List (List Call)) (i : ℕ) (calls : List Call) (its_own : slice_get own i ≡ Some calls) where
  next_is : (w : World) (k : ℕ) → slice_get w.made i ≡ Some k → next_client_call own w.made i ≡ slice_get calls k
  next_is w k h = ap (λ (o : Option ℕ). option_and_then (call_of_client_at own i) o) h ∙ ap (λ (o : Option (List Call)). option_and_then (λ (calls : List Call). slice_get calls k) o) its_own

  -- the calls from some place on are those that are made, and those from a later place on
  abbrev Goes : World → ℕ → List (ℕ × Call) → Type 0
  Goes w k made = (k' : ℕ) × (slice_get w.made i ≡ Some k') × (drop k calls ≡ calls_of i made ++ drop k' calls)

  one_call : (w : World) (client k : ℕ) (c : Option Call) → next_client_call own w.made client ≡ c → slice_get w.made i ≡ Some k → Goes (with_call p w client c) k (made_by client c)
  one_call w client k None e h = (k, h, refl)
  one_call w client k (Some call) e h = elim (eqb_tells client i) as (λ _. Goes (with_call p w client (Some call)) k (made_by client (Some call))) [
    | inl same ↦ (
        let mine : slice_get calls k ≡ Some call = sym (next_is w k h) ∙ ap (next_client_call own w.made) (sym same.1) ∙ e in
        let made : slice_get w.made client ≡ Some k = ap (slice_get w.made) same.1 ∙ h in
        let more : slice_get (with_call p w client (Some call)).made i ≡ Some (k + 1) =
        ap (λ (o : Option ℕ). slice_get (one_more client o w.made) i) made ∙ ap (λ j. slice_get (slice_set w.made j (k + 1)) i) same.1 ∙ get-set_same w.made i (k + 1) k h in
        let front : drop k calls ≡ call ∷ drop (k + 1) calls =
        drop-cons calls k call (slice_get_within calls k call mine) ∙ ap (λ x. x ∷ drop (suc k) calls) (get_or_from_slice_get calls k call call mine) ∙ ap (λ j. call ∷ drop j calls) (sym (add-one k)) in
        (k + 1, more, front ∙ ap (λ b. map (λ (call : ℕ × Call). call.1) (cond b ((client, call) ∷ []) []) ++ drop (k + 1) calls) (sym same.0)))
    | inr other ↦ (k, kept other.1 (slice_get w.made client), ap (λ b. map (λ (call : ℕ × Call). call.1) (cond b ((client, call) ∷ []) []) ++ drop k calls) (sym other.0))
  ]
    where
      kept : client ≢ i → (made : Option ℕ) → slice_get (one_more client made w.made) i ≡ Some k
      kept ne None = h
      kept ne (Some n) = get-set_other w.made client i (n + 1) k (λ e. ne (sym e)) h

  all_calls : (order : List ℕ) (w : World) (k : ℕ) → slice_get w.made i ≡ Some k → Goes (world_after p own w order) k (calls_of_orders p own w order)
  all_calls [] w k h = (k, h, refl)
  all_calls (client ∷ order) w k h =
      let one = one_call w client k (next_client_call own w.made client) refl h in
      let rest = all_calls order (after_call p own w client) one.0 one.1 in
      let made = made_by client (next_client_call own w.made client) in
      let later = calls_of_orders p own (after_call p own w client) order in (
        rest.0,
        rest.1,
        one.2 ∙ ap (λ l. calls_of i made ++ l) rest.2 ∙ sym (append_assoc (calls_of i made) (calls_of i later) (drop rest.0 calls)) ∙ ap (λ l. l ++ drop rest.0 calls) (sym (calls_of-append i made later)),
      )

  none_left : (w : World) → has_calls_left own w ≡ false → is_some (next_client_call own w.made i) ≡ false
  none_left w h = passes (clients own) (contains-below (length own) i (slice_get_within own i calls its_own)) h
    where
      passes : (ns : List ℕ) → Contains ns i → list_any (λ client. is_some (next_client_call own w.made client)) ns ≡ false → is_some (next_client_call own w.made i) ≡ false
      passes [] m k = absurd (let lt : m.0 < 0 = m.1 in omega (arith, lt))
      passes (n ∷ ns) m k =
          let parts = or_false (is_some (next_client_call own w.made n)) (list_any (λ client. is_some (next_client_call own w.made client)) ns) k in
          elim (contains-cases n ns i m) as (λ _. is_some (next_client_call own w.made i) ≡ false) [
            | inl e ↦ ap (λ j. is_some (next_client_call own w.made j)) (sym e) ∙ parts.0
            | inr more ↦ passes ns more parts.1
          ]
        where
          or_false : (s t : Bool) → (s || t) ≡ false → (s ≡ false) × (t ≡ false)
          or_false true t h = cc
          or_false false t h = (refl, h)

  past_end : (k : ℕ) → is_some (slice_get calls k) ≡ false → length calls ≤ k
  past_end k h = elim ((slice_get_cases calls k).1) as (λ _. length calls ≤ k) [
    | inl found ↦ absurd (let no : true ≡ false = sym (ap (λ (o : Option Call). is_some o) found.2) ∙ h in cc)
    | inr none ↦ none.0
  ]

  pub shuffled : (w : World) (order : List ℕ) → slice_get w.made i ≡ Some 0 → has_calls_left own (world_after p own w order) ≡ false → calls_of i (calls_of_orders p own w order) ≡ calls
  shuffled w order h none =
      let r = all_calls order w 0 h in
      let v = world_after p own w order in
      let end : length calls ≤ r.0 = past_end r.0 (sym (ap (λ (o : Option Call). is_some o) (next_is v r.0 r.1)) ∙ none_left v none) in
      sym (append-nil (calls_of i (calls_of_orders p own w order))) ∙ ap (λ l. calls_of i (calls_of_orders p own w order) ++ l) (sym (drop_all r.0 calls end)) ∙ sym r.2

pub complete_shuffles : (p : ProfileName) (own : List (List Call)) (A : State) (order : List ℕ) → IsShuffle p own A order
complete_shuffles p own A order none client calls its_own =
    let within = slice_get_within own client calls its_own in
    let long = length-replicate {A = ℕ} (length own) 0 in
    let begin : slice_get (replicate (length own) 0) client ≡ Some 0 =
    slice_get-get_or (replicate (length own) 0) client 0 (omega (arith, within, long)) ∙ ap (λ n. Some n) (get_or-replicate {A = ℕ} (length own) client 0 0 within) in
    shuffled p own client calls its_own (start own A) order begin none
