-- No order has more calls than the clients have.
use Rattle.std.proofs.Common.{◌≡◌, ◌≢◌, ℕ, zero, suc, ◌+◌, ◌-◌, ◌<◌, ◌≤◌, true, false, List, [], ◌∷◌, ◌++◌, length, replicate, take, Option, None, Some, option_and_then, slice_get, slice_set, unwrap_or, get_or, add-one, length-append, refl, ap, sym, subst, ◌∙◌, inl, inr, arith}
use Rattle.std.specs.List.{sum_by, AllByRecursion as Each}
use Rattle.std.proofs.lemmas.List.{take_all, get_or-set_same, get_or-set_other, get_or-replicate, length-replicate, length-set}
use Rattle.std.proofs.lemmas.List.Sums.{sum_by_push, sum_by_more}
use Rattle.std.proofs.lemmas.Option.{slice_get_cases, slice_get_within, slice_get-get_or, get_or_from_slice_get}
use Rattle.std.proofs.lemmas.Bool.Decides.{eqb_tells}
use Rattle.cap_core.specs.declared.profile.ProfileName.{ProfileName}
use Rattle.kernel_abstract.specs.declared.call.Call.{Call}
use Rattle.kernel_abstract.specs.State.{State, shown}
use Rattle.query_orders.specs.World.{World, start, call_of_client_at, next_client_call, one_more, next_place, can_be_made, may_call, with_call, after_call, world_after}
use Rattle.query_orders.specs.Orders.{numbers_below, clients, longer, orders}
use Rattle.query_orders.specs.Laws.{made_by, calls_of_orders}
use Rattle.query_orders.proofs.Contained.{each-flat_map, each-filter_map}

-- ---- sums over the clients

same-below : (f g : ℕ → ℕ) (n : ℕ) → ((j : ℕ) → j < n → f j ≡ g j) → sum_by f (numbers_below n) ≡ sum_by g (numbers_below n)
same-below f g zero h = refl
same-below f g (suc n) h =
    let a = sum_by_push f (numbers_below n) n in
    let b = sum_by_push g (numbers_below n) n in
    let r = same-below f g n (λ j lt. h j (omega (arith, lt))) in
    let e = h n (omega arith) in
    omega (arith, a, b, r, e)

one-less : (f g : ℕ → ℕ) (c n : ℕ) → c < n → f c ≡ g c + 1 → ((j : ℕ) → j ≢ c → f j ≡ g j) → sum_by f (numbers_below n) ≡ sum_by g (numbers_below n) + 1
one-less f g c zero lt e h = absurd (omega (arith, lt))
one-less f g c (suc n) lt e h =
    let a = sum_by_push f (numbers_below n) n in
    let b = sum_by_push g (numbers_below n) n in
    elim (eqb_tells n c) as (λ _. sum_by f (numbers_below n ++ n ∷ []) ≡ sum_by g (numbers_below n ++ n ∷ []) + 1) [
      | inl same ↦ (
          let at : f n ≡ g n + 1 = ap f same.1 ∙ e ∙ ap (λ j. g j + 1) (sym same.1) in
          let is = same.1 in
          let r = same-below f g n (λ j less. h j (λ q. omega (arith, q, is, less))) in
          omega (arith, a, b, r, at))
      | inr other ↦ (
          let ne : n ≢ c = other.1 in
          let r = one-less f g c n (omega (arith, lt, ne)) e h in
          let at = h n ne in
          omega (arith, a, b, r, at))
    ]

get-set_same : (l : List ℕ) (i n k : ℕ) → slice_get l i ≡ Some k → slice_get (slice_set l i n) i ≡ Some n
get-set_same l i n k h =
    let within = slice_get_within l i k h in
    let long = length-set l i n in
    slice_get-get_or (slice_set l i n) i n (omega (arith, within, long)) ∙ ap (λ m. Some m) (get_or-set_same l i n n within)

-- a place of a list that was not set, there or not
get-set_apart : (l : List ℕ) (i j n : ℕ) → j ≢ i → slice_get (slice_set l i n) j ≡ slice_get l j
get-set_apart l i j n other = by (slice_get l j) refl
  where
    by : (o : Option ℕ) → slice_get l j ≡ o → slice_get (slice_set l i n) j ≡ slice_get l j
    by (Some k) h =
        let within = slice_get_within l j k h in
        let long = length-set l i n in
        slice_get-get_or (slice_set l i n) j k (omega (arith, within, long)) ∙ ap (λ m. Some m) (get_or-set_other l i j n k other ∙ get_or_from_slice_get l j k k h) ∙ sym h
    by None h = past (slice_get (slice_set l i n) j) refl
      where
        past : (o : Option ℕ) → slice_get (slice_set l i n) j ≡ o → slice_get (slice_set l i n) j ≡ slice_get l j
        past None e = e ∙ sym h
        past (Some m) e =
            let within = slice_get_within (slice_set l i n) j m e in
            let long = length-set l i n in
            elim ((slice_get_cases l j).1) as (λ _. slice_get (slice_set l i n) j ≡ slice_get l j) [
              | inl found ↦ absurd (let no : ◌≡◌ {A = Option ℕ} None (Some _) = sym h ∙ found.2 in cc)
              | inr none ↦ absurd (let le = none.0 in omega (arith, within, long, le))
            ]

module _ (own : List (List Call)) where
  -- how many calls a client has left
  abbrev left_of : List ℕ → ℕ → ℕ
  left_of made client = length (unwrap_or (slice_get own client) []) - next_place made client

  abbrev left : List ℕ → ℕ
  left made = sum_by (left_of made) (clients own)

  next_within : (made : List ℕ) (client : ℕ) (call : Call) (m : Option ℕ) → slice_get made client ≡ m → option_and_then (call_of_client_at own client) m ≡ Some call →
      (n : ℕ) × (slice_get made client ≡ Some n) × (call_of_client_at own client n ≡ Some call)
  next_within made client call None e h = absurd (let no : ◌≡◌ {A = Option Call} None (Some call) = h in cc)
  next_within made client call (Some n) e h = (n, e, h)

  own_within : (client n : ℕ) (call : Call) (o : Option (List Call)) → slice_get own client ≡ o → option_and_then (λ (calls : List Call). slice_get calls n) o ≡ Some call →
      (client < length own) × (n < length (unwrap_or (slice_get own client) []))
  own_within client n call None e h = absurd (let no : ◌≡◌ {A = Option Call} None (Some call) = h in cc)
  own_within client n call (Some calls) e h =
      (slice_get_within own client calls e, subst (λ (o : Option (List Call)). n < length (unwrap_or o [])) (sym e) (slice_get_within calls n call h))

  one_used : (made : List ℕ) (client : ℕ) (call : Call) → next_client_call own made client ≡ Some call → left made ≡ left (one_more client (slice_get made client) made) + 1
  one_used made client call h =
      let r = next_within made client call (slice_get made client) refl h in
      let s = own_within client r.0 call (slice_get own client) refl r.2 in
      let made' = slice_set made client (r.0 + 1) in
      let is : one_more client (slice_get made client) made ≡ made' = ap (λ (o : Option ℕ). one_more client o made) r.1 in
      let place : next_place made client ≡ r.0 = ap (λ (o : Option ℕ). unwrap_or o 0) r.1 in
      let place' : next_place made' client ≡ r.0 + 1 = ap (λ (o : Option ℕ). unwrap_or o 0) (get-set_same made client (r.0 + 1) r.0 r.1) in
      let lt = s.1 in
      let at : left_of made client ≡ left_of made' client + 1 = omega (arith, place, place', lt) in
      one-less (left_of made) (left_of made') client (length own) s.0 at (λ j ne. ap (λ (o : Option ℕ). length (unwrap_or (slice_get own j) []) - unwrap_or o 0) (sym (get-set_apart made client j (r.0 + 1) ne)))
      ∙ ap (λ (l : List ℕ). left l + 1) (sym is)

  module _ (p : ProfileName) where
    may_used : (w : World) (client : ℕ) (c : Option Call) → next_client_call own w.made client ≡ c → can_be_made (shown w.kernel) c ≡ true → left w.made ≡ left (with_call p w client c).made + 1
    may_used w client None e h = absurd (let no : false ≡ true = h in cc)
    may_used w client (Some call) e h = one_used w.made client call e

    no_more : (w : World) (client : ℕ) (c : Option Call) → next_client_call own w.made client ≡ c → left (with_call p w client c).made ≤ left w.made
    no_more w client None e = omega arith
    no_more w client (Some call) e = let u = one_used w.made client call e in omega (arith, u)

    never_more : (order : List ℕ) (w : World) → left (world_after p own w order).made ≤ left w.made
    never_more [] w = omega arith
    never_more (client ∷ order) w =
        let a = no_more w client (next_client_call own w.made client) refl in
        let b = never_more order (after_call p own w client) in
        omega (arith, a, b)

    -- each call that is made is one that was left
    one_made : (w : World) (client : ℕ) (c : Option Call) → next_client_call own w.made client ≡ c → left (with_call p w client c).made + length (made_by client c) ≡ left w.made
    one_made w client None e = omega arith
    one_made w client (Some call) e = let u = one_used w.made client call e in omega (arith, u)

    calls_used : (order : List ℕ) (w : World) → left (world_after p own w order).made + length (calls_of_orders p own w order) ≡ left w.made
    calls_used [] w = omega arith
    calls_used (client ∷ order) w =
        let c = next_client_call own w.made client in
        let one = one_made w client c refl in
        let rest = calls_used order (after_call p own w client) in
        let both = length-append (made_by client c) (calls_of_orders p own (after_call p own w client) order) in
        omega (arith, one, rest, both)

    after_last : (order : List ℕ) (client : ℕ) (w : World) → world_after p own w (order ++ client ∷ []) ≡ after_call p own (world_after p own w order) client
    after_last [] client w = refl
    after_last (c ∷ order) client w = after_last order client (after_call p own w c)

    abbrev Used : World → List ℕ → ℕ → List ℕ → Type 0
    Used w first n order = left (world_after p own w order).made + n ≡ left (world_after p own w first).made

    orders_used : (w : World) (first : List ℕ) (n : ℕ) → Each (Used w first n) (orders p own w first n)
    orders_used w first zero = (omega arith, tt)
    orders_used w first (suc n) =
        each-flat_map (Used w first n) (Used w first (suc n)) (longer p own w)
        (λ order u. each-filter_map (may_call own (world_after p own w order)) (Used w first (suc n)) (λ client. order ++ client ∷ [])
        (λ client may. (
        let v = world_after p own w order in
        let one = may_used v client (next_client_call own v.made client) refl may in
        let last : left (world_after p own w (order ++ client ∷ [])).made ≡ left (after_call p own v client).made = ap (λ (x : World). left x.made) (after_last order client w) in
        omega (arith, u, one, last)))
        (clients own))
        (orders p own w first n) (orders_used w first n)

    pub no_longer : (w : World) (first : List ℕ) (n : ℕ) → left w.made < n → orders p own w first n ≡ []
    no_longer w first n lt = by (orders p own w first n) (orders_used w first n)
      where
        by : (l : List (List ℕ)) → Each (Used w first n) l → l ≡ []
        by [] h = refl
        by (order ∷ l) h = absurd (let a = h.0 in let b = never_more first w in omega (arith, a, b, lt))

  -- none is made at first
  abbrev fresh : List ℕ
  fresh = replicate (length own) 0

  fresh-left : (j : ℕ) → j < length own → left_of fresh j ≡ length (get_or own j [])
  fresh-left j lt =
      let long = length-replicate {A = ℕ} (length own) 0 in
      let none : slice_get fresh j ≡ Some 0 = slice_get-get_or fresh j 0 (omega (arith, lt, long)) ∙ ap (λ n. Some n) (get_or-replicate {A = ℕ} (length own) j 0 0 lt) in
      let zero-place : next_place fresh j ≡ 0 = ap (λ (o : Option ℕ). unwrap_or o 0) none in
      let its : length (unwrap_or (slice_get own j) []) ≡ length (get_or own j []) = ap (λ (o : Option (List Call)). length (unwrap_or o [])) (slice_get-get_or own j [] lt) in
      omega (arith, zero-place, its)

  fresh-front : (n : ℕ) → n ≤ length own → sum_by (left_of fresh) (numbers_below n) ≡ sum_by length (take n own)
  fresh-front zero le = refl
  fresh-front (suc n) le =
      let a = sum_by_push (left_of fresh) (numbers_below n) n in
      let b = sum_by_more length own n [] (omega (arith, le)) in
      let i = fresh-front n (omega (arith, le)) in
      let e = fresh-left n (omega (arith, le)) in
      let s : sum_by length (take (suc n) own) ≡ sum_by length (take (n + 1) own) = ap (λ m. sum_by length (take m own)) (sym (add-one n)) in
      omega (arith, a, b, i, e, s)

  pub left_at_first : left fresh ≡ sum_by length own
  left_at_first = fresh-front (length own) (omega arith) ∙ ap (λ (l : List (List Call)). sum_by length l) (take_all (length own) own (omega arith))

-- no order from the start on has more calls than the clients have
pub no_order_is_longer : (p : ProfileName) (own : List (List Call)) (A : State) (first : List ℕ) (n : ℕ) → sum_by length own < n → orders p own (start own A) first n ≡ []
no_order_is_longer p own A first n lt = let e = left_at_first own in no_longer own p (start own A) first n (omega (arith, e, lt))

-- no order from the start on makes more calls than the clients have
pub no_more_calls : (p : ProfileName) (own : List (List Call)) (A : State) (order : List ℕ) → length (calls_of_orders p own (start own A) order) ≤ sum_by length own
no_more_calls p own A order = let e = left_at_first own in let u = calls_used own p order (start own A) in omega (arith, e, u)
