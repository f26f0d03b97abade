-- A group's clients by themselves: what calls they have, and that the first calls come to the same.
use Rattle.std.proofs.Common.{◌≡◌, ◌≢◌, ℕ, zero, suc, ◌+◌, ◌<◌, ◌≤◌, Bool, true, false, cond, List, [], ◌∷◌, ◌++◌, length, take, replicate, Option, None, Some, option_and_then, option_map, slice_get, slice_set, unwrap_or, refl, ap, sym, ◌∙◌, inl, inr, length-append, arith}
use Rattle.std.proofs.lemmas.List.{length-map}
use Rattle.std.proofs.lemmas.Option.{slice_get_past, slice_get-map, slice_get-get_or}
use Rattle.std.proofs.lemmas.Bool.Decides.{eqb_tells, leb_tells}
use Rattle.cap_core.specs.declared.profile.ProfileName.{ProfileName}
use Rattle.kernel_abstract.specs.declared.call.Call.{Call}
use Rattle.kernel_abstract.specs.State.{State}
use Rattle.query_orders.specs.World.{World, start, call_of_client_at, next_client_call, one_more, next_place, with_call, after_call, world_after}
use Rattle.query_orders.specs.Orders.{numbers_below, clients}
use Rattle.query_orders.specs.Groups.{calls_left_in, alone}
use Rattle.query_orders.specs.Apart.{BeginsAlike}
use Rattle.query_orders.proofs.NoLonger.{get-set_same, get-set_apart}

-- ---- places of lists

at_front : {X : Type 0} (xs ys : List X) (i : ℕ) → i < length xs → slice_get (xs ++ ys) i ≡ slice_get xs i
at_front [] ys i lt = absurd (omega (arith, lt))
at_front (x ∷ xs) ys zero lt = refl
at_front (x ∷ xs) ys (suc i) lt = at_front xs ys i (omega (arith, lt))

at_end : {X : Type 0} (xs : List X) (y : X) → slice_get (xs ++ y ∷ []) (length xs) ≡ Some y
at_end [] y = refl
at_end (x ∷ xs) y = at_end xs y

at_taken : {X : Type 0} (n : ℕ) (xs : List X) (i : ℕ) → i < n → slice_get (take n xs) i ≡ slice_get xs i
at_taken zero xs i lt = absurd (omega (arith, lt))
at_taken (suc n) [] i lt = refl
at_taken (suc n) (x ∷ xs) zero lt = refl
at_taken (suc n) (x ∷ xs) (suc i) lt = at_taken n xs i (omega (arith, lt))

none_taken : {X : Type 0} (n : ℕ) (xs : List X) (i : ℕ) → slice_get xs i ≡ None → slice_get (take n xs) i ≡ None
none_taken zero xs i h = refl
none_taken (suc n) [] i h = h
none_taken (suc n) (x ∷ xs) zero h = h
none_taken (suc n) (x ∷ xs) (suc i) h = none_taken n xs i h

pub numbers_long : (n : ℕ) → length (numbers_below n) ≡ n
numbers_long zero = refl
numbers_long (suc n) = let long = length-append (numbers_below n) (n ∷ []) in let before = numbers_long n in omega (arith, long, before)

number_at : (n i : ℕ) → i < n → slice_get (numbers_below n) i ≡ Some i
number_at zero i lt = absurd (omega (arith, lt))
number_at (suc n) i lt = elim (eqb_tells i n) as (λ _. slice_get (numbers_below n ++ n ∷ []) i ≡ Some i) [
  | inl same ↦ ap (slice_get (numbers_below n ++ n ∷ [])) (same.1 ∙ sym (numbers_long n)) ∙ at_end (numbers_below n) n ∙ ap (λ m. Some m) (sym same.1)
  | inr other ↦ (
      let ne : i ≢ n = other.1 in
      let long = numbers_long n in
      at_front (numbers_below n) (n ∷ []) i (omega (arith, lt, ne, long)) ∙ number_at n i (omega (arith, lt, ne)))
]

-- ---- the calls of clients

module _ (own : List (List Call)) (made : List ℕ) (has : ℕ → Bool) where
  abbrev lone : List (List Call)
  lone = alone own made has

  abbrev calls_at : List (List Call) → ℕ → List Call
  calls_at l client = unwrap_or (slice_get l client) []

  pub lone_long : length lone ≡ length own
  lone_long = length-map (clients own) (λ client. calls_left_in made has client (calls_at own client)) ∙ numbers_long (length own)

  lone_calls : (client : ℕ) → client < length own → slice_get lone client ≡ Some (calls_left_in made has client (calls_at own client))
  lone_calls client lt =
      slice_get-map (λ client. calls_left_in made has client (calls_at own client)) (clients own) client
      ∙ ap (λ (o : Option ℕ). option_map (λ client. calls_left_in made has client (calls_at own client)) o) (number_at (length own) client lt)

  -- a place of a client's calls
  abbrev place_of : Option (List Call) → ℕ → Option Call
  place_of o place = option_and_then (λ (calls : List Call). slice_get calls place) o

  own_calls : (client : ℕ) → client < length own → slice_get own client ≡ Some (calls_at own client)
  own_calls client lt = let is = slice_get-get_or own client [] lt in is ∙ ap (λ (o : Option (List Call)). Some (unwrap_or o [])) (sym is)

  past : (client place : ℕ) → length own ≤ client → call_of_client_at lone client place ≡ call_of_client_at own client place
  past client place le =
      let long = lone_long in
      ap (λ (o : Option (List Call)). place_of o place) (slice_get_past lone client (omega (arith, le, long)) ∙ sym (slice_get_past own client le))

  -- a client of the group has its calls
  pub calls_same : (client place : ℕ) → has client ≡ true → call_of_client_at lone client place ≡ call_of_client_at own client place
  calls_same client place is = elim (leb_tells (suc client) (length own)) as (λ _. call_of_client_at lone client place ≡ call_of_client_at own client place) [
    | inl low ↦ (
        ap (λ (o : Option (List Call)). place_of o place) (lone_calls client low.1 ∙ ap (λ b. Some (cond b (calls_at own client) (take (next_place made client) (calls_at own client)))) is ∙ sym (own_calls client low.1)))
    | inr high ↦ (let lt = high.1 in past client place (omega (arith, lt)))
  ]

  pub list_same : (client : ℕ) → has client ≡ true → calls_at lone client ≡ calls_at own client
  list_same client is = elim (leb_tells (suc client) (length own)) as (λ _. calls_at lone client ≡ calls_at own client) [
    | inl low ↦ ap (λ (o : Option (List Call)). unwrap_or o []) (lone_calls client low.1) ∙ ap (λ b. cond b (calls_at own client) (take (next_place made client) (calls_at own client))) is
    | inr high ↦ (
        let lt = high.1 in
        let long = lone_long in
        ap (λ (o : Option (List Call)). unwrap_or o []) (slice_get_past lone client (omega (arith, lt, long)) ∙ sym (slice_get_past own client (omega (arith, lt)))))
  ]

  -- each client has the calls that it made
  made_same : (client place : ℕ) → place < next_place made client → call_of_client_at lone client place ≡ call_of_client_at own client place
  made_same client place before = elim (leb_tells (suc client) (length own)) as (λ _. call_of_client_at lone client place ≡ call_of_client_at own client place) [
    | inl low ↦ (
        ap (λ (o : Option (List Call)). place_of o place) (lone_calls client low.1)
        ∙ (elim (has client) as (λ b. slice_get (cond b (calls_at own client) (take (next_place made client) (calls_at own client))) place ≡ slice_get (calls_at own client) place) [
          | true ↦ refl
          | false ↦ at_taken (next_place made client) (calls_at own client) place before
        ])
        ∙ ap (λ (o : Option (List Call)). place_of o place) (sym (own_calls client low.1)))
    | inr high ↦ (let lt = high.1 in past client place (omega (arith, lt)))
  ]

  none_more : (client place : ℕ) → call_of_client_at own client place ≡ None → call_of_client_at lone client place ≡ None
  none_more client place none = elim (leb_tells (suc client) (length own)) as (λ _. call_of_client_at lone client place ≡ None) [
    | inl low ↦ (
        let none_own : slice_get (calls_at own client) place ≡ None = ap (λ (o : Option (List Call)). place_of o place) (sym (own_calls client low.1)) ∙ none in
        ap (λ (o : Option (List Call)). place_of o place) (lone_calls client low.1)
        ∙ (elim (has client) as (λ b. slice_get (cond b (calls_at own client) (take (next_place made client) (calls_at own client))) place ≡ None) [
          | true ↦ none_own
          | false ↦ none_taken (next_place made client) (calls_at own client) place none_own
        ]))
    | inr high ↦ (let lt = high.1 in past client place (omega (arith, lt)) ∙ none)
  ]

-- ---- places only grow

place_more : (made : List ℕ) (client other : ℕ) (o : Option ℕ) → slice_get made client ≡ o → next_place made other ≤ next_place (one_more client o made) other
place_more made client other None e = omega arith
place_more made client other (Some n) e = elim (eqb_tells other client) as (λ _. next_place made other ≤ next_place (slice_set made client (n + 1)) other) [
  | inl same ↦ (
      let before : next_place made other ≡ n = ap (λ m. next_place made m) same.1 ∙ ap (λ (o : Option ℕ). unwrap_or o 0) e in
      let after : next_place (slice_set made client (n + 1)) other ≡ n + 1 =
      ap (λ m. next_place (slice_set made client (n + 1)) m) same.1 ∙ ap (λ (o : Option ℕ). unwrap_or o 0) (get-set_same made client (n + 1) n e) in
      omega (arith, before, after))
  | inr apart ↦ (
      let is : next_place (slice_set made client (n + 1)) other ≡ next_place made other = ap (λ (o : Option ℕ). unwrap_or o 0) (get-set_apart made client other (n + 1) apart.1) in
      omega (arith, is))
]

place_with : (p : ProfileName) (w : World) (client other : ℕ) (c : Option Call) → next_place w.made other ≤ next_place (with_call p w client c).made other
place_with p w client other None = omega arith
place_with p w client other (Some call) = place_more w.made client other (slice_get w.made client) refl

places_grow : (p : ProfileName) (own : List (List Call)) (w : World) (order : List ℕ) (other : ℕ) → next_place w.made other ≤ next_place (world_after p own w order).made other
places_grow p own w [] other = omega arith
places_grow p own w (client ∷ order) other =
    let one = place_with p w client other (next_client_call own w.made client) in
    let rest = places_grow p own (after_call p own w client) order other in
    omega (arith, one, rest)

-- ---- the first calls come to the same

module _ (p : ProfileName) (own : List (List Call)) (made : List ℕ) (has : ℕ → Bool) where
  next_same : (w : World) (client : ℕ) (m : Option ℕ) → slice_get w.made client ≡ m → (c : Option Call) → next_client_call own w.made client ≡ c →
      next_place (with_call p w client c).made client ≤ next_place made client → next_client_call (alone own made has) w.made client ≡ next_client_call own w.made client
  next_same w client None is c e le =
      ap (λ (o : Option ℕ). option_and_then (call_of_client_at (alone own made has) client) o) is ∙ sym (ap (λ (o : Option ℕ). option_and_then (call_of_client_at own client) o) is)
  next_same w client (Some n) is None e le =
      let none : call_of_client_at own client n ≡ None = sym (ap (λ (o : Option ℕ). option_and_then (call_of_client_at own client) o) is) ∙ e in
      ap (λ (o : Option ℕ). option_and_then (call_of_client_at (alone own made has) client) o) is ∙ none_more own made has client n none ∙ sym e
  next_same w client (Some n) is (Some call) e le =
      let more : next_place (one_more client (slice_get w.made client) w.made) client ≡ n + 1 =
      ap (λ (o : Option ℕ). next_place (one_more client o w.made) client) is ∙ ap (λ (o : Option ℕ). unwrap_or o 0) (get-set_same w.made client (n + 1) n is) in
      ap (λ (o : Option ℕ). option_and_then (call_of_client_at (alone own made has) client) o) is
      ∙ made_same own made has client n (omega (arith, le, more))
      ∙ sym (ap (λ (o : Option ℕ). option_and_then (call_of_client_at own client) o) is)

  begins_so : (w : World) (order : List ℕ) → ((client : ℕ) → next_place (world_after p own w order).made client ≤ next_place made client) →
      world_after p (alone own made has) w order ≡ world_after p own w order
  begins_so w [] below = refl
  begins_so w (client ∷ order) below =
      let v = after_call p own w client in
      let grow = places_grow p own v order client in
      let most = below client in
      let same = next_same w client (slice_get w.made client) refl (next_client_call own w.made client) refl (omega (arith, grow, most)) in
      ap (λ (c : Option Call). world_after p (alone own made has) (with_call p w client c) order) same ∙ begins_so v order below

pub begins_alike : (p : ProfileName) (own : List (List Call)) (A : State) (first : List ℕ) (has : ℕ → Bool) → BeginsAlike p own A first has
begins_alike p own A first has =
    let w = world_after p own (start own A) first in
    ap (λ n. world_after p (alone own w.made has) (record { made = replicate n 0; waits = []; kernel = A }) first) (lone_long own w.made has)
    ∙ begins_so p own w.made has (start own A) first (λ client. omega arith)
