-- The orders of so many calls are the lists of so many clients in which each call can be made.
use Rattle.std.proofs.Common.{◌≡◌, ◌⊎◌, ℕ, zero, suc, ◌<◌, true, false, List, [], ◌∷◌, ◌++◌, filter, length, Option, None, Some, option_and_then, slice_get, refl, ap, sym, subst, ◌∙◌, append_assoc, inl, inr, length-append, arith}
use Rattle.std.proofs.lemmas.Option.{slice_get_cases}
use Rattle.std.specs.List.{Contains, AllByRecursion as Each}
use Rattle.cap_core.specs.declared.profile.ProfileName.{ProfileName}
use Rattle.kernel_abstract.specs.declared.call.Call.{Call}
use Rattle.kernel_abstract.specs.State.{shown}
use Rattle.query_orders.specs.World.{World, call_of_client_at, can_be_made, may_call, world_after}
use Rattle.query_orders.specs.Orders.{clients, longer, orders}
use Rattle.query_orders.specs.Laws.{EachCanBeMade}
use Rattle.query_orders.proofs.Contained.{each-contained, contains-map, contains-filter, contains-flat_map, contains-below, each-flat_map, each-filter_map}

-- ---- only a client can call

pub no_calls : (own : List (List Call)) (client : ℕ) (made : Option ℕ) → slice_get own client ≡ None → option_and_then (call_of_client_at own client) made ≡ None
no_calls own client None e = refl
no_calls own client (Some n) e = ap (λ (o : Option (List Call)). option_and_then (λ (calls : List Call). slice_get calls n) o) e

pub caller_is_client : (own : List (List Call)) (w : World) (client : ℕ) → may_call own w client ≡ true → client < length own
caller_is_client own w client h = elim ((slice_get_cases own client).1) as (λ _. client < length own) [
  | inl found ↦ found.1
  | inr none ↦ absurd (let no : false ≡ true = sym (ap (can_be_made (shown w.kernel)) (no_calls own client (slice_get w.made client) none.1)) ∙ h in cc)
]

-- ---- the last of a list

not_empty : {X : Type 0} (front : List X) (x : X) (rest : List X) → ◌≡◌ {A = List X} [] (front ++ x ∷ rest) → ⊥
not_empty [] x rest h = cc
not_empty (y ∷ front) x rest h = cc

heads : {X : Type 0} (x y : X) (xs ys : List X) → x ∷ xs ≡ y ∷ ys → x ≡ y
heads x y xs ys h = cc

tails : {X : Type 0} (x y : X) (xs ys : List X) → x ∷ xs ≡ y ∷ ys → xs ≡ ys
tails x y xs ys h = cc

-- an element of a list with one more at the end is that one, or one of the list
last_cases : (order : List ℕ) (c : ℕ) (front : List ℕ) (client : ℕ) (rest : List ℕ) → order ++ c ∷ [] ≡ front ++ client ∷ rest →
    ((order ≡ front) × (c ≡ client)) ⊎ ((more : List ℕ) × (order ≡ front ++ client ∷ more))
last_cases [] c [] client rest h = inl (refl, heads c client [] rest h)
last_cases [] c (f ∷ front) client rest h = absurd (not_empty front client rest (tails c f [] (front ++ client ∷ rest) h))
last_cases (o ∷ order) c [] client rest h = inr (order, ap (λ n. n ∷ order) (heads o client (order ++ c ∷ []) rest h))
last_cases (o ∷ order) c (f ∷ front) client rest h =
    let first : o ≡ f = heads o f (order ++ c ∷ []) (front ++ client ∷ rest) h in
    elim (last_cases order c front client rest (tails o f (order ++ c ∷ []) (front ++ client ∷ rest) h)) as (λ _. ((o ∷ order ≡ f ∷ front) × (c ≡ client)) ⊎ ((more : List ℕ) × (o ∷ order ≡ f ∷ (front ++ client ∷ more)))) [
      | inl last ↦ inl (ap (λ n. n ∷ order) first ∙ ap (λ l. f ∷ l) last.0, last.1)
      | inr within ↦ inr (within.0, ap (λ n. n ∷ order) first ∙ ap (λ l. f ∷ l) within.1)
    ]

pub record Ended (order : List ℕ) (n : ℕ) : Type 0 where
  pub front : List ℕ
  pub client : ℕ
  pub is : order ≡ front ++ client ∷ []
  pub long : length front ≡ n

ended : (order : List ℕ) (n : ℕ) → length order ≡ suc n → Ended order n
ended [] n h = absurd (omega (arith, h))
ended (x ∷ []) n h = record { front = []; client = x; is = refl; long = omega (arith, h) }
ended (x ∷ (y ∷ ys)) zero h = absurd (omega (arith, h))
ended (x ∷ (y ∷ ys)) (suc n) h =
    let r = ended (y ∷ ys) n (omega (arith, h)) in
    let l = r.long in
    record { front = x ∷ r.front; client = r.client; is = ap (λ l. x ∷ l) r.is; long = omega (arith, l) }

module _ (p : ProfileName) (own : List (List Call)) (w : World) where
  abbrev IsPossible : ℕ → List ℕ → Type 0
  IsPossible n order = (length order ≡ n) × EachCanBeMade p own w order

  -- one call more that can be made
  longer_possible : (n : ℕ) (order : List ℕ) → IsPossible n order → (c : ℕ) → may_call own (world_after p own w order) c ≡ true → IsPossible (suc n) (order ++ c ∷ [])
  longer_possible n order h c may =
      let long = h.0 in
      let more = length-append order (c ∷ []) in (
        omega (arith, long, more),
        λ front client rest is. elim (last_cases order c front client rest is) as (λ _. may_call own (world_after p own w front) client ≡ true) [
          | inl last ↦ subst (λ (l : List ℕ). may_call own (world_after p own w l) client ≡ true) last.0 (subst (λ k. may_call own (world_after p own w order) k ≡ true) last.1 may)
          | inr within ↦ h.1 front client within.0 within.1
        ],
      )

  orders_possible : (n : ℕ) → Each (IsPossible n) (orders p own w [] n)
  orders_possible zero = ((refl, λ front client rest is. absurd (not_empty front client rest is)), tt)
  orders_possible (suc n) =
      each-flat_map (IsPossible n) (IsPossible (suc n)) (longer p own w)
      (λ order h. each-filter_map (may_call own (world_after p own w order)) (IsPossible (suc n)) (λ c. order ++ c ∷ []) (λ c may. longer_possible n order h c may) (clients own))
      (orders p own w [] n) (orders_possible n)

  possible_ordered : (n : ℕ) (order : List ℕ) → IsPossible n order → Contains (orders p own w [] n) order
  possible_ordered zero order h = only order h.0
    where
      only : (order : List ℕ) → length order ≡ 0 → Contains ([] ∷ []) order
      only [] l = (0, omega arith, refl)
      only (x ∷ xs) l = absurd (omega (arith, l))
  possible_ordered (suc n) order h =
      let r = ended order n h.0 in
      let may : may_call own (world_after p own w r.front) r.client ≡ true = h.1 r.front r.client [] r.is in
      let before : IsPossible n r.front =
      (r.long, λ front client rest is. h.1 front client (rest ++ r.client ∷ []) (r.is ∙ ap (λ l. l ++ r.client ∷ []) is ∙ append_assoc front (client ∷ rest) (r.client ∷ []))) in
      let caller = contains-filter (may_call own (world_after p own w r.front)) (clients own) r.client (contains-below (length own) r.client (caller_is_client own (world_after p own w r.front) r.client may)) may in
      subst (λ (l : List ℕ). Contains (orders p own w [] (suc n)) l) (sym r.is)
      (contains-flat_map (longer p own w) (orders p own w [] n) r.front (r.front ++ r.client ∷ []) (possible_ordered n r.front before)
      (contains-map (λ c. r.front ++ c ∷ []) (filter (may_call own (world_after p own w r.front)) (clients own)) r.client caller))

  pub orders_are_possible : (n : ℕ) (order : List ℕ) → (Contains (orders p own w [] n) order → IsPossible n order) × (IsPossible n order → Contains (orders p own w [] n) order)
  orders_are_possible n order = (λ h. each-contained (IsPossible n) (orders p own w [] n) order (orders_possible n) h, possible_ordered n order)
