-- An exploration ends where there are no more orders, or at its limit.
use Rattle.std.proofs.Common.{◌≡◌, ◌⊎◌, ◌==◌, ◌||◌, ℕ, zero, suc, ◌+◌, ◌<◌, ◌≤◌, Bool, true, false, cond, nat_lt, List, [], ◌∷◌, ◌++◌, map, filter, length, refl, ap, sym, ◌∙◌, inl, inr, arith}
use Rattle.std.specs.List.{sum_by}
use Rattle.std.proofs.lemmas.List.Sums.{sum_by_push, sum_by-cons}
use Rattle.std.proofs.lemmas.Bool.Decides.{nat_tests, eqb_tells}
use Rattle.cap_core.specs.declared.profile.ProfileName.{ProfileName}
use Rattle.kernel_abstract.specs.declared.call.Call.{Call}
use Rattle.kernel_abstract.specs.Boot.{boot}
use Rattle.setup_format.specs.Views.{CallView, SetupView}
use Rattle.kernel_lists.specs.Firsts.{firsts}
use Rattle.query_orders.specs.World.{World}
use Rattle.query_orders.specs.Orders.{numbers_below, orders}
use Rattle.command_explore.proofs.NoLonger.{no_order_is_longer}
use Rattle.query_orders.specs.Nodes.{lead_alike, layer}
use Rattle.query_orders.specs.Explorations.{is_last_layer, layers_from, depth}
use Rattle.query_orders.proofs.Exploration.Explorations.{no_orders_behind}
use Rattle.command_explore.specs.Clients.{calls_of_client, calls_of_each, first_clients}
use Rattle.command_explore.specs.Report.{exploration, exploration_from}
use Rattle.command_explore.specs.Laws.{begins, states_with_more, EndsAtItsLimit, IsOnAllOrders}

-- ---- the clients have no more calls than the set-up

abbrev hits : ℕ → ℕ → ℕ
hits c j = cond (c == j) 1 0

one-client : (c n : ℕ) → sum_by (hits c) (numbers_below n) ≤ 1
one-client c n = at-most c n
  where
    none : (c n : ℕ) → n ≤ c → sum_by (hits c) (numbers_below n) ≡ 0
    none c zero le = refl
    none c (suc n) le =
        let a = sum_by_push (hits c) (numbers_below n) n in
        let r = none c n (omega (arith, le)) in
        elim (eqb_tells c n) as (λ _. sum_by (hits c) (numbers_below n ++ n ∷ []) ≡ 0) [
          | inl same ↦ absurd (let e = same.1 in omega (arith, e, le))
          | inr other ↦ (let z : hits c n ≡ 0 = ap (λ b. cond b 1 0) other.0 in omega (arith, a, r, z))
        ]

    at-most : (c n : ℕ) → sum_by (hits c) (numbers_below n) ≤ 1
    at-most c zero = omega arith
    at-most c (suc n) =
        let a = sum_by_push (hits c) (numbers_below n) n in
        elim (eqb_tells c n) as (λ _. sum_by (hits c) (numbers_below n ++ n ∷ []) ≤ 1) [
          | inl same ↦ (let e = same.1 in let r = none c n (omega (arith, e)) in let one : hits c n ≡ 1 = ap (λ b. cond b 1 0) same.0 in omega (arith, a, r, one))
          | inr other ↦ (let r = at-most c n in let z : hits c n ≡ 0 = ap (λ b. cond b 1 0) other.0 in omega (arith, a, r, z))
        ]

one-call : (call : CallView) (calls : List CallView) (j : ℕ) → length (calls_of_client (call ∷ calls) j) ≡ hits call.client j + length (calls_of_client calls j)
one-call call calls j = elim (call.client == j) as (λ b. length (map (λ (c : CallView). c.call) (cond b (call ∷ filter (λ (c : CallView). c.client == j) calls) (filter (λ (c : CallView). c.client == j) calls))) ≡ cond b 1 0 + length (calls_of_client calls j)) [ true ↦ omega arith | false ↦ omega arith ]

sums : (f g h : ℕ → ℕ) (n : ℕ) → ((j : ℕ) → f j ≡ g j + h j) → sum_by f (numbers_below n) ≡ sum_by g (numbers_below n) + sum_by h (numbers_below n)
sums f g h zero e = refl
sums f g h (suc n) e =
    let a = sum_by_push f (numbers_below n) n in
    let b = sum_by_push g (numbers_below n) n in
    let c = sum_by_push h (numbers_below n) n in
    let i = sums f g h n e in
    let at = e n in
    omega (arith, a, b, c, i, at)

no-call : (n : ℕ) → sum_by (λ j. length (calls_of_client [] j)) (numbers_below n) ≡ 0
no-call zero = refl
no-call (suc n) = let a = sum_by_push (λ j. length (calls_of_client [] j)) (numbers_below n) n in let i = no-call n in omega (arith, a, i)

all-clients : (calls : List CallView) (n : ℕ) → sum_by (λ j. length (calls_of_client calls j)) (numbers_below n) ≤ length calls
all-clients [] n = let a = no-call n in omega (arith, a)
all-clients (call ∷ calls) n =
    let a = sums (λ j. length (calls_of_client (call ∷ calls) j)) (hits call.client) (λ j. length (calls_of_client calls j)) n (one-call call calls) in
    let b = one-client call.client n in
    let i = all-clients calls n in
    omega (arith, a, b, i)

sum-map : {X : Type 0} (f : ℕ → List X) (ns : List ℕ) → sum_by length (map f ns) ≡ sum_by (λ j. length (f j)) ns
sum-map f [] = refl
sum-map f (n ∷ ns) = let a = sum_by-cons length (f n) (map f ns) in let b = sum_by-cons (λ j. length (f j)) n ns in let i = sum-map f ns in omega (arith, a, b, i)

pub own-length : (setup : SetupView) → sum_by length (calls_of_each setup) ≤ length setup.calls
own-length setup = let a = sum-map (calls_of_client setup.calls) (numbers_below setup.clients) in let b = all-clients setup.calls setup.clients in omega (arith, a, b)

-- ---- how far it goes

module _ (p : ProfileName) (own : List (List Call)) (w : World) (first : List ℕ) (limit : ℕ) where
  depth_ends : (further n : ℕ) → (is_last_layer p own w first limit (layers_from p own w first limit further n) ≡ true) ⊎ (layers_from p own w first limit further n ≡ n + further)
  depth_ends zero n = inr (omega arith)
  depth_ends (suc further) n =
      elim (is_last_layer p own w first limit n) as (λ b. is_last_layer p own w first limit n ≡ b → (is_last_layer p own w first limit (cond b n (layers_from p own w first limit further (suc n))) ≡ true) ⊎ (cond b n (layers_from p own w first limit further (suc n)) ≡ n + suc further)) [
        | true ↦ λ e. inl e
        | false ↦ λ e. elim (depth_ends further (suc n)) as (λ _. (is_last_layer p own w first limit (layers_from p own w first limit further (suc n)) ≡ true) ⊎ (layers_from p own w first limit further (suc n) ≡ n + suc further)) [ inl last ↦ inl last | inr all ↦ inr (omega (arith, all)) ]
      ] refl

or_cases : (s t : Bool) → s ≡ false → (s || t) ≡ true → t ≡ true
or_cases true t h k = cc
or_cases false t h k = k

pub ends_at_limit : (p : ProfileName) (setup : SetupView) (first limit : ℕ) → EndsAtItsLimit p setup first limit
unfolding exploration exploration_from
ends_at_limit p setup first limit some =
    let own = calls_of_each setup in
    let w = begins p setup in
    let begin = first_clients setup first in
    let n = depth p own w begin limit (length setup.calls + 1) in
    elim (depth_ends p own w begin limit (length setup.calls + 1) 0) as (λ _. limit < states_with_more p setup first n) [
      | inl last ↦ (let passed : nat_lt limit (states_with_more p setup first n) ≡ true = or_cases (length (layer p own w begin n) == 0) (nat_lt limit (states_with_more p setup first n)) some last in grind (arith, nat_tests))
      | inr all ↦ absurd (
          let short = own-length setup in
          let none : orders p own w begin n ≡ [] = no_order_is_longer p own (boot p setup.plan) begin n (omega (arith, all, short)) in
          let empty : (length (layer p own w begin n) == 0) ≡ true = ap (λ (l : List (List ℕ)). length (firsts (lead_alike p own w) l) == 0) none in
          let no : true ≡ false = sym empty ∙ some in
          cc)
    ]

pub on_all_orders : (p : ProfileName) (setup : SetupView) (first limit : ℕ) → IsOnAllOrders p setup first limit
unfolding exploration exploration_from
on_all_orders p setup first limit whole more =
    let own = calls_of_each setup in
    let w = begins p setup in
    let begin = first_clients setup first in
    let n = depth p own w begin limit (length setup.calls + 1) in
    no_orders_behind p own w begin n more (none (layer p own w begin n) whole)
  where
    none : (l : List (List ℕ)) → (length l == 0) ≡ true → l ≡ []
    none [] h = refl
    none (x ∷ l) h = absurd (grind (arith, nat_tests))
