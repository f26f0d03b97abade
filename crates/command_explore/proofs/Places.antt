-- Walks over the calls of a set-up, from the front.
pub use Rattle.command_check.proofs.Places.{IsAt, client_at, given_more, given_not, is_at, some_same}
use Rattle.std.proofs.Common.{◌≡◌, ℕ, ◌+◌, ◌<◌, ◌≤◌, ◌==◌, min, Bool, true, false, cond, List, [], ◌∷◌, ◌++◌, map, filter, length, take, Option, Some, option_map, slice_get, get_or, refl, ap, sym, ◌∙◌, add-one, arith}
use Rattle.std.specs.Prelude.{nat_lt}
use Rattle.std.proofs.lemmas.Bool.Decides.{nat_tests}
use Rattle.std.proofs.lemmas.List.{map-append, length-map, take_all, take_more}
use Rattle.std.proofs.lemmas.Option.{slice_get-map, slice_get-get_or, get_or_from_slice_get, slice_get_within}
use Rattle.kernel_abstract.specs.declared.call.Call.{Call}
use Rattle.setup_format.specs.Views.{CallView}
use Rattle.query_orders.specs.Orders.{numbers_below}
use Rattle.command_explore.specs.Clients.{calls_of_client}

pub call_at : (calls : List CallView) (items : List Call) (i : ℕ) (d : Call) (a : IsAt calls i) → items ≡ map (λ (c : CallView). c.call) calls → i < length items → get_or items i d ≡ a.view.call
call_at calls items i d a is lt =
    some_same _ _ (sym (slice_get-get_or items i d lt) ∙ ap (λ (l : List Call). slice_get l i) is ∙ slice_get-map (λ (c : CallView). c.call) calls i ∙ ap (option_map (λ (c : CallView). c.call)) a.at)

-- a list for one client more
pub lists_more : {X L : Type 0} (items : L → X) (f : ℕ → X) (lists lists' : List L) (own : L) (client : ℕ) → map items lists ≡ map f (numbers_below client) → items own ≡ f client → lists' ≡ lists ++ own ∷ [] → map items lists' ≡ map f (numbers_below (client + 1))
lists_more {X} items f lists lists' own client so is pushed =
    ap (map items) pushed ∙ map-append items lists (own ∷ []) ∙ ap (λ l. l ++ items own ∷ []) so ∙ ap (λ (x : X). map f (numbers_below client) ++ x ∷ []) is
    ∙ sym (ap (λ n. map f (numbers_below n)) (add-one client) ∙ map-append f (numbers_below client) (client ∷ []))

-- ---- those of one client

abbrev own : ℕ → CallView → Bool
own client v = v.client == client

pub calls_steps : (client n : ℕ) (v : CallView) (vs : List CallView) → calls_of_client (v ∷ vs) client ≡ cond (v.client == client) (v.call ∷ calls_of_client vs client) (calls_of_client vs client)
calls_steps client n v vs =
    elim (v.client == client) as (λ b. map (λ (c : CallView). c.call) (cond b (v ∷ filter (own client) vs) (filter (own client) vs)) ≡ cond b (v.call ∷ calls_of_client vs client) (calls_of_client vs client)) [ true ↦ refl | false ↦ refl ]

pub within : (calls : List CallView) (items : List Call) (i : ℕ) → items ≡ map (λ (c : CallView). c.call) calls → i < length items → i < length calls
within calls items i is lt = let n = length-map calls (λ (c : CallView). c.call) in let m = ap length is in omega arith

pub beyond : (calls : List CallView) (items : List Call) (i : ℕ) → items ≡ map (λ (c : CallView). c.call) calls → length items ≤ i → length calls ≤ i
beyond calls items i is le = let n = length-map calls (λ (c : CallView). c.call) in let m = ap length is in omega arith

-- the first of a list, as many as it has or as are wanted
pub take_least : {X : Type 0} (xs : List X) (n i : ℕ) → i ≡ min n (length xs) → take i xs ≡ take n xs
take_least xs n i is =
    elim (nat_lt (length xs) n) as (λ b. nat_lt (length xs) n ≡ b → take i xs ≡ take n xs) [
      | true ↦ λ h. (let lt : length xs < n = grind (arith, nat_tests) in take_all i xs (omega arith) ∙ sym (take_all n xs (omega arith)))
      | false ↦ λ h. (let le : n ≤ length xs = grind (arith, nat_tests) in ap (λ k. take k xs) (let e : i ≡ n = omega arith in e))
    ] refl

pub clients_more : (calls : List CallView) (i : ℕ) (a : IsAt calls i) (first first' : List ℕ) (who : ℕ) → option_map (λ (c : CallView). c.client) (slice_get calls i) ≡ Some who →
    first ≡ map (λ (c : CallView). c.client) (take i calls) → first' ≡ first ++ who ∷ [] → first' ≡ map (λ (c : CallView). c.client) (take (i + 1) calls)
clients_more calls i a first first' who from so pushed =
    let lt : i < length calls = slice_get_within calls i a.view a.at in
    pushed ∙ ap (λ l. l ++ who ∷ []) so ∙ ap (λ k. map (λ (c : CallView). c.client) (take i calls) ++ k ∷ []) (sym (client_at calls i who a from))
    ∙ sym (ap (map (λ (c : CallView). c.client)) (take_more calls i a.view lt ∙ ap (λ (v : CallView). take i calls ++ v ∷ []) (get_or_from_slice_get calls i a.view a.view a.at)) ∙ map-append (λ (c : CallView). c.client) (take i calls) (a.view ∷ []))

pub same_at : (calls : List CallView) (i : ℕ) (call : CallView) (a : IsAt calls i) → slice_get calls i ≡ Some call → a.view ≡ call
same_at calls i call a at = some_same _ _ (sym a.at ∙ at)

pub expect_at : (calls : List CallView) (i : ℕ) (expected : Option (List ℕ)) (a : IsAt calls i) → option_map (λ (c : CallView). c.expect) (slice_get calls i) ≡ Some expected → a.view.expect ≡ expected
expect_at calls i expected a from = some_same _ _ (sym (ap (option_map (λ (c : CallView). c.expect)) a.at) ∙ from)
