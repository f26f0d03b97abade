-- Each order can be made longer by calls of other groups' clients, until no client can call whom the group does not have.
use Rattle.std.proofs.Common.{◌≡◌, ◌+◌, ◌<◌, ℕ, zero, suc, Bool, true, false, not, List, [], ◌∷◌, ◌++◌, filter, length, refl, ap, sym, subst, ◌∙◌, append-nil, length-append, arith}
use Rattle.std.specs.List.{Contains, list_any, sum_by}
use Rattle.std.proofs.lemmas.Bool.{false≢true}
use Rattle.std.proofs.lemmas.List.Elements.{filter-append}
use Rattle.cap_core.specs.declared.profile.ProfileName.{ProfileName}
use Rattle.kernel_abstract.specs.declared.call.Call.{Call}
use Rattle.kernel_abstract.specs.State.{State}
use Rattle.kernel_abstract.specs.Reached.{IsReached}
use Rattle.query_orders.specs.World.{World, start, may_call, world_after}
use Rattle.query_orders.specs.Orders.{clients, longer, orders, is_end}
use Rattle.query_orders.specs.Groups.{AreGroups, alone, is_client_in}
use Rattle.query_orders.specs.Laws.{EachCanBeMade}
use Rattle.query_orders.specs.Apart.{IsSeenAlike}
use Rattle.query_orders.proofs.Contained.{contains-nil, contains-map, contains-filter, contains-flat_map, contains-below}
use Rattle.query_orders.proofs.Possible.{orders_are_possible, caller_is_client}
use Rattle.query_orders.proofs.Behind.{orders_go_on}
use Rattle.query_orders.proofs.NoLonger.{no_order_is_longer}
use Rattle.query_orders.proofs.Apart.Lists.{skipped}
use Rattle.query_orders.proofs.Apart.Contents.{any_of, some_of}
use Rattle.query_orders.proofs.Apart.Groups.{has_part}
use Rattle.query_orders.proofs.AllOrders.Others.{AreDone, caller_ours}

-- an order whose calls can be made, with one more that can
pub one_longer : (p : ProfileName) (own : List (List Call)) (w : World) (order : List ℕ) (client : ℕ) → EachCanBeMade p own w order → may_call own (world_after p own w order) client ≡ true →
    EachCanBeMade p own w (order ++ client ∷ [])
one_longer p own w order client can may =
    let v = world_after p own w order in
    let n = length order in
    ((orders_are_possible p own w (suc n) (order ++ client ∷ [])).0
    (contains-flat_map (longer p own w) (orders p own w [] n) order (order ++ client ∷ []) ((orders_are_possible p own w n order).1 (refl, can))
    (contains-map (λ c. order ++ c ∷ []) (filter (may_call own v) (clients own)) client
    (contains-filter (may_call own v) (clients own) client (contains-below (length own) client (caller_is_client own v client may)) may)))).1

-- whoever can call, the order does not end
no_end : (own : List (List Call)) (v : World) (client : ℕ) → may_call own v client ≡ true → is_end own v ≡ true → ⊥
no_end own v client may ends =
    let some = any_of (may_call own v) (clients own) client (contains-below (length own) client (caller_is_client own v client may)) may in
    false≢true (sym (ap not some) ∙ ends)

module _ (p : ProfileName) (own : List (List Call)) (made : List ℕ) (has : ℕ → Bool) (v u : World) (alike : IsSeenAlike p own (alone own made has) has v u) where
  abbrev lone : List (List Call)
  lone = alone own made has

  -- where all end, the group does
  pub ends_alone : AreDone own made has u → is_end own v ≡ true → is_end lone u ≡ true
  ends_alone done ends = by (list_any (may_call lone u) (clients lone)) refl
    where
      by : (b : Bool) → list_any (may_call lone u) (clients lone) ≡ b → not b ≡ true
      by false e = refl
      by true e =
          let caller = some_of (may_call lone u) (clients lone) e in
          absurd (no_end own v caller.0 (alike.may caller.0 (caller_ours own made has u done caller.0 caller.2) ∙ caller.2) ends)

  -- where the group ends, only others can call
  pub caller_other : is_end lone u ≡ true → (client : ℕ) → may_call own v client ≡ true → has client ≡ false
  caller_other ends client may = by (has client) refl
    where
      by : (b : Bool) → has client ≡ b → b ≡ false
      by false is = refl
      by true is = absurd (no_end lone u client (sym (alike.may client is) ∙ may) ends)

module _ (p : ProfileName) (own : List (List Call)) (A : State) (first groups : List ℕ) (group : ℕ) where
  abbrev w : World
  w = world_after p own (start own A) first

  abbrev has : ℕ → Bool
  has = is_client_in groups group

  -- an order of all clients that ends, of which this is the group's part
  pub record IsToEnd (part : List ℕ) : Type 0 where
    pub more : List ℕ
    pub can : EachCanBeMade p own w more
    pub part_is : filter has more ≡ part
    pub ends : is_end own (world_after p own w more) ≡ true

  module _ (r : IsReached p A) (are : AreGroups p own w groups) (part : List ℕ) (ends : is_end (alone own w.made has) (world_after p (alone own w.made has) w part) ≡ true) where
    longest : (more : List ℕ) → EachCanBeMade p own w more → sum_by length own < length more → ⊥
    longest more can long =
        contains-nil (first ++ more)
        (subst (λ (l : List (List ℕ)). Contains l (first ++ more)) (no_order_is_longer p own A first (length more) long)
        ((orders_go_on p own (start own A) first (length more) (first ++ more)).1 (more, refl, refl, can)))

    to_end : (further : ℕ) (more : List ℕ) → EachCanBeMade p own w more → filter has more ≡ part → sum_by length own < length more + further → IsToEnd part
    to_end zero more can is long = absurd (longest more can (omega (arith, long)))
    to_end (suc further) more can is long = by (list_any (may_call own (world_after p own w more)) (clients own)) refl (to_end further)
      where
        by : (b : Bool) → list_any (may_call own (world_after p own w more)) (clients own) ≡ b →
            ((more : List ℕ) → EachCanBeMade p own w more → filter has more ≡ part → sum_by length own < length more + further → IsToEnd part) → IsToEnd part
        by false e rest = record { more = more; can = can; part_is = is; ends = ap not e }
        by true e rest =
            let v = world_after p own w more in
            let caller = some_of (may_call own v) (clients own) e in
            let lone = alone own w.made has in
            let alike = subst (λ (l : List ℕ). IsSeenAlike p own lone has v (world_after p lone w l)) is (has_part p own A first groups group more r are can).1 in
            let other = caller_other p own w.made has v (world_after p lone w part) alike ends caller.0 caller.2 in
            let length_is = length-append more (caller.0 ∷ []) in
            rest (more ++ caller.0 ∷ []) (one_longer p own w more caller.0 can caller.2)
            (filter-append has more (caller.0 ∷ []) ∙ ap (λ (l : List ℕ). filter has more ++ l) (skipped has caller.0 [] other) ∙ append-nil (filter has more) ∙ is)
            (omega (arith, long, length_is))

    pub all_to_end : EachCanBeMade p own w part → filter has part ≡ part → IsToEnd part
    all_to_end can is = to_end (suc (sum_by length own)) part can is (omega arith)
