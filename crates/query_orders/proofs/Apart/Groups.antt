-- The law of groups: what the clients of one group come to does not depend on the others.
use Rattle.std.proofs.Common.{◌≡◌, ℕ, ◌<◌, Bool, true, false, List, [], ◌++◌, filter, length, slice_get, unwrap_or, Option, refl, ap, sym, subst, ◌∙◌, append-nil, arith}
use Rattle.std.specs.List.{AllByRecursion as Each}
use Rattle.cap_core.specs.declared.profile.ProfileName.{ProfileName}
use Rattle.kernel_abstract.specs.declared.call.Call.{Call}
use Rattle.kernel_abstract.specs.State.{State, shown}
use Rattle.kernel_abstract.specs.Reached.{IsReached}
use Rattle.query_orders.specs.World.{World, start, world_after}
use Rattle.query_orders.specs.Groups.{AreGroups, alone, capabilities_may_change, is_client_in, objects_of_client, share}
use Rattle.query_orders.specs.Laws.{EachCanBeMade}
use Rattle.query_orders.specs.Apart.{IsSeenAlike, HasPart, GoesOn}
use Rattle.query_orders.proofs.Exploration.Steps.{world_reached}
use Rattle.query_orders.proofs.Apart.Lists.{each_passes}
use Rattle.query_orders.proofs.Apart.Contents.{or_left}
use Rattle.query_orders.proofs.Apart.Sides.{same_itself}
use Rattle.query_orders.proofs.Apart.Views.{View, view, views_after, order_seen}
use Rattle.query_orders.proofs.Apart.Held.{WaitsHold}
use Rattle.query_orders.proofs.Apart.Parts.{Hold, Agrees, made_from, made_to, made_append, holds_through, part_of, goes_on}
use Rattle.query_orders.proofs.Apart.Alike.{AreViewsAlike, seen_alike, views_alike, part_alone, made_alone}
use Rattle.query_orders.proofs.Apart.Touched.{has_same, on_thread, on_endpoint, all_on_sides, waits_on_sides, waiters_stand}
use Rattle.query_orders.proofs.Apart.Clients.{IsOfClient, order_below, waits_behind, waits_of_first}
use Rattle.query_orders.proofs.Apart.OneGroup.{alone_is_all, part_is_all, part_is_none, nothing_seen, no_order}

module _ (p : ProfileName) (own : List (List Call)) (w : World) (groups : List ℕ) (group : ℕ) (are : AreGroups p own w groups) (r : IsReached p w.kernel)
    (waits : WaitsHold (shown w.kernel) w.waits × Each (IsOfClient own) w.waits) where
  abbrev has : ℕ → Bool
  has = is_client_in groups group

  abbrev lone : List (List Call)
  lone = alone own w.made has

  -- of an order the part of the group
  abbrev Part : List ℕ → Type 0
  Part order = EachCanBeMade p lone w (filter has order) × IsSeenAlike p own lone has (world_after p own w order) (world_after p lone w (filter has order))

  -- ---- where no call that is left changes a capability

  module _ (keep : capabilities_may_change own w.made ≡ false) where
    abbrev our_thread : ℕ → Bool
    our_thread = on_thread p own w groups group are

    abbrev our_endpoint : ℕ → Bool
    our_endpoint = on_endpoint p own w groups group are

    hold : Hold p own (shown w.kernel).derivations w.made has our_thread our_endpoint (all_on_sides p own w groups group are keep) (view w)
    hold = record {
      forest = refl;
      reached = record { state = w.kernel; reached = r; shows = refl };
      grown = λ c n is. (let at : unwrap_or (slice_get w.made c) 0 ≡ n = ap (λ (o : Option ℕ). unwrap_or o 0) is in omega (arith, at));
      stands = waiters_stand p own w groups group are r;
      sides = waits_on_sides p own w groups group are waits.1;
      waits = waits.0;
    }

    agree : Agrees p own (shown w.kernel).derivations w.made has our_thread our_endpoint (all_on_sides p own w groups group are keep) (view w) (view w)
    agree = record { made = λ c is. refl; waits = refl; shows = same_itself our_thread our_endpoint true (shown w.kernel) }

    parts_apart : (order : List ℕ) → EachCanBeMade p own w order → Part order
    parts_apart order each =
        let f = (shown w.kernel).derivations in
        let sides = all_on_sides p own w groups group are keep in
        let part = filter has order in
        let ours = each_passes has order in
        let of = part_of p own f w.made has our_thread our_endpoint sides order (view w) (view w) hold hold agree (made_from p own w order r each) in
        let v = views_after p own (view w) order in
        let u = views_after p own (view w) part in
        let hv = holds_through p own f w.made has our_thread our_endpoint sides (view w) order hold in
        let hu = holds_through p own f w.made has our_thread our_endpoint sides (view w) part hold in
        let alike = views_alike p own f w.made has our_thread our_endpoint sides v u hv hu of.1 in
        let seen = order_seen p lone w part r ∙ part_alone p own f w.made has our_thread our_endpoint sides (view w) part ours in (
          made_to p lone w part r ((made_alone p own f w.made has our_thread our_endpoint sides (view w) part ours).0 of.0),
          seen_alike p own lone has (world_after p own w order) (world_after p lone w part) (world_reached p own w order r) (world_reached p lone w part r)
              (subst (λ (x : View). AreViewsAlike p own lone has x (view (world_after p lone w part))) (sym (order_seen p own w order r))
              (subst (λ (x : View). AreViewsAlike p own lone has v x) (sym seen) alike)),
        )

    goes_apart : (order more : List ℕ) → EachCanBeMade p own w order → filter has order ≡ [] → EachCanBeMade p lone w more → Each (λ client. has client ≡ true) more → EachCanBeMade p own w (order ++ more)
    goes_apart order more each none alone_made ours =
        let f = (shown w.kernel).derivations in
        let sides = all_on_sides p own w groups group are keep in
        let made = made_from p own w order r each in
        let of = part_of p own f w.made has our_thread our_endpoint sides order (view w) (view w) hold hold agree made in
        let v = views_after p own (view w) order in
        let unseen : Agrees p own f w.made has our_thread our_endpoint sides v (view w) =
        subst (λ (part : List ℕ). Agrees p own f w.made has our_thread our_endpoint sides v (views_after p own (view w) part)) none of.1 in
        let theirs = (made_alone p own f w.made has our_thread our_endpoint sides (view w) more ours).1 (made_from p lone w more r alone_made) in
        let later = goes_on p own f w.made has our_thread our_endpoint sides more v (view w) (holds_through p own f w.made has our_thread our_endpoint sides (view w) order hold) hold unseen ours theirs in
        made_to p own w (order ++ more) r (made_append p own (view w) order more made later)

  -- ---- where capabilities may change: all clients are in one group

  module _ (change : capabilities_may_change own w.made ≡ true) where
    same_group : (client : ℕ) → client < length own → has client ≡ has 0
    same_group client lt =
        has_same p own w groups group are client 0 lt (omega (arith, lt))
        (or_left (capabilities_may_change own w.made) (share (objects_of_client p own w client) (objects_of_client p own w 0)) change)

    part_together : (order : List ℕ) → EachCanBeMade p own w order → (b : Bool) → has 0 ≡ b → Part order
    part_together order each true is =
        let all = λ (client : ℕ) (lt : client < length own). same_group client lt ∙ is in
        let whole = part_is_all own w.made has all order (order_below own p (view w) order (made_from p own w order r each)) in
        let same = alone_is_all own w.made has all in
        subst (λ (part : List ℕ). EachCanBeMade p lone w part × IsSeenAlike p own lone has (world_after p own w order) (world_after p lone w part)) (sym whole)
        (subst (λ (l : List (List Call)). EachCanBeMade p l w order × IsSeenAlike p own l has (world_after p own w order) (world_after p l w order)) (sym same)
        (each, record { may = λ client is. refl; told = λ order client is. refl; ends = λ order. refl; left = refl }))
    part_together order each false is =
        let none = λ (client : ℕ) (lt : client < length own). same_group client lt ∙ is in
        let nothing = part_is_none own w.made has none order (order_below own p (view w) order (made_from p own w order r each)) in
        subst (λ (part : List ℕ). EachCanBeMade p lone w part × IsSeenAlike p own lone has (world_after p own w order) (world_after p lone w part)) (sym nothing) (
          made_to p lone w [] r tt,
          nothing_seen own w.made has none p (world_after p own w order) w (waits_behind own p w order r waits).1 waits.1,
        )

    goes_together : (order more : List ℕ) → EachCanBeMade p own w order → filter has order ≡ [] → EachCanBeMade p lone w more → Each (λ client. has client ≡ true) more → (b : Bool) → has 0 ≡ b →
        EachCanBeMade p own w (order ++ more)
    goes_together order more each none alone_made ours true is =
        let all = λ (client : ℕ) (lt : client < length own). same_group client lt ∙ is in
        let whole = part_is_all own w.made has all order (order_below own p (view w) order (made_from p own w order r each)) in
        subst (λ (l : List ℕ). EachCanBeMade p own w (l ++ more)) (sym (sym whole ∙ none))
        (subst (λ (l : List (List Call)). EachCanBeMade p l w more) (alone_is_all own w.made has all) alone_made)
    goes_together order more each none alone_made ours false is =
        let nobody = λ (client : ℕ) (lt : client < length own). same_group client lt ∙ is in
        subst (λ (l : List ℕ). EachCanBeMade p own w (order ++ l)) (sym (no_order own w.made has nobody p w more alone_made ours))
        (subst (λ (l : List ℕ). EachCanBeMade p own w l) (sym (append-nil order)) each)

  part_by : (b : Bool) → capabilities_may_change own w.made ≡ b → (order : List ℕ) → EachCanBeMade p own w order → Part order
  part_by true change order each = part_together change order each (has 0) refl
  part_by false keep order each = parts_apart keep order each

  goes_by : (b : Bool) → capabilities_may_change own w.made ≡ b → (order more : List ℕ) → EachCanBeMade p own w order → filter has order ≡ [] → EachCanBeMade p lone w more → Each (λ client. has client ≡ true) more →
      EachCanBeMade p own w (order ++ more)
  goes_by true change order more each none alone_made ours = goes_together change order more each none alone_made ours (has 0) refl
  goes_by false keep order more each none alone_made ours = goes_apart keep order more each none alone_made ours

-- ---- from the start on

pub has_part : (p : ProfileName) (own : List (List Call)) (A : State) (first groups : List ℕ) (group : ℕ) (order : List ℕ) → HasPart p own A first groups group order
has_part p own A first groups group order r are each =
    let w = world_after p own (start own A) first in
    part_by p own w groups group are (world_reached p own (start own A) first r) (waits_of_first own p A first r) (capabilities_may_change own w.made) refl order each

pub goes_on_alone : (p : ProfileName) (own : List (List Call)) (A : State) (first groups : List ℕ) (group : ℕ) (order more : List ℕ) → GoesOn p own A first groups group order more
goes_on_alone p own A first groups group order more r are each none alone_made ours =
    let w = world_after p own (start own A) first in
    goes_by p own w groups group are (world_reached p own (start own A) first r) (waits_of_first own p A first r) (capabilities_may_change own w.made) refl order more each none alone_made ours
