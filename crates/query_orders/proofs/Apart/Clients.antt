-- Only the clients call, and only their calls wait.
use Rattle.std.proofs.Common.{◌≡◌, ℕ, ◌<◌, true, false, List, [], ◌∷◌, length, Option, None, Some, slice_get, refl, sym, subst, ◌∙◌, inl, inr}
use Rattle.std.proofs.lemmas.Option.{slice_get_cases}
use Rattle.std.specs.List.{AllByRecursion as Each}
use Rattle.cap_core.specs.declared.profile.ProfileName.{ProfileName}
use Rattle.kernel_abstract.specs.declared.call.Call.{Call}
use Rattle.kernel_abstract.specs.State.{State, shown}
use Rattle.kernel_abstract.specs.Reached.{IsReached}
use Rattle.kernel_abstract.specs.Private.Effects.{effect_of}
use Rattle.query_orders.specs.declared.answer.WaitingCall.{WaitingCall}
use Rattle.query_orders.specs.World.{World, start, next_client_call, next_place, still_waits, waiting_call, can_be_made, world_after}
use Rattle.query_orders.proofs.Possible.{no_calls}
use Rattle.query_orders.proofs.Apart.Lists.{each_filter}
use Rattle.query_orders.proofs.Apart.Views.{View, view, view_with, view_after, views_after, view_may, order_seen}
use Rattle.query_orders.proofs.Apart.Held.{WaitsHold, no_waits, each_after, with_waits}
use Rattle.query_orders.proofs.Apart.Parts.{CanBeMade}

module _ (own : List (List Call)) where
  pub no_next : (made : List ℕ) (client : ℕ) → slice_get own client ≡ None → next_client_call own made client ≡ None
  no_next made client none = no_calls own client (slice_get made client) none

  pub caller_below : (made : List ℕ) (client : ℕ) (call : Call) → next_client_call own made client ≡ Some call → client < length own
  caller_below made client call h = elim ((slice_get_cases own client).1) as (λ _. client < length own) [
    | inl found ↦ found.1
    | inr none ↦ absurd (let no : ◌≡◌ {A = Option Call} None (Some call) = sym (no_next made client none.1) ∙ h in cc)
  ]

  pub may_below : (v : View) (client : ℕ) → view_may own v client ≡ true → client < length own
  may_below v client h = by (next_client_call own v.made client) refl h
    where
      by : (c : Option Call) → next_client_call own v.made client ≡ c → can_be_made v.shows c ≡ true → client < length own
      by None e may = absurd (let no : false ≡ true = may in cc)
      by (Some call) e may = caller_below v.made client call e

  abbrev pub IsOfClient : WaitingCall → Type 0
  IsOfClient call = call.client < length own

  module _ (p : ProfileName) where
    pub order_below : (v : View) (order : List ℕ) → CanBeMade p own v order → Each (λ client. client < length own) order
    order_below v [] h = tt
    order_below v (client ∷ order) h = (may_below v client h.0, order_below (view_after p own v client) order h.1)

    -- ---- the calls that wait

    abbrev WaitsAreClients : View → Type 0
    WaitsAreClients v = WaitsHold v.shows v.waits × Each IsOfClient v.waits

    with_clients : (v : View) (client : ℕ) (c : Option Call) → next_client_call own v.made client ≡ c → WaitsAreClients v → WaitsAreClients (view_with p v client c)
    with_clients v client None e h = h
    with_clients v client (Some call) e h =
        let d = effect_of p v.shows call in (
          with_waits p v client (Some call) h.0,
          each_after d.after v.waits (waiting_call call.thread client (next_place v.made client)) IsOfClient d.reply (λ _. caller_below v.made client call e)
              (each_filter IsOfClient (still_waits d.after) v.waits h.1),
        )

    clients_through : (v : View) (order : List ℕ) → WaitsAreClients v → WaitsAreClients (views_after p own v order)
    clients_through v [] h = h
    clients_through v (client ∷ order) h = clients_through (view_after p own v client) order (with_clients v client (next_client_call own v.made client) refl h)

    pub waits_behind : (w : World) (order : List ℕ) → IsReached p w.kernel → WaitsHold (shown w.kernel) w.waits × Each IsOfClient w.waits →
        WaitsHold (shown (world_after p own w order).kernel) (world_after p own w order).waits × Each IsOfClient (world_after p own w order).waits
    waits_behind w order r h = subst WaitsAreClients (sym (order_seen p own w order r)) (clients_through (view w) order h)

    pub waits_of_first : (A : State) (first : List ℕ) → IsReached p A →
        WaitsHold (shown (world_after p own (start own A) first).kernel) (world_after p own (start own A) first).waits × Each IsOfClient (world_after p own (start own A) first).waits
    waits_of_first A first r = waits_behind (start own A) first r (no_waits (shown A), tt)
