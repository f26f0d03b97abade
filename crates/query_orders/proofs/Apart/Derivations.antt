-- Calls that change no capability leave the full slots as they are, each with the slot that it is derived from.
use Rattle.std.proofs.Common.{◌≡◌, ℕ, ◌<◌, Bool, true, false, not, List, [], ◌∷◌, length, Option, None, Some, option_and_then, slice_get, unwrap_or, refl, ap, sym, subst, ◌∙◌}
use Rattle.std.specs.List.{Contains, list_any, AllByRecursion as Each}
use Rattle.std.proofs.lemmas.Bool.{false≢true}
use Rattle.std.proofs.lemmas.Option.{slice_get_within}
use Rattle.cap_core.specs.declared.profile.ProfileName.{ProfileName}
use Rattle.ipc_core.specs.declared.waiter.Waiter.{Waiter}
use Rattle.kernel_abstract.specs.declared.call.Call.{Call}
use Rattle.kernel_abstract.specs.declared.call.Reply.{Reply}
use Rattle.kernel_abstract.specs.Decode.{decoded_call}
use Rattle.kernel_abstract.specs.Shown.{Shown, waiting_at}
use Rattle.kernel_abstract.specs.State.{State, shown}
use Rattle.kernel_abstract.specs.Step.{step}
use Rattle.kernel_abstract.specs.Reached.{IsReached, StepsTo}
use Rattle.kernel_abstract.proofs.Reached.Simulation.{simulates, reached_is}
use Rattle.query_orders.specs.World.{World, call_of_client_at, next_client_call, with_call, after_call, world_after}
use Rattle.query_orders.specs.Orders.{clients}
use Rattle.query_orders.specs.Groups.{keeps_capabilities, calls_left, capabilities_may_change}
use Rattle.query_orders.proofs.Contained.{contains-below}
use Rattle.query_orders.proofs.Exploration.Steps.{reached_with}
use Rattle.query_orders.proofs.Apart.Contents.{none_of, contains_at}
use Rattle.query_orders.proofs.Apart.Live.{tidy}
use Rattle.query_orders.proofs.Apart.Fitting.{decoded_fits}
use Rattle.query_orders.proofs.Apart.Sides.{StandsAt}
use Rattle.query_orders.proofs.Apart.Effects.{effects_kept}

-- all threads and endpoints stand on one side
abbrev all : ℕ → Bool
all n = true

all_stand : (list : List Waiter) → Each (StandsAt all all true) list
all_stand [] = tt
all_stand (waiter ∷ list) = (refl, all_stand list)

derivations_stay : (p : ProfileName) (A : State) (call : Call) (reply : Reply) (new : Shown) → IsReached p A → StepsTo p A call reply new → keeps_capabilities call.op ≡ true → new.derivations ≡ (shown A).derivations
derivations_stay p A call reply new r steps keeps =
    let v = shown A in
    let fits = decoded_fits all all true p v call keeps (λ e is. refl) (λ t is. refl) (λ e is. refl) in
    let kept = effects_kept all all true call.thread refl v (λ e. all_stand (waiting_at v e)) p (decoded_call p v call) fits (tidy p v (record { state = A; reached = r; shows = refl })) in
    ap (λ (x : Shown). x.derivations) (steps.shows ∙ sym (simulates p r.plan.memory_bits A (reached_is p A r) call).1) ∙ kept.0

-- ---- and no order changes one, where no call of a client may

module _ (p : ProfileName) (own : List (List Call)) (keep : capabilities_may_change own [] ≡ false) where
  keeps_so : (client place : ℕ) (call : Call) → call_of_client_at own client place ≡ Some call → keeps_capabilities call.op ≡ true
  keeps_so client place call at = by (slice_get own client) refl at
    where
      not_false : (b : Bool) → not b ≡ false → b ≡ true
      not_false true h = refl
      not_false false h = absurd (false≢true (sym h))

      by : (o : Option (List Call)) → slice_get own client ≡ o → option_and_then (λ (calls : List Call). slice_get calls place) o ≡ Some call → keeps_capabilities call.op ≡ true
      by None e is = absurd (let no : ◌≡◌ {A = Option Call} None (Some call) = is in cc)
      by (Some calls) e is =
          let left : Contains (calls_left own [] client) call = subst (λ (o : Option (List Call)). Contains (unwrap_or o []) call) (sym e) (contains_at calls place call is) in
          let of_client = none_of (λ client. list_any (λ (call : Call). not (keeps_capabilities call.op)) (calls_left own [] client)) (clients own) client keep
          (contains-below (length own) client (slice_get_within own client calls e)) in
          not_false (keeps_capabilities call.op) (none_of (λ (call : Call). not (keeps_capabilities call.op)) (calls_left own [] client) call of_client left)

  next_keeps : (made : List ℕ) (client : ℕ) (call : Call) (o : Option ℕ) → option_and_then (call_of_client_at own client) o ≡ Some call → keeps_capabilities call.op ≡ true
  next_keeps made client call None is = absurd (let no : ◌≡◌ {A = Option Call} None (Some call) = is in cc)
  next_keeps made client call (Some place) is = keeps_so client place call is

  call_stays : (w : World) (client : ℕ) (call : Option Call) → IsReached p w.kernel → next_client_call own w.made client ≡ call → (shown (with_call p w client call).kernel).derivations ≡ (shown w.kernel).derivations
  call_stays w client None r is = refl
  call_stays w client (Some call) r is =
      derivations_stay p w.kernel call (step p w.kernel call).reply (shown (step p w.kernel call).state) r (record { reply_is = refl; shows = refl }) (next_keeps w.made client call (slice_get w.made client) is)

  pub orders_stay : (w : World) (order : List ℕ) → IsReached p w.kernel → (shown (world_after p own w order).kernel).derivations ≡ (shown w.kernel).derivations
  orders_stay w [] r = refl
  orders_stay w (client ∷ order) r =
      let call = next_client_call own w.made client in
      orders_stay (after_call p own w client) order (reached_with p w client call r) ∙ call_stays w client call r refl
