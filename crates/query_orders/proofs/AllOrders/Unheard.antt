-- What a call of another group's client tells is not told of a group's clients.
use Rattle.std.proofs.Common.{◌≡◌, ◌≢◌, ℕ, ◌<◌, Bool, true, false, cond, not, List, [], ◌∷◌, ◌++◌, filter, length, slice_get, unwrap_or, Option, None, Some, refl, ap, sym, subst, ◌∙◌, arith}
use Rattle.std.specs.List.{AllByRecursion as Each}
use Rattle.std.proofs.lemmas.Bool.{false≢true}
use Rattle.cap_core.specs.declared.profile.ProfileName.{ProfileName}
use Rattle.kernel_abstract.specs.declared.call.Call.{Call}
use Rattle.kernel_abstract.specs.declared.call.Reply.{Reply}
use Rattle.kernel_abstract.specs.Shown.{Shown}
use Rattle.kernel_abstract.specs.State.{shown}
use Rattle.kernel_abstract.specs.Reached.{IsReached}
use Rattle.kernel_abstract.specs.Private.Effects.{effect_of}
use Rattle.query_orders.specs.declared.answer.Answer.TheVariants.{Replied}
use Rattle.query_orders.specs.declared.answer.WaitingCall.{WaitingCall}
use Rattle.query_orders.specs.World.{World, next_client_call, next_place, is_wait, still_waits, may_call, world_after}
use Rattle.query_orders.specs.Answers.{Answered, answered, replied, wait_ended, waits_ended, call_answers}
use Rattle.query_orders.specs.Groups.{AreGroups, capabilities_may_change, is_client_in, objects_of_client, share}
use Rattle.query_orders.proofs.Contained.{each_append}
use Rattle.query_orders.proofs.Possible.{caller_is_client}
use Rattle.query_orders.proofs.Exploration.Steps.{world_reached}
use Rattle.query_orders.proofs.Apart.Lists.{each_both, each_filter, each_map, each_passes, each_weaker}
use Rattle.query_orders.proofs.Apart.Contents.{or_left}
use Rattle.query_orders.proofs.Apart.Sides.{same_itself}
use Rattle.query_orders.proofs.Apart.Views.{View, view, views_after, view_answers, order_seen, answers_seen}
use Rattle.query_orders.proofs.Apart.Held.{WaitsHold}
use Rattle.query_orders.proofs.Apart.Agreement.{next_on_side, still_same}
use Rattle.query_orders.proofs.Apart.Unseen.{leaves}
use Rattle.query_orders.proofs.Apart.Parts.{Hold, holds_through}
use Rattle.query_orders.proofs.Apart.Touched.{has_same, on_thread, on_endpoint, all_on_sides, waits_on_sides, waiters_stand}
use Rattle.query_orders.proofs.Apart.Clients.{IsOfClient, waits_behind}

module _ (has : ℕ → Bool) where
  abbrev pub IsOther : Answered → Type 0
  IsOther a = has a.client ≡ false

  -- a call of the group that waits still does
  abbrev pub Stays : Shown → WaitingCall → Type 0
  Stays after call = has call.client ≡ true → still_waits after call ≡ true

  reply_other : (order : List ℕ) (client place : ℕ) (reply : Reply) → has client ≡ false → Each IsOther (replied order client place reply)
  reply_other order client place reply is = elim (is_wait reply) as (λ b. Each IsOther (cond b [] (answered order client place (Replied reply) ∷ []))) [ true ↦ tt | false ↦ (is, tt) ]

  ended_other : (order : List ℕ) (after : Shown) (waits : List WaitingCall) (reply : Reply) → Each (Stays after) waits → Each IsOther (waits_ended order after waits reply)
  ended_other order after waits reply stay =
      let gone = λ (call : WaitingCall). not (still_waits after call) in
      each_map IsOther (λ (call : WaitingCall). answered order call.client call.place (wait_ended reply call.thread)) (filter gone waits)
      (each_weaker (λ (call : WaitingCall). Stays after call × (gone call ≡ true)) (λ (call : WaitingCall). has call.client ≡ false) (λ call h. by call h.0 h.1 (has call.client) refl) (filter gone waits)
      (each_both (Stays after) (λ (call : WaitingCall). gone call ≡ true) (filter gone waits) (each_filter (Stays after) gone waits stay) (each_passes gone waits)))
    where
      by : (call : WaitingCall) → Stays after call → not (still_waits after call) ≡ true → (b : Bool) → has call.client ≡ b → b ≡ false
      by call stays ended true is = absurd (false≢true (sym (ap not (stays is)) ∙ ended))
      by call stays ended false is = refl

  told_other : (p : ProfileName) (v : View) (order : List ℕ) (client : ℕ) → has client ≡ false → (c : Option Call) →
      ((call : Call) → c ≡ Some call → Each (Stays (effect_of p v.shows call).after) v.waits) → Each IsOther (view_answers p v order client c)
  told_other p v order client is None stay = tt
  told_other p v order client is (Some call) stay =
      let e = effect_of p v.shows call in
      let longer = order ++ client ∷ [] in
      each_append IsOther (replied longer client (next_place v.made client) e.reply) (waits_ended longer e.after v.waits e.reply)
      (reply_other longer client (next_place v.made client) e.reply is) (ended_other longer e.after v.waits e.reply (stay call refl))

module _ (p : ProfileName) (own : List (List Call)) (w : World) (groups : List ℕ) (group : ℕ) (are : AreGroups p own w groups) (r : IsReached p w.kernel)
    (waits : WaitsHold (shown w.kernel) w.waits × Each (IsOfClient own) w.waits) where
  abbrev has : ℕ → Bool
  has = is_client_in groups group

  -- ---- where no call that is left changes a capability

  module _ (keep : capabilities_may_change own w.made ≡ false) where
    abbrev our_thread : ℕ → Bool
    our_thread = on_thread p own w groups group are

    abbrev our_endpoint : ℕ → Bool
    our_endpoint = on_endpoint p own w groups group are

    hold : Hold p own (shown w.kernel).derivations w.made has our_thread our_endpoint (all_on_sides p own w groups group are keep) (view w)
    hold = record {
      forest = refl;
      reached = record { state = w.kernel; reached = r; shows = refl };
      grown = λ c n is. (let at : unwrap_or (slice_get w.made c) 0 ≡ n = ap (λ (o : Option ℕ). unwrap_or o 0) is in omega (arith, at));
      stands = waiters_stand p own w groups group are r;
      sides = waits_on_sides p own w groups group are waits.1;
      waits = waits.0;
    }

    stay_apart : (order : List ℕ) (client : ℕ) → has client ≡ false → (call : Call) → next_client_call own (views_after p own (view w) order).made client ≡ Some call →
        Each (Stays has (effect_of p (views_after p own (view w) order).shows call).after) (views_after p own (view w) order).waits
    stay_apart order client is call next =
        let f = (shown w.kernel).derivations in
        let sides = all_on_sides p own w groups group are keep in
        let v = views_after p own (view w) order in
        let hv = holds_through p own f w.made has our_thread our_endpoint sides (view w) order hold in
        let after = (effect_of p v.shows call).after in
        let two : has client ≢ true = (λ yet. false≢true (sym is ∙ yet)) in
        let same = leaves p own f w.made has our_thread our_endpoint v hv client call (next_on_side p own f w.made has our_thread our_endpoint sides v hv client call next) true two v.shows
        (same_itself our_thread our_endpoint true v.shows) in
        each_weaker (λ (c : WaitingCall). (our_thread c.thread ≡ has c.client) × (still_waits v.shows c ≡ true)) (Stays has after)
        (λ c h ours. still_same p own f w.made has our_thread our_endpoint true after v.shows same c (h.0 ∙ ours) ∙ h.1) v.waits
        (each_both (λ (c : WaitingCall). our_thread c.thread ≡ has c.client) (λ (c : WaitingCall). still_waits v.shows c ≡ true) v.waits hv.sides hv.waits.still)

  -- ---- where capabilities may change: all clients are in one group

  module _ (change : capabilities_may_change own w.made ≡ true) where
    same_group : (client other : ℕ) → client < length own → other < length own → has client ≡ has other
    same_group client other lt lt' =
        has_same p own w groups group are client other lt lt'
        (or_left (capabilities_may_change own w.made) (share (objects_of_client p own w client) (objects_of_client p own w other)) change)

    stay_together : (x : World) → Each (IsOfClient own) x.waits → (after : Shown) (client : ℕ) → client < length own → has client ≡ false → Each (Stays has after) x.waits
    stay_together x of after client lt is =
        each_weaker (IsOfClient own) (Stays has after) (λ call below ours. absurd (false≢true (sym is ∙ same_group client call.client lt below ∙ ours))) x.waits of

  pub unheard : (order : List ℕ) → (with_order : List ℕ) (client : ℕ) → has client ≡ false → may_call own (world_after p own w order) client ≡ true →
      Each (IsOther has) (call_answers p (world_after p own w order) with_order client (next_client_call own (world_after p own w order).made client))
  unheard order with_order client is may =
      let x = world_after p own w order in
      let next = next_client_call own x.made client in
      let reached = world_reached p own w order r in
      subst (Each (IsOther has)) (sym (answers_seen p x with_order client next reached))
      (told_other has p (view x) with_order client is next (λ call e. by (capabilities_may_change own w.made) refl call e))
    where
      by : (b : Bool) → capabilities_may_change own w.made ≡ b → (call : Call) → next_client_call own (world_after p own w order).made client ≡ Some call →
          Each (Stays has (effect_of p (view (world_after p own w order)).shows call).after) (world_after p own w order).waits
      by true change call e =
          stay_together change (world_after p own w order) (waits_behind own p w order r waits).1 (effect_of p (view (world_after p own w order)).shows call).after client
          (caller_is_client own (world_after p own w order) client may) is
      by false keep call e =
          subst (λ (v : View). next_client_call own v.made client ≡ Some call → Each (Stays has (effect_of p v.shows call).after) v.waits) (sym (order_seen p own w order r))
          (stay_apart keep order client is call) e
