-- A world as what is shown of it, and a client's call by what is shown alone.
use Rattle.std.proofs.Common.{◌≡◌, ℕ, Bool, List, [], ◌∷◌, ◌++◌, Option, None, Some, slice_get, refl, ap, sym, ◌∙◌}
use Rattle.cap_core.specs.declared.profile.ProfileName.{ProfileName}
use Rattle.kernel_abstract.specs.declared.call.Call.{Call}
use Rattle.kernel_abstract.specs.declared.call.Reply.{Reply}
use Rattle.kernel_abstract.specs.Shown.{Shown}
use Rattle.kernel_abstract.specs.State.{shown}
use Rattle.kernel_abstract.specs.Step.{step}
use Rattle.kernel_abstract.specs.Reached.{IsReached}
use Rattle.kernel_abstract.specs.Private.Effects.{Effect, effect_of}
use Rattle.kernel_abstract.proofs.Reached.Simulation.{simulates, reached_is}
use Rattle.query_orders.specs.declared.answer.WaitingCall.{WaitingCall}
use Rattle.query_orders.specs.World.{World, next_client_call, one_more, next_place, can_be_made, waiting_call, waits_after, with_call, after_call, world_after}
use Rattle.query_orders.specs.Answers.{Answered, replied, waits_ended, call_answers}
use Rattle.query_orders.proofs.Exploration.Steps.{world_reached}

pub record View : Type 0 where
  pub made : List ℕ
  pub waits : List WaitingCall
  pub shows : Shown

abbrev pub view : World → View
view w = record { made = w.made; waits = w.waits; shows = shown w.kernel }

abbrev pub with_effect : View → ℕ → Call → Effect → View
with_effect v client call e =
    record {
      made = one_more client (slice_get v.made client) v.made;
      waits = waits_after e.after v.waits (waiting_call call.thread client (next_place v.made client)) e.reply;
      shows = e.after;
    }

abbrev pub view_with : ProfileName → View → ℕ → Option Call → View
view_with p v client None = v
view_with p v client (Some call) = with_effect v client call (effect_of p v.shows call)

abbrev pub view_after : ProfileName → List (List Call) → View → ℕ → View
view_after p own v client = view_with p v client (next_client_call own v.made client)

abbrev pub views_after : ProfileName → List (List Call) → View → List ℕ → View
views_after p own v [] = v
views_after p own v (client ∷ order) = views_after p own (view_after p own v client) order

abbrev pub view_may : List (List Call) → View → ℕ → Bool
view_may own v client = can_be_made v.shows (next_client_call own v.made client)

abbrev pub effect_answers : View → List ℕ → ℕ → Effect → List Answered
effect_answers v order client e = replied order client (next_place v.made client) e.reply ++ waits_ended order e.after v.waits e.reply

abbrev pub view_answers : ProfileName → View → List ℕ → ℕ → Option Call → List Answered
view_answers p v order client None = []
view_answers p v order client (Some call) = effect_answers v (order ++ client ∷ []) client (effect_of p v.shows call)

module _ (p : ProfileName) where
  with_seen : (w : World) (client : ℕ) (c : Option Call) → IsReached p w.kernel → view (with_call p w client c) ≡ view_with p (view w) client c
  with_seen w client None r = refl
  with_seen w client (Some call) r =
      let s = simulates p r.plan.memory_bits w.kernel (reached_is p w.kernel r) call in
      let at = λ (reply : Reply) (after : Shown). (
      let m : View = record { made = one_more client (slice_get w.made client) w.made; waits = waits_after after w.waits (waiting_call call.thread client (next_place w.made client)) reply; shows = after } in m) in
      ap (λ (reply : Reply). at reply (shown (step p w.kernel call).state)) (sym s.0) ∙ ap (at (effect_of p (shown w.kernel) call).reply) (sym s.1)

  pub after_seen : (own : List (List Call)) (w : World) (client : ℕ) → IsReached p w.kernel → view (after_call p own w client) ≡ view_after p own (view w) client
  after_seen own w client r = with_seen w client (next_client_call own w.made client) r

  pub order_seen : (own : List (List Call)) (w : World) (order : List ℕ) → IsReached p w.kernel → view (world_after p own w order) ≡ views_after p own (view w) order
  order_seen own w [] r = refl
  order_seen own w (client ∷ order) r =
      order_seen own (after_call p own w client) order (world_reached p own w (client ∷ []) r) ∙ ap (λ (v : View). views_after p own v order) (after_seen own w client r)

  pub answers_seen : (w : World) (order : List ℕ) (client : ℕ) (c : Option Call) → IsReached p w.kernel → call_answers p w order client c ≡ view_answers p (view w) order client c
  answers_seen w order client None r = refl
  answers_seen w order client (Some call) r =
      let s = simulates p r.plan.memory_bits w.kernel (reached_is p w.kernel r) call in
      let longer = order ++ client ∷ [] in
      let at = λ (reply : Reply) (after : Shown). replied longer client (next_place w.made client) reply ++ waits_ended longer after w.waits reply in
      ap (λ (reply : Reply). at reply (shown (step p w.kernel call).state)) (sym s.0) ∙ ap (at (effect_of p (shown w.kernel) call).reply) (sym s.1)
