-- What holds of each world on the way, and where two worlds agree on the clients of one side.
use Rattle.std.proofs.Common.{◌≡◌, ℕ, true, false, cond, List, [], filter, Option, None, Some, refl, sym, subst}
use Rattle.std.specs.List.{AllByRecursion as Each}
use Rattle.cap_core.specs.declared.profile.ProfileName.{ProfileName}
use Rattle.kernel_abstract.specs.declared.call.Call.{Call}
use Rattle.kernel_abstract.specs.declared.call.Reply.{Reply}
use Rattle.kernel_abstract.specs.Decode.{decoded_call}
use Rattle.kernel_abstract.specs.Shown.{Shown, state_at}
use Rattle.kernel_abstract.specs.Private.Effects.{effect_of}
use Rattle.query_orders.specs.declared.answer.WaitingCall.{WaitingCall}
use Rattle.query_orders.specs.World.{next_place, is_wait, is_waiting, still_waits, waiting_call, waits_with, waits_after}
use Rattle.query_orders.proofs.Apart.Lists.{each_passes}
use Rattle.query_orders.proofs.Apart.Waits.{waits_with_is, each_put, AreOrdered, ordered_filter, ordered_put}
use Rattle.query_orders.proofs.Apart.Waiting.{waits_told}
use Rattle.query_orders.proofs.Apart.Views.{View, view_with}

-- ---- the calls that wait are shown to wait, in the order of their threads, whatever is called

pub record WaitsHold (shows : Shown) (waits : List WaitingCall) : Type 0 where
  pub still : Each (λ (call : WaitingCall). still_waits shows call ≡ true) waits
  pub ordered : AreOrdered waits

pub no_waits : (shows : Shown) → WaitsHold shows []
no_waits shows = record { still = tt; ordered = tt }

module _ (after : Shown) (waits : List WaitingCall) (new : WaitingCall) where
  abbrev kept : List WaitingCall
  kept = filter (still_waits after) waits

  -- what holds of each call that waited and of the new one holds of each then
  pub each_after : (P : WaitingCall → Type 0) (reply : Reply) → (is_wait reply ≡ true → P new) → Each P kept → Each P (waits_after after waits new reply)
  each_after P reply n h = elim (is_wait reply) as (λ b. is_wait reply ≡ b → Each P (cond b (waits_with kept new) kept)) [
    | true ↦ (λ e. subst (Each P) (sym (waits_with_is new kept)) (each_put new P kept (n e) h))
    | false ↦ (λ e. h)
  ] refl

  pub waits_hold : (reply : Reply) → (is_wait reply ≡ true → is_waiting (state_at after new.thread) ≡ true) → AreOrdered waits → WaitsHold after (waits_after after waits new reply)
  waits_hold reply told ordered = record {
    still = each_after (λ (call : WaitingCall). still_waits after call ≡ true) reply told (each_passes (still_waits after) waits);
    ordered = (
        let rest = ordered_filter (still_waits after) waits ordered in
        elim (is_wait reply) as (λ b. AreOrdered (cond b (waits_with kept new) kept)) [
          | true ↦ subst AreOrdered (sym (waits_with_is new kept)) (ordered_put new kept rest)
          | false ↦ rest
        ]);
  }

pub with_waits : (p : ProfileName) (v : View) (client : ℕ) (c : Option Call) → WaitsHold v.shows v.waits → WaitsHold (view_with p v client c).shows (view_with p v client c).waits
with_waits p v client None h = h
with_waits p v client (Some call) h =
    let e = effect_of p v.shows call in
    waits_hold e.after v.waits (waiting_call call.thread client (next_place v.made client)) e.reply (waits_told v.shows call.thread p (decoded_call p v.shows call)) h.ordered
