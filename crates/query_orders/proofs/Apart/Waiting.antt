-- A call that is answered that it waits: its thread is shown to wait.
use Rattle.std.proofs.Common.{◌≡◌, ℕ, Bool, true, false, cond, List, Option, None, Some, option_map, Result, Ok, Err, refl, ap, ◌∙◌, eq-eqb}
use Rattle.std.specs.FinMap.{get}
use Rattle.cap_core.specs.declared.profile.ProfileName.{ProfileName}
use Rattle.cap_core.specs.declared.message.Message.{Message}
use Rattle.cap_core.specs.declared.refusal.Refusal.{Refusal}
use Rattle.ipc_core.specs.declared.waiter.Waiter.{Waiter}
use Rattle.ipc_core.specs.declared.waiter.Offer.{Offer}
use Rattle.ipc_core.specs.Waits.{first_receiver, first_sender}
use Rattle.kernel_abstract.specs.declared.call.ThreadState.TheVariants.{Sending, Receiving}
use Rattle.kernel_abstract.specs.declared.invocation.Service.{Service}
use Rattle.kernel_abstract.specs.declared.invocation.Invocation.{Invocation}
use Rattle.kernel_abstract.specs.declared.invocation.Invocation.TheVariants as invocation
use Rattle.kernel_abstract.specs.Shown.{Shown, ThreadView, state_at, waiting_at, inbox_at}
use Rattle.kernel_abstract.specs.Private.Effects.{Effect, send_to_first, receive_from_first, decoded_effect}
use Rattle.kernel_abstract.proofs.Lists.Tables.{get_after}
use Rattle.query_orders.specs.World.{is_wait, is_waiting}
use Rattle.query_orders.proofs.Apart.Sides.{with_row}

abbrev pub WaitsWhereTold : ℕ → Effect → Type 0
WaitsWhereTold t e = is_wait e.reply ≡ true → is_waiting (state_at e.after t) ≡ true

row_there : (x : Shown) (t : ℕ) (row : ThreadView) → state_at (with_row x t row) t ≡ Some row.state
row_there x t row =
    ap (λ (o : Option ThreadView). option_map (λ (r : ThreadView). r.state) o) (get_after x.threads t row t ∙ ap (λ (b : Bool). cond b (Some row) (get x.threads t)) (eq-eqb t t refl))

module _ (x : Shown) (t : ℕ) where
  send_waits : (service : Service) (message : Message) (list : List Waiter) (block : Bool) (o : Option ℕ) → WaitsWhereTold t (send_to_first x t service message list block o)
  send_waits service message list true None h = ap is_waiting (row_there x t (record { state = Sending service.endpoint; inbox = inbox_at x t }))
  send_waits service message list false None h = cc
  send_waits service message list block (Some to) h = cc

  receive_waits : (service : Service) (list : List Waiter) (block : Bool) (o : Option Offer) → WaitsWhereTold t (receive_from_first x t service list block o)
  receive_waits service list true None h = ap is_waiting (row_there x t (record { state = Receiving service.endpoint; inbox = inbox_at x t }))
  receive_waits service list false None h = cc
  receive_waits service list block (Some offer) h = cc

  pub waits_told : (p : ProfileName) (r : Result Invocation Refusal) → WaitsWhereTold t (decoded_effect p x t r)
  waits_told p (Err refusal) h = cc
  waits_told p (Ok (invocation.Send service message block)) h = send_waits service message (waiting_at x service.endpoint) block (first_receiver (waiting_at x service.endpoint)) h
  waits_told p (Ok (invocation.Receive service block)) h = receive_waits service (waiting_at x service.endpoint) block (first_sender (waiting_at x service.endpoint)) h
  waits_told p (Ok (invocation.Retype new)) h = cc
  waits_told p (Ok (invocation.Derive placement)) h = cc
  waits_told p (Ok (invocation.Move placement)) h = cc
  waits_told p (Ok (invocation.Delete slot)) h = cc
  waits_told p (Ok (invocation.Revoke slot)) h = cc
  waits_told p (Ok (invocation.CancelBadged service)) h = cc
  waits_told p (Ok (invocation.SetSpace new)) h = cc
  waits_told p (Ok (invocation.Suspend tcb)) h = cc
  waits_told p (Ok (invocation.Resume tcb)) h = cc
