-- A refusal changes nothing that is shown.
use Rattle.std.proofs.Common.{◌≡◌, ℕ, Bool, true, false, List, Option, None, Some, Result, Ok, Err, refl}
use Rattle.cap_core.specs.declared.profile.ProfileName.{ProfileName}
use Rattle.cap_core.specs.declared.message.Message.{Message}
use Rattle.cap_core.specs.declared.refusal.Refusal.{Refusal}
use Rattle.ipc_core.specs.declared.waiter.Waiter.{Waiter}
use Rattle.ipc_core.specs.declared.waiter.Offer.{Offer}
use Rattle.ipc_core.specs.Waits.{first_receiver, first_sender}
use Rattle.kernel_abstract.specs.declared.call.Call.{Call}
use Rattle.kernel_abstract.specs.declared.call.Reply.TheVariants.{Refused}
use Rattle.kernel_abstract.specs.declared.invocation.Service.{Service}
use Rattle.kernel_abstract.specs.declared.invocation.Invocation.{Invocation}
use Rattle.kernel_abstract.specs.declared.invocation.Invocation.TheVariants.{Send, Receive, Retype, Derive, Move, Delete, Revoke, CancelBadged, SetSpace, Suspend, Resume}
use Rattle.kernel_abstract.specs.Shown.{Shown, waiting_at}
use Rattle.kernel_abstract.specs.Decode.{decoded_call}
use Rattle.kernel_abstract.specs.Private.Effects.{send_to_first, receive_from_first, decoded_effect, effect_of}

send_unrefused : (v : Shown) (t : ℕ) (service : Service) (message : Message) (list : List Waiter) (block : Bool) (o : Option ℕ) (refusal : Refusal) → (send_to_first v t service message list block o).reply ≡ Refused refusal → ⊥
send_unrefused v t service message list true None refusal h = cc
send_unrefused v t service message list false None refusal h = cc
send_unrefused v t service message list block (Some to) refusal h = cc

receive_unrefused : (v : Shown) (t : ℕ) (service : Service) (list : List Waiter) (block : Bool) (o : Option Offer) (refusal : Refusal) → (receive_from_first v t service list block o).reply ≡ Refused refusal → ⊥
receive_unrefused v t service list true None refusal h = cc
receive_unrefused v t service list false None refusal h = cc
receive_unrefused v t service list block (Some offer) refusal h = cc

invocation_refused : (p : ProfileName) (v : Shown) (t : ℕ) (r : Result Invocation Refusal) (refusal : Refusal) → (decoded_effect p v t r).reply ≡ Refused refusal → (decoded_effect p v t r).after ≡ v
invocation_refused p v t (Err other) refusal h = refl
invocation_refused p v t (Ok (Send service message block)) refusal h = absurd (send_unrefused v t service message (waiting_at v service.endpoint) block (first_receiver (waiting_at v service.endpoint)) refusal h)
invocation_refused p v t (Ok (Receive service block)) refusal h = absurd (receive_unrefused v t service (waiting_at v service.endpoint) block (first_sender (waiting_at v service.endpoint)) refusal h)
invocation_refused p v t (Ok (Retype new)) refusal h = cc
invocation_refused p v t (Ok (Derive placement)) refusal h = cc
invocation_refused p v t (Ok (Move placement)) refusal h = cc
invocation_refused p v t (Ok (Delete slot)) refusal h = cc
invocation_refused p v t (Ok (Revoke slot)) refusal h = cc
invocation_refused p v t (Ok (CancelBadged service)) refusal h = cc
invocation_refused p v t (Ok (SetSpace new)) refusal h = cc
invocation_refused p v t (Ok (Suspend tcb)) refusal h = cc
invocation_refused p v t (Ok (Resume tcb)) refusal h = cc

pub refused_keeps : (p : ProfileName) (v : Shown) (call : Call) (refusal : Refusal) → (effect_of p v call).reply ≡ Refused refusal → (effect_of p v call).after ≡ v
refused_keeps p v call refusal h = invocation_refused p v call.thread (decoded_call p v call) refusal h
