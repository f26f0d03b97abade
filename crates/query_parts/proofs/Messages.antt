-- A call that sends or receives comes to that, or is refused.
use Rattle.std.proofs.Common.{ℕ, Bool, true, false, Option, Some, None, Result, Ok, Err}
use Rattle.std.specs.Bool.{⊤}
use Rattle.std.specs.FinMap.{get}
use Rattle.cap_core.specs.declared.profile.ProfileName.{ProfileName}
use Rattle.cap_core.specs.declared.message.Message.{Message}
use Rattle.cap_core.specs.Checks.{◌>>=◌}
use Rattle.kernel_forest.specs.Forest.{Forest}
use Rattle.kernel_forest.specs.Entries.{Entry, cap_at}
use Rattle.kernel_abstract.specs.declared.call.Call.{Call}
use Rattle.kernel_abstract.specs.declared.call.Op.{Op}
use Rattle.kernel_abstract.specs.declared.call.Op.TheVariants as op
use Rattle.kernel_abstract.specs.declared.call.ThreadState.{ThreadState}
use Rattle.kernel_abstract.specs.declared.call.ThreadState.TheVariants.{Ready, Inactive, Sending, Receiving}
use Rattle.kernel_abstract.specs.declared.invocation.Service.{Service}
use Rattle.kernel_abstract.specs.declared.invocation.Invocation.{Invocation}
use Rattle.kernel_abstract.specs.declared.invocation.Invocation.TheVariants.{Send, Receive}
use Rattle.kernel_abstract.specs.declared.reason.Word.TheVariants.{Invoked}
use Rattle.kernel_abstract.specs.declared.reason.Right.TheVariants.{Write, Read}
use Rattle.kernel_abstract.specs.declared.reason.Reason.{Reason}
use Rattle.kernel_abstract.specs.Reasons.{with_refusal}
use Rattle.kernel_abstract.specs.Lookups.{slot_by_word}
use Rattle.kernel_abstract.specs.Decode.{service_in, checked_invocation, checked_op, checked_call, decoded_call, ensure_ready, ensure_live}
use Rattle.kernel_abstract.specs.Shown.{Shown, ThreadView}
use Rattle.query_parts.specs.Laws.{OnlyPasses}

-- a send, or a receive
abbrev pub IsMessage : Invocation → Type 0
IsMessage (Send service message block) = ⊤
IsMessage (Receive service block) = ⊤
IsMessage done = ⊥

abbrev pub MayBeMessage : {E : Type 0} → Result Invocation E → Type 0
MayBeMessage (Ok done) = IsMessage done
MayBeMessage (Err failure) = ⊤

sends : (r : Result Service Reason) (message : Message) (block : Bool) → MayBeMessage (r >>= λ service. Ok (Send service message block))
sends (Ok service) message block = tt
sends (Err reason) message block = tt

receives : (r : Result Service Reason) (block : Bool) → MayBeMessage (r >>= λ service. Ok (Receive service block))
receives (Ok service) block = tt
receives (Err reason) block = tt

through : (next : ℕ → Result Invocation Reason) (r : Result ℕ Reason) → ((slot : ℕ) → MayBeMessage (next slot)) → MayBeMessage (r >>= next)
through next (Ok slot) on = on slot
through next (Err reason) on = tt

op_passes : (p : ProfileName) (f : Forest Entry) (thread : ℕ) (o : Op) → OnlyPasses o → MayBeMessage (checked_op p f thread o)
op_passes p f thread (op.Retype cap kind size_bits root index depth offset count) is = absurd is
op_passes p f thread (op.CapCopy cap index depth src_root src_index src_depth rights) is = absurd is
op_passes p f thread (op.CapMint cap index depth src_root src_index src_depth rights word) is = absurd is
op_passes p f thread (op.CapMove cap index depth src_root src_index src_depth) is = absurd is
op_passes p f thread (op.CapMutate cap index depth src_root src_index src_depth word) is = absurd is
op_passes p f thread (op.CapDelete cap index depth) is = absurd is
op_passes p f thread (op.CapRevoke cap index depth) is = absurd is
op_passes p f thread (op.CancelBadged cap index depth) is = absurd is
op_passes p f thread (op.Send cap message) is =
    through (checked_invocation p f thread (op.Send cap message)) (slot_by_word p f Invoked thread cap) (λ slot. sends (service_in Write slot (cap_at f slot)) message true)
op_passes p f thread (op.NbSend cap message) is =
    through (checked_invocation p f thread (op.NbSend cap message)) (slot_by_word p f Invoked thread cap) (λ slot. sends (service_in Write slot (cap_at f slot)) message false)
op_passes p f thread (op.Recv cap) is =
    through (checked_invocation p f thread (op.Recv cap)) (slot_by_word p f Invoked thread cap) (λ slot. receives (service_in Read slot (cap_at f slot)) true)
op_passes p f thread (op.NbRecv cap) is =
    through (checked_invocation p f thread (op.NbRecv cap)) (slot_by_word p f Invoked thread cap) (λ slot. receives (service_in Read slot (cap_at f slot)) false)
op_passes p f thread (op.SetSpace cap root word) is = absurd is
op_passes p f thread (op.Suspend cap) is = absurd is
op_passes p f thread (op.Resume cap) is = absurd is

ready_passes : (state : ThreadState) (found : Result Invocation Reason) → MayBeMessage found → MayBeMessage (ensure_ready state found)
ready_passes Ready found is = is
ready_passes Inactive found is = tt
ready_passes (Sending base) found is = tt
ready_passes (Receiving base) found is = tt

live_passes : (o : Option ThreadView) (found : Result Invocation Reason) → MayBeMessage found → MayBeMessage (ensure_live o found)
live_passes None found is = tt
live_passes (Some thread) found is = ready_passes thread.state found is

refused_passes : (r : Result Invocation Reason) → MayBeMessage r → MayBeMessage (with_refusal r)
refused_passes (Ok done) is = is
refused_passes (Err reason) is = tt

pub call_passes : (p : ProfileName) (v : Shown) (call : Call) → OnlyPasses call.op → MayBeMessage (decoded_call p v call)
call_passes p v call is =
    refused_passes (checked_call p v call)
    (live_passes (get v.threads call.thread) (checked_op p v.derivations call.thread call.op) (op_passes p v.derivations call.thread call.op is))
