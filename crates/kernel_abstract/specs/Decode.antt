-- The checks of a call, in their order, each with the reason if it fails. They read only what is shown.
use Rattle.std.specs.Prelude.{ℕ, Bool, true, false, ◌==◌, cond, Option, None, Some, Result, Ok, Err}
use Rattle.std.specs.Int.RustNames.{bit_and}
use Rattle.std.specs.FinMap.{get}
use Rattle.cap_core.specs.declared.profile.ProfileName.{ProfileName}
use Rattle.cap_core.specs.declared.capability.Cap.{Cap}
use Rattle.cap_core.specs.declared.capability.Cap.TheVariants.{Null, Endpoint}
use Rattle.cap_core.specs.declared.capability.Kind.TheVariants as kind
use Rattle.cap_core.specs.declared.rights.Rights.{Rights}
use Rattle.cap_core.specs.declared.message.Message.{Message}
use Rattle.cap_core.specs.declared.refusal.Refusal.{Refusal}
use Rattle.cap_core.specs.Rights.{write_bit, read_bit}
use Rattle.cap_core.specs.Checks.{◌>>=◌}
use Rattle.kernel_forest.specs.Forest.{Forest}
use Rattle.kernel_forest.specs.Entries.{Entry, cap_at}
use Rattle.kernel_abstract.specs.declared.call.Call.{Call}
use Rattle.kernel_abstract.specs.declared.call.Op.{Op}
use Rattle.kernel_abstract.specs.declared.call.Op.TheVariants as op
use Rattle.kernel_abstract.specs.declared.call.ThreadState.{ThreadState}
use Rattle.kernel_abstract.specs.declared.call.ThreadState.TheVariants.{Ready}
use Rattle.kernel_abstract.specs.declared.invocation.Service.{Service}
use Rattle.kernel_abstract.specs.declared.invocation.Change.TheVariants.{Copy, Mint, Move, Mutate}
use Rattle.kernel_abstract.specs.declared.invocation.SlotArguments.{SlotArguments}
use Rattle.kernel_abstract.specs.declared.invocation.RetypeArguments.{RetypeArguments}
use Rattle.kernel_abstract.specs.declared.invocation.Invocation.{Invocation}
use Rattle.kernel_abstract.specs.declared.invocation.Invocation.TheVariants as invocation
use Rattle.kernel_abstract.specs.declared.reason.Right.{Right}
use Rattle.kernel_abstract.specs.declared.reason.Right.TheVariants.{Write, Read}
use Rattle.kernel_abstract.specs.declared.reason.Word.TheVariants.{Invoked}
use Rattle.kernel_abstract.specs.declared.reason.Reason.{Reason}
use Rattle.kernel_abstract.specs.declared.reason.Reason.TheVariants.{NoThread, NotReady, NoCapability, OtherKind, NoRight}
use Rattle.kernel_abstract.specs.Reasons.{with_refusal}
use Rattle.kernel_abstract.specs.Lookups.{slot_by_word}
use Rattle.kernel_abstract.specs.Retyping.{checked_retype}
use Rattle.kernel_abstract.specs.CNodes.{checked_placement}
use Rattle.kernel_abstract.specs.Deletion.{checked_slot, checked_badge}
use Rattle.kernel_abstract.specs.Threads.{checked_tcb, checked_space}
use Rattle.kernel_abstract.specs.Shown.{Shown, ThreadView}

-- the word by which an operation names the capability that it invokes
abbrev pub service_word : Op → ℕ
service_word (op.Retype cap kind size_bits root index depth offset count) = cap
service_word (op.CapCopy cap index depth src_root src_index src_depth rights) = cap
service_word (op.CapMint cap index depth src_root src_index src_depth rights word) = cap
service_word (op.CapMove cap index depth src_root src_index src_depth) = cap
service_word (op.CapMutate cap index depth src_root src_index src_depth word) = cap
service_word (op.CapDelete cap index depth) = cap
service_word (op.CapRevoke cap index depth) = cap
service_word (op.CancelBadged cap index depth) = cap
service_word (op.Send cap message) = cap
service_word (op.NbSend cap message) = cap
service_word (op.Recv cap) = cap
service_word (op.NbRecv cap) = cap
service_word (op.SetSpace cap root word) = cap
service_word (op.Suspend cap) = cap
service_word (op.Resume cap) = cap

-- a right is among an endpoint capability's rights
abbrev pub has_right : ℕ → Rights → Bool
has_right right rights = bit_and rights.0 right == right

abbrev pub right_bit : Right → ℕ
right_bit Write = write_bit
right_bit Read = read_bit

-- what a send or a receive may use of the invoked capability: an endpoint, with the right that it needs
abbrev pub service_in : Right → ℕ → Cap → Result Service Reason
service_in needed slot (Endpoint base badge rights) =
    cond (has_right (right_bit needed) rights) (Ok (record { endpoint = base; badge = badge }))
    (Err (NoRight (record { slot = slot; cap = Endpoint base badge rights }) needed))
service_in needed slot Null = Err (NoCapability slot kind.Endpoint)
service_in needed slot cap = Err (OtherKind (record { slot = slot; cap = cap }) kind.Endpoint)

abbrev pub checked_send : ℕ → Cap → Message → Bool → Result Invocation Reason
checked_send slot cap message block = service_in Write slot cap >>= λ service. Ok (invocation.Send service message block)

abbrev pub checked_receive : ℕ → Cap → Bool → Result Invocation Reason
checked_receive slot cap block = service_in Read slot cap >>= λ service. Ok (invocation.Receive service block)

-- the words of a retype that say what it makes, and into which slots its capabilities go
abbrev pub objects_asked : ℕ → ℕ → ℕ → ℕ → ℕ → ℕ → ℕ → RetypeArguments
objects_asked kind size_bits root index depth offset count = record {
  kind = kind;
  size_bits = size_bits;
  root = root;
  index = index;
  depth = depth;
  offset = offset;
  count = count;
}

-- the words by which a copy, a mint, a move or a mutate names its slots
abbrev pub slots_named : ℕ → ℕ → ℕ → ℕ → ℕ → SlotArguments
slots_named index depth src_root src_index src_depth =
    record { index = index; depth = depth; src_root = src_root; src_index = src_index; src_depth = src_depth }

-- what passed the checks, as an invocation of one kind
abbrev pub invoking : {X : Type 0} → (X → Invocation) → Result X Reason → Result Invocation Reason
invoking kind checked = checked >>= λ x. Ok (kind x)

-- what an operation of a thread does with the capability in the slot that it invokes
abbrev pub checked_invocation : ProfileName → Forest Entry → ℕ → Op → ℕ → Result Invocation Reason
checked_invocation p f thread (op.Retype cap kind size_bits root index depth offset count) slot =
    invoking invocation.Retype (checked_retype p f thread slot (objects_asked kind size_bits root index depth offset count))
checked_invocation p f thread (op.CapCopy cap index depth src_root src_index src_depth rights) slot =
    invoking invocation.Derive (checked_placement p f thread slot (slots_named index depth src_root src_index src_depth) (Copy rights))
checked_invocation p f thread (op.CapMint cap index depth src_root src_index src_depth rights word) slot =
    invoking invocation.Derive (checked_placement p f thread slot (slots_named index depth src_root src_index src_depth) (Mint rights word))
checked_invocation p f thread (op.CapMove cap index depth src_root src_index src_depth) slot =
    invoking invocation.Move (checked_placement p f thread slot (slots_named index depth src_root src_index src_depth) Move)
checked_invocation p f thread (op.CapMutate cap index depth src_root src_index src_depth word) slot =
    invoking invocation.Move (checked_placement p f thread slot (slots_named index depth src_root src_index src_depth) (Mutate word))
checked_invocation p f thread (op.CapDelete cap index depth) slot = invoking invocation.Delete (checked_slot p f slot index depth)
checked_invocation p f thread (op.CapRevoke cap index depth) slot = invoking invocation.Revoke (checked_slot p f slot index depth)
checked_invocation p f thread (op.CancelBadged cap index depth) slot = invoking invocation.CancelBadged (checked_badge p f slot index depth)
checked_invocation p f thread (op.Send cap message) slot = checked_send slot (cap_at f slot) message true
checked_invocation p f thread (op.NbSend cap message) slot = checked_send slot (cap_at f slot) message false
checked_invocation p f thread (op.Recv cap) slot = checked_receive slot (cap_at f slot) true
checked_invocation p f thread (op.NbRecv cap) slot = checked_receive slot (cap_at f slot) false
checked_invocation p f thread (op.SetSpace cap root word) slot = invoking invocation.SetSpace (checked_space p f thread slot root word)
checked_invocation p f thread (op.Suspend cap) slot = invoking invocation.Suspend (checked_tcb slot (cap_at f slot))
checked_invocation p f thread (op.Resume cap) slot = invoking invocation.Resume (checked_tcb slot (cap_at f slot))

-- the slot that the service word names, and then the operation's own checks
abbrev pub checked_op : ProfileName → Forest Entry → ℕ → Op → Result Invocation Reason
checked_op p f thread op = slot_by_word p f Invoked thread (service_word op) >>= checked_invocation p f thread op

-- a thread that is not ready makes no calls
abbrev pub ensure_ready : ThreadState → Result Invocation Reason → Result Invocation Reason
ensure_ready Ready found = found
ensure_ready state found = Err (NotReady state)

abbrev pub ensure_live : Option ThreadView → Result Invocation Reason → Result Invocation Reason
ensure_live None found = Err NoThread
ensure_live (Some thread) found = ensure_ready thread.state found

-- the first check that fails, or what the call does: the thread is live and ready, the word leads to a capability, and the
-- capability serves the operation
abbrev pub checked_call : ProfileName → Shown → Call → Result Invocation Reason
checked_call p v call = ensure_live (get v.threads call.thread) (checked_op p v.derivations call.thread call.op)

-- why a call is refused; None if it is not
abbrev pub reason_in : Result Invocation Reason → Option Reason
reason_in (Ok invocation) = None
reason_in (Err reason) = Some reason

abbrev pub reason_of : ProfileName → Shown → Call → Option Reason
reason_of p v call = reason_in (checked_call p v call)

-- the same with the refusal of the reason, which is all that a caller is answered
abbrev pub decoded_op : ProfileName → Forest Entry → ℕ → Op → Result Invocation Refusal
decoded_op p f thread op = with_refusal (checked_op p f thread op)

-- what a call asks for, or the refusal for the first check that fails
abbrev pub decoded_call : ProfileName → Shown → Call → Result Invocation Refusal
decoded_call p v call = with_refusal (checked_call p v call)
