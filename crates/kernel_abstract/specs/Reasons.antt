-- What a reason for a refusal says: the refusal that is answered.
use Rattle.std.specs.Prelude.{ℕ, Result, Ok, Err}
use Rattle.cap_core.specs.declared.capability.Cap.{Cap}
use Rattle.cap_core.specs.declared.refusal.LookupFault.{LookupFault}
use Rattle.cap_core.specs.declared.refusal.LookupFault.TheVariants as fault
use Rattle.cap_core.specs.declared.refusal.Refusal.{Refusal}
use Rattle.cap_core.specs.declared.refusal.Refusal.TheVariants as refusal
use Rattle.kernel_abstract.specs.declared.reason.Held.{Held}
use Rattle.kernel_abstract.specs.declared.reason.Miss.{Miss}
use Rattle.kernel_abstract.specs.declared.reason.Miss.TheVariants.{NoRoot, OtherGuard, TooFewBits, BitsLeft}
use Rattle.kernel_abstract.specs.declared.reason.Reason.{Reason}
use Rattle.kernel_abstract.specs.declared.reason.Reason.TheVariants.{NoThread, NotReady, NotFound, NoDepth, NoCapability, OtherKind, NoRight, IsFull, IsEmpty, HasBadge, LongGuard, HasChildren, NotAllRights, NoSpace, NoKind, NoSize, TooLarge, TooSmall, NoNode, NoOffset, NoCount, FewSlots, SomeFull, NoRoom}

abbrev pub fault_of : Miss → LookupFault
fault_of NoRoot = fault.InvalidRoot
fault_of (OtherGuard node left read) = fault.GuardMismatch
fault_of (TooFewBits node left) = fault.DepthMismatch
fault_of (BitsLeft found left) = fault.DepthMismatch

-- the refusal that is answered for a reason
abbrev pub refusal_of : Reason → Refusal
refusal_of NoThread = refusal.NoThread
refusal_of (NotReady state) = refusal.NotReady
refusal_of (NotFound word from miss) = refusal.FailedLookup (fault_of miss)
refusal_of (NoDepth word from most) = refusal.RangeError
refusal_of (NoCapability slot wanted) = refusal.InvalidCapability
refusal_of (OtherKind found wanted) = refusal.IllegalOperation
refusal_of (NoRight found needed) = refusal.InvalidCapability
refusal_of (IsFull held) = refusal.DeleteFirst
refusal_of (IsEmpty slot) = refusal.FailedLookup fault.MissingCapability
refusal_of (HasBadge held) = refusal.IllegalOperation
refusal_of (LongGuard word node size most) = refusal.IllegalOperation
refusal_of (HasChildren source child) = refusal.RevokeFirst
refusal_of (NotAllRights held) = refusal.IllegalOperation
refusal_of (NoSpace held) = refusal.IllegalOperation
refusal_of NoKind = refusal.InvalidArgument
refusal_of (NoSize below) = refusal.RangeError
refusal_of (TooLarge kind bits most) = refusal.RangeError
refusal_of (TooSmall kind least) = refusal.InvalidArgument
refusal_of (NoNode word found) = refusal.FailedLookup fault.MissingCapability
refusal_of (NoOffset word node) = refusal.RangeError
refusal_of (NoCount most) = refusal.RangeError
refusal_of (FewSlots word node) = refusal.RangeError
refusal_of (SomeFull word node number full) = refusal.DeleteFirst
refusal_of (NoRoom untyped has_children start bits room) = refusal.NotEnoughMemory

-- a result with what is answered in place of its reason
abbrev pub answering : {X E : Type 0} → (Reason → E) → Result X Reason → Result X E
answering answer (Ok x) = Ok x
answering answer (Err reason) = Err (answer reason)

-- a result with the refusal instead of its reason
abbrev pub with_refusal : {X : Type 0} → Result X Reason → Result X Refusal
with_refusal result = answering refusal_of result

-- a lookup with the fault in place of what was missed
abbrev pub with_fault : {X : Type 0} → Result X Miss → Result X LookupFault
with_fault (Ok x) = Ok x
with_fault (Err miss) = Err (fault_of miss)

-- a check whose failure has one reason
abbrev pub because : {X E : Type 0} → Reason → Result X E → Result X Reason
because reason (Ok x) = Ok x
because reason (Err failure) = Err reason

-- a slot with what it holds
abbrev pub held_at : (ℕ → Cap) → ℕ → Held
held_at cap_in slot = record { slot = slot; cap = cap_in slot }
