-- The numbers of the refusals.
use Rattle.std.specs.Prelude.{ℕ}
use Rattle.cap_core.specs.declared.refusal.Refusal.{Refusal}
use Rattle.cap_core.specs.declared.refusal.Refusal.TheVariants.{InvalidArgument, InvalidCapability, IllegalOperation, RangeError, FailedLookup, DeleteFirst, RevokeFirst, NotEnoughMemory, NoThread, NotReady}
use Rattle.cap_core.specs.declared.refusal.LookupFault.{LookupFault}
use Rattle.cap_core.specs.declared.refusal.LookupFault.TheVariants.{InvalidRoot, MissingCapability, DepthMismatch, GuardMismatch}

-- the number of a refusal, as seL4 numbers its errors
abbrev pub refusal_code : Refusal → ℕ
refusal_code InvalidArgument = 1
refusal_code InvalidCapability = 2
refusal_code IllegalOperation = 3
refusal_code RangeError = 4
refusal_code (FailedLookup fault) = 6
refusal_code DeleteFirst = 8
refusal_code RevokeFirst = 9
refusal_code NotEnoughMemory = 10
refusal_code NoThread = 100
refusal_code NotReady = 101

-- the number of a lookup failure's kind
abbrev pub fault_kind : LookupFault → ℕ
fault_kind InvalidRoot = 1
fault_kind MissingCapability = 2
fault_kind DepthMismatch = 3
fault_kind GuardMismatch = 4

-- the kind of a failed lookup, and 0 for another refusal
abbrev pub refusal_kind : Refusal → ℕ
refusal_kind (FailedLookup fault) = fault_kind fault
refusal_kind _ = 0
