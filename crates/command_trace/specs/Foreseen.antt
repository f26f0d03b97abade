-- What is known of a call before it is made: what of the state it can change.
use Rattle.std.specs.Prelude.{◌≡◌, Bool, true, false, Option, Some, None, Result, Ok, Err, ⊤}
use Rattle.cap_core.specs.declared.profile.ProfileName.{ProfileName}
use Rattle.cap_core.specs.declared.capability.Cap.{Cap}
use Rattle.cap_core.specs.declared.capability.Cap.TheVariants as cap
use Rattle.kernel_forest.specs.Forest.{Forest}
use Rattle.kernel_forest.specs.Entries.{Entry, cap_at, first_child}
use Rattle.kernel_forest.specs.Derivation.{is_new_original}
use Rattle.kernel_abstract.specs.declared.call.Call.{Call}
use Rattle.kernel_abstract.specs.declared.call.Reply.{Reply}
use Rattle.kernel_abstract.specs.declared.invocation.Invocation.{Invocation}
use Rattle.kernel_abstract.specs.declared.invocation.Invocation.TheVariants.{Derive}
use Rattle.kernel_abstract.specs.declared.reason.Reason.{Reason}
use Rattle.kernel_abstract.specs.Decode.{checked_call}
use Rattle.kernel_abstract.specs.Shown.{Shown}
use Rattle.kernel_abstract.specs.State.{State, shown}
use Rattle.kernel_abstract.specs.Reached.{IsReached, StepsTo}
use Rattle.setup_report.specs.Naming.{Texts}
use Rattle.command_trace.specs.Views.{IsStateTold}
use Rattle.command_trace.specs.declared.lines.told.Told.{Told}
use Rattle.command_trace.specs.declared.lines.foreseen.DerivedCap.{DerivedCap}
use Rattle.command_trace.specs.declared.lines.foreseen.Foreseen.{Foreseen}
use Rattle.command_trace.specs.declared.lines.foreseen.Foreseen.TheVariants as foreseen

-- what was told of a state, where that is kept
abbrev pub IsKept : Texts → ProfileName → Shown → Option Told → Type 0
IsKept texts p v None = ⊤
IsKept texts p v (Some told) = IsStateTold texts p v told

-- a capability of a thread or of an endpoint
abbrev pub names_live : Cap → Bool
names_live (cap.Endpoint base badge rights) = true
names_live (cap.Tcb base) = true
names_live cap = false

-- a call derives such a capability: whether that is original, and the newest child that the source has till then
pub record IsDerivedCap (f : Forest Entry) (found : Result Invocation Reason) (new : DerivedCap) : Type 0 where
  pub derives : found ≡ Ok (Derive new.placement)
  pub live : names_live new.placement.cap ≡ true
  pub original : new.original ≡ is_new_original (cap_at f new.placement.source) new.placement.cap
  pub next : new.next ≡ first_child new.placement.source f

-- it is told what the checks of a call found
abbrev pub IsForeseen : Texts → ProfileName → Shown → Result Invocation Reason → Foreseen → Type 0
IsForeseen texts p v found (foreseen.Refused told) = ((reason : Reason) × (found ≡ Err reason)) × IsKept texts p v told
IsForeseen texts p v found (foreseen.Derived new) = IsDerivedCap v.derivations found new
IsForeseen texts p v found (foreseen.Any told) = IsStateTold texts p v told

-- what was foreseen of a call in a state that runs reach, which was made then
pub record IsMade (texts : Texts) (p : ProfileName) (A : State) (call : Call) (reply : Reply) (w : Shown) (seen : Foreseen) : Type 0 where
  pub reached : IsReached p A
  pub steps : StepsTo p A call reply w
  pub foreseen : IsForeseen texts p (shown A) (checked_call p (shown A) call) seen
