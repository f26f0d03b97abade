-- Which slots of one group the threads of another can empty: those that stand below its own.
use Rattle.std.specs.Prelude.{◌≡◌, ◌≢◌, ℕ, Bool, true, false, Option, Some, List}
use Rattle.std.specs.List.{Contains}
use Rattle.cap_core.specs.declared.profile.ProfileName.{ProfileName}
use Rattle.kernel_forest.specs.Forest.{Forest, descendants}
use Rattle.kernel_forest.specs.Entries.{Entry, cap_at, is_at}
use Rattle.kernel_abstract.specs.declared.call.Call.{Call}
use Rattle.kernel_abstract.specs.State.{State}
use Rattle.kernel_abstract.specs.Step.{step}
use Rattle.query_parts.specs.declared.listed.PartMemory.{PartMemory}
use Rattle.query_parts.specs.Listed.{part_at}
use Rattle.query_parts.specs.Parts.{Parts}

-- a call of a thread of a part leaves each slot of another group as it is, unless the thread's group may take from that one
abbrev pub TakesOnly : ProfileName → List PartMemory → (ℕ → Option ℕ) → (ℕ → ℕ → Bool) → State → Call → Type 0
TakesOnly p memory group_of may_take A call =
    (i j g h slot : ℕ) → part_at memory call.thread ≡ Some i → part_at memory slot ≡ Some j → group_of call.thread ≡ Some g → group_of slot ≡ Some h →
    g ≢ h → may_take g h ≡ false → cap_at (step p A call).state.derivations slot ≡ cap_at A.derivations slot

-- where a full slot of a thread's part stands below one of another thread's part, and the threads are of two groups, the other's group may
-- take from that of the one
abbrev pub StandBelowOnly : (ℕ → Option ℕ) → (ℕ → ℕ → Bool) → Forest Entry → Parts → Type 0
StandBelowOnly group_of may_take f parts =
    (t u i j g h slot : ℕ) (e : Entry) → parts.part_of t ≡ Some i → parts.part_of u ≡ Some j → group_of t ≡ Some g → group_of u ≡ Some h → g ≢ h →
    parts.part_of slot ≡ Some i → Contains (descendants (is_at slot) f) e → parts.part_of e.slot ≡ Some j → may_take g h ≡ true
