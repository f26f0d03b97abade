-- What it is that one part is kept from another, whatever calls threads make.
use Rattle.std.specs.Prelude.{◌≡◌, ◌≢◌, ◌⊎◌, ⊤, ℕ, true, List, Some}
use Rattle.std.specs.List.{AllByRecursion as Each}
use Rattle.cap_core.specs.declared.profile.ProfileName.{ProfileName}
use Rattle.cap_core.specs.declared.capability.Cap.{Cap}
use Rattle.cap_core.specs.declared.capability.Cap.TheVariants.{Null, Untyped, Endpoint, CNode, Tcb}
use Rattle.cap_core.specs.Ranges.{IsAddressOf}
use Rattle.kernel_forest.specs.Forest.{Forest}
use Rattle.kernel_forest.specs.Entries.{Entry, cap_at}
use Rattle.kernel_abstract.specs.declared.call.Call.{Call}
use Rattle.kernel_abstract.specs.declared.call.Reply.{Reply}
use Rattle.kernel_abstract.specs.declared.call.Reply.TheVariants.{Delivered}
use Rattle.kernel_abstract.specs.Shown.{Shown}
use Rattle.kernel_abstract.specs.State.{State, shown}
use Rattle.kernel_abstract.specs.Step.{state_after, replies_of}
use Rattle.kernel_abstract.specs.Reached.{IsReached}
use Rattle.query_parts.specs.declared.listed.PartMemory.{PartMemory}
use Rattle.query_parts.specs.declared.listed.PartUse.{PartUse}
use Rattle.query_parts.specs.Parts.{Parts}
use Rattle.query_parts.specs.Listed.{part_at, parts_listed}
use Rattle.query_parts.specs.Laws.{IsAllowed, Names}
use Rattle.setup_report.specs.State.{is_in}

-- the endpoint at an address is named
abbrev pub IsNamed : List ℕ → ℕ → Type 0
IsNamed by endpoint = is_in endpoint by ≡ true

-- no byte of the object that a capability names is memory of part j
abbrev pub HasNoByteIn : ProfileName → Parts → ℕ → Cap → Type 0
HasNoByteIn p parts j cap = (address : ℕ) → IsAddressOf p cap address → parts.part_of address ≢ Some j

-- a capability names no object that has bytes in part j's memory, but an endpoint that is named
abbrev pub IsKeptFrom : ProfileName → Parts → List ℕ → ℕ → Cap → Type 0
IsKeptFrom p parts by j Null = ⊤
IsKeptFrom p parts by j (Untyped base bits free) = HasNoByteIn p parts j (Untyped base bits free)
IsKeptFrom p parts by j (Endpoint base badge rights) = IsNamed by base ⊎ HasNoByteIn p parts j (Endpoint base badge rights)
IsKeptFrom p parts by j (CNode base radix guard) = HasNoByteIn p parts j (CNode base radix guard)
IsKeptFrom p parts by j (Tcb base) = HasNoByteIn p parts j (Tcb base)

-- each slot of part i holds such a capability
abbrev pub HoldsKept : ProfileName → Parts → List ℕ → ℕ → ℕ → Forest Entry → Type 0
HoldsKept p parts by i j f = (slot : ℕ) → parts.part_of slot ≡ Some i → IsKeptFrom p parts by j (cap_at f slot)

-- a reply shows no delivery from a thread of part i to a thread of part j, but by an endpoint that is named
abbrev pub TellsKept : Parts → List ℕ → ℕ → ℕ → Reply → Type 0
TellsKept parts by i j (Delivered endpoint from to badge message) =
    parts.part_of from ≡ Some i → parts.part_of to ≡ Some j → IsNamed by endpoint
TellsKept parts by i j reply = ⊤

-- after these calls no slot of part i holds more, no thread of it names more, and none of their replies shows more
pub record AreKept (p : ProfileName) (parts : Parts) (by : List ℕ) (i j : ℕ) (A : State) (calls : List Call) : Type 0 where
  pub slots : HoldsKept p parts by i j (state_after p A calls).derivations
  pub names : (thread slot : ℕ) → parts.part_of thread ≡ Some i → Names p (state_after p A calls).derivations thread slot →
      IsKeptFrom p parts by j (cap_at (state_after p A calls).derivations slot)
  pub deliveries : Each (TellsKept parts by i j) (replies_of p A calls)

-- part i is kept from part j, by whatever calls of threads that lie in the parts, and messages of others, from each state that is shown
abbrev pub AreKeptEver : ProfileName → List PartMemory → List PartUse → Shown → List ℕ → ℕ → ℕ → Type 0
AreKeptEver p memory uses v by i j =
    (A : State) → IsReached p A → v ≡ shown A → (calls : List Call) → Each (IsAllowed (parts_listed memory uses)) calls →
    AreKept p (parts_listed memory uses) by i j A calls

-- two threads lie in parts of which the one is kept from the other
pub record AreThreadsKept (p : ProfileName) (memory : List PartMemory) (uses : List PartUse) (v : Shown) (by : List ℕ) (from to : ℕ) : Type 0 where
  pub i : ℕ
  pub j : ℕ
  pub from_in : part_at memory from ≡ Some i
  pub to_in : part_at memory to ≡ Some j
  pub kept : AreKeptEver p memory uses v by i j
