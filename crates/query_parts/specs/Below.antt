-- Who can revoke what of whom: which slots of one part stand below slots of another in the derivation forest.
use Rattle.std.specs.Prelude.{◌≡◌, ℕ, Some, List}
use Rattle.std.specs.List.{AllByRecursion as Each, Contains}
use Rattle.cap_core.specs.declared.profile.ProfileName.{ProfileName}
use Rattle.kernel_forest.specs.Forest.{Forest, descendants}
use Rattle.kernel_forest.specs.Entries.{Entry, is_at, cap_at}
use Rattle.kernel_abstract.specs.declared.call.Call.{Call}
use Rattle.kernel_abstract.specs.State.{State}
use Rattle.kernel_abstract.specs.Step.{step, state_after}
use Rattle.kernel_abstract.specs.Reached.{IsReached}
use Rattle.query_parts.specs.Parts.{Parts, IsClosed}
use Rattle.query_parts.specs.Laws.{AreClosed, IsAllowed}

-- no full slot of part j stands below a slot of part i
abbrev pub StandsNoneBelow : Parts → ℕ → ℕ → Forest Entry → Type 0
StandsNoneBelow parts i j f =
    (slot : ℕ) (e : Entry) → parts.part_of slot ≡ Some i → Contains (descendants (is_at slot) f) e → parts.part_of e.slot ≡ Some j → ⊥

-- each full slot below a slot of part i is a slot of part i, too
abbrev pub StandOwnBelow : Parts → ℕ → Forest Entry → Type 0
StandOwnBelow parts i f =
    (slot : ℕ) (e : Entry) → parts.part_of slot ≡ Some i → Contains (descendants (is_at slot) f) e → parts.part_of e.slot ≡ Some i

-- a call of a thread of a closed part i leaves each slot of another part j as it is, if none of j stands below a slot of i
abbrev pub TakesNothing : ProfileName → Parts → ℕ → ℕ → State → Call → Type 0
TakesNothing p parts i j A call =
    IsReached p A → IsClosed p parts i A.derivations → parts.part_of call.thread ≡ Some i →
    (i ≡ j → ⊥) → StandsNoneBelow parts i j A.derivations →
    (slot : ℕ) → parts.part_of slot ≡ Some j → cap_at (step p A call).state.derivations slot ≡ cap_at A.derivations slot

-- a call of a thread of a closed part leaves each slot outside the part as it is, if none outside it stands below a slot of it
abbrev pub TakesNothingOutside : ProfileName → Parts → ℕ → State → Call → Type 0
TakesNothingOutside p parts i A call =
    IsReached p A → IsClosed p parts i A.derivations → parts.part_of call.thread ≡ Some i →
    StandOwnBelow parts i A.derivations →
    (slot : ℕ) → (parts.part_of slot ≡ Some i → ⊥) → cap_at (step p A call).state.derivations slot ≡ cap_at A.derivations slot

-- whatever calls the threads of closed parts make, and whatever messages others send and receive, it stays so
abbrev pub StayNoneBelow : ProfileName → Parts → ℕ → ℕ → State → List Call → Type 0
StayNoneBelow p parts i j A calls =
    IsReached p A → AreClosed p parts A → Each (IsAllowed parts) calls → (i ≡ j → ⊥) →
    StandsNoneBelow parts i j A.derivations → StandsNoneBelow parts i j (state_after p A calls).derivations

-- what stands below the slots of a part stays its own, whatever calls the threads of parts make
abbrev pub StayOwnBelow : ProfileName → Parts → ℕ → State → List Call → Type 0
StayOwnBelow p parts i A calls =
    IsReached p A → AreClosed p parts A → Each (IsAllowed parts) calls →
    StandOwnBelow parts i A.derivations → StandOwnBelow parts i (state_after p A calls).derivations
