-- The least parts around threads: those that lie in the parts of every closed family around these threads.
use Rattle.std.specs.Prelude.{◌≡◌, ℕ, Some, List}
use Rattle.std.specs.List.{Contains}
use Rattle.cap_core.specs.declared.profile.ProfileName.{ProfileName}
use Rattle.cap_core.specs.declared.capability.Cap.TheVariants.{Endpoint, Tcb}
use Rattle.kernel_abstract.specs.Shown.{Shown}
use Rattle.kernel_abstract.specs.State.{State, shown}
use Rattle.kernel_abstract.specs.Reached.{IsReached}
use Rattle.query_parts.specs.declared.listed.PartMemory.{PartMemory}
use Rattle.query_parts.specs.declared.listed.PartUse.{PartUse}
use Rattle.query_parts.specs.Parts.{Use, Parts, IsOwned, IsWithin}
use Rattle.query_parts.specs.Listed.{parts_listed}
use Rattle.query_parts.specs.Laws.{AreClosed}
use Rattle.query_parts.specs.Order.{AreInParts}
use Rattle.query_parts.specs.Ever.{AreConfinedEver}

-- parts that are closed in a state, with the whole control block of each of these threads in one of them
pub record AreClosedAround (p : ProfileName) (threads : List ℕ) (A : State) (others : Parts) : Type 0 where
  pub closed : AreClosed p others A
  pub around : (thread : ℕ) → Contains threads thread → (j : ℕ) × IsOwned p others j (Tcb thread)

-- a part lies in another: all its memory is the other's, and what it may use may stand in the other
pub record LiesIn (p : ProfileName) (parts : Parts) (i : ℕ) (others : Parts) (j : ℕ) : Type 0 where
  pub memory : (address : ℕ) → parts.part_of address ≡ Some i → others.part_of address ≡ Some j
  pub uses : (u : Use) → Contains (parts.uses i) u → IsWithin p others j (Endpoint u.endpoint u.badge u.rights)

-- each part lies in one of the others
abbrev pub LieIn : ProfileName → Parts → Parts → Type 0
LieIn p parts others = (i : ℕ) → (j : ℕ) × LiesIn p parts i others j

-- the parts lie in all parts that are closed around these threads, in each state that is shown
abbrev pub AreLeast : ProfileName → List ℕ → List PartMemory → List PartUse → Shown → Type 0
AreLeast p threads memory uses v =
    (A : State) → IsReached p A → v ≡ shown A → (others : Parts) → AreClosedAround p threads A others → LieIn p (parts_listed memory uses) others

-- parts that are confined ever, have the whole control block of each of these threads, and are the least
pub record AreLeastAround (p : ProfileName) (threads : List ℕ) (v : Shown) (memory : List PartMemory) (uses : List PartUse) : Type 0 where
  pub ever : AreConfinedEver p memory uses v
  pub around : AreInParts p memory threads
  pub least : AreLeast p threads memory uses v

-- of two such families each lies in the other
abbrev pub LieInEachOther : ProfileName → List ℕ → Shown → List PartMemory → List PartUse → List PartMemory → List PartUse → Type 0
LieInEachOther p threads v memory uses memory' uses' =
    AreLeastAround p threads v memory uses → AreLeastAround p threads v memory' uses' →
    (A : State) → IsReached p A → v ≡ shown A →
    LieIn p (parts_listed memory uses) (parts_listed memory' uses') × LieIn p (parts_listed memory' uses') (parts_listed memory uses)
