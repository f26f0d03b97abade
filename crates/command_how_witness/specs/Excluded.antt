-- What the laws exclude: of no calls of threads of the parts it is shown; and what they do not exclude.
use Rattle.std.specs.Prelude.{◌≡◌, ◌⊎◌, ⊤, ℕ, false, List, Option, Some, None}
use Rattle.std.specs.List.{Contains}
use Rattle.cap_core.specs.declared.profile.ProfileName.{ProfileName}
use Rattle.kernel_forest.specs.Forest.{Forest, descendants}
use Rattle.kernel_forest.specs.Entries.{Entry, is_at}
use Rattle.kernel_abstract.specs.declared.call.Call.{Call}
use Rattle.kernel_abstract.specs.Shown.{Shown}
use Rattle.kernel_abstract.specs.State.{State, shown}
use Rattle.kernel_abstract.specs.Reached.{IsReached}
use Rattle.query_parts.specs.declared.listed.PartMemory.{PartMemory}
use Rattle.query_parts.specs.declared.listed.PartUse.{PartUse}
use Rattle.query_parts.specs.Listed.{part_at, parts_listed}
use Rattle.command_parts.specs.Ever.{AreRightParts}
use Rattle.query_parts.specs.Below.{StandsNoneBelow}
use Rattle.query_flow.specs.Excluded.{is_number_listed, PassesNoneEver, NamesNoneEver, ChangesNoneEver}
use Rattle.command_never.specs.declared.parts_kept.never.Never.{Never}
use Rattle.command_never.specs.declared.parts_kept.never.Never.TheVariants.{Excluded, Possible}
use Rattle.command_never.specs.Waits.{waits}
use Rattle.command_never.specs.Never.{never}
use Rattle.command_never.specs.Kept.{AreThreadsKept}
use Rattle.command_how_witness.specs.declared.asked.Happening.{Happening}
use Rattle.command_how_witness.specs.declared.asked.Happening.TheVariants.{Message, Hold, Loss}
use Rattle.command_how_witness.specs.Witness.{Asking, IsShown}

-- the one thread's part is kept from the other's, by parts that may be listed
pub record IsKept (p : ProfileName) (q : Asking) (v : Shown) : Type 0 where
  pub memory : List PartMemory
  pub uses : List PartUse
  pub right : AreRightParts p v q.without memory uses
  pub kept : AreThreadsKept p memory uses v q.by q.from q.to

-- the other thread does not lie in the one's part
pub record LiesElsewhere (memory : List PartMemory) (from to : ℕ) : Type 0 where
  pub part : ℕ
  pub from_in : part_at memory from ≡ Some part
  pub other : part_at memory to ≡ Some part → ⊥

-- they lie in two parts, and no full slot of the other's stands below a slot of the one's
pub record StandsApart (memory : List PartMemory) (uses : List PartUse) (v : Shown) (from to : ℕ) : Type 0 where
  pub i : ℕ
  pub j : ℕ
  pub from_in : part_at memory from ≡ Some i
  pub to_in : part_at memory to ≡ Some j
  pub two : i ≡ j → ⊥
  pub none : StandsNoneBelow (parts_listed memory uses) i j v.derivations

-- of a message: the one's part is kept from the other's; of a hold: the other is not of the one's part; of a loss: nothing of the
-- other's part stands below the one's. A thread in no part makes no call, so it neither holds nor takes
abbrev pub IsOutside : ProfileName → Asking → List PartUse → Shown → Happening → Type 0
IsOutside p q uses v Message = IsKept p q v
IsOutside p q uses v Hold = (part_at q.memory q.from ≡ None) ⊎ LiesElsewhere q.memory q.from q.to
IsOutside p q uses v Loss = (part_at q.memory q.from ≡ None) ⊎ StandsApart q.memory uses v q.from q.to

-- by parts that may be listed it is excluded
pub record IsExcluded (p : ProfileName) (q : Asking) (uses : List PartUse) (v : Shown) : Type 0 where
  pub right : AreRightParts p v q.without q.memory uses
  pub outside : IsOutside p q uses v q.what

-- ---- if the line says so, and if it does not

-- what `never` answers of the two threads, by parts that may be listed
pub record IsNeverSaid (p : ProfileName) (q : Asking) (v : Shown) (answer : Never) : Type 0 where
  pub memory : List PartMemory
  pub uses : List PartUse
  pub right : AreRightParts p v q.without memory uses
  pub answered : answer ≡ never p memory uses (waits p v) q.by q.from q.to

-- it is ruled out: of a message if `never` says so; of a hold and of a loss as above
abbrev pub IsRuledOut : ProfileName → Asking → List PartUse → Shown → Happening → Type 0
IsRuledOut p q uses v Message = IsNeverSaid p q v Excluded
IsRuledOut p q uses v Hold = IsOutside p q uses v Hold
IsRuledOut p q uses v Loss = IsOutside p q uses v Loss

-- two threads lie in one part
pub record SharesPart (memory : List PartMemory) (from to : ℕ) : Type 0 where
  pub part : ℕ
  pub from_in : part_at memory from ≡ Some part
  pub to_in : part_at memory to ≡ Some part

-- a full slot of part j stands below a slot of part i
pub record StandsOneBelow (memory : List PartMemory) (i j : ℕ) (f : Forest Entry) : Type 0 where
  pub slot : ℕ
  pub under : Entry
  pub slot_in : part_at memory slot ≡ Some i
  pub below : Contains (descendants (is_at slot) f) under
  pub under_in : part_at memory under.slot ≡ Some j

-- a thread in no part may lose something to each part; one of part j to this part, and to one below a slot of which a slot of j stands
abbrev pub MayLose : List PartMemory → Shown → ℕ → Option ℕ → Type 0
MayLose memory v i None = ⊤
MayLose memory v i (Some j) = (i ≡ j) ⊎ StandsOneBelow memory i j v.derivations

-- the one thread lies in a part, to which the other may lose something
pub record TakesFrom (memory : List PartMemory) (v : Shown) (from to : ℕ) : Type 0 where
  pub part : ℕ
  pub from_in : part_at memory from ≡ Some part
  pub lost : MayLose memory v part (part_at memory to)

-- it is not ruled out: of a message if `never` says that it is possible; of a hold if both lie in one part; of a loss if the one lies in a part, and the
-- other in none, in this one, or in one of which a full slot is below one of this one's
abbrev pub IsInside : ProfileName → Asking → Shown → Happening → Type 0
IsInside p q v Message = IsNeverSaid p q v Possible
IsInside p q v Hold = SharesPart q.memory q.from q.to
IsInside p q v Loss = TakesFrom q.memory v q.from q.to

-- what is excluded of a state is shown by no calls from it
abbrev pub HasNoWitness : ProfileName → Asking → List PartUse → State → List Call → Type 0
HasNoWitness p q uses A calls = IsReached p A → IsExcluded p q uses (shown A) → IsShown p q A calls → ⊥

-- it is excluded by a flow, whatever parts there are, and whatever calls threads make that are not trusted: of a message, none of the one is delivered
-- to the other; of a hold, no word of the one leads to the other's control block; of a loss, no call of the one changes a slot, and the other is not trusted
abbrev pub IsOutsideFlow : ProfileName → Asking → Shown → Happening → Type 0
IsOutsideFlow p q v Message = PassesNoneEver p q.without v q.by q.from q.to
IsOutsideFlow p q v Hold = NamesNoneEver p q.without v q.from q.to
IsOutsideFlow p q v Loss = ChangesNoneEver p q.without v q.from × (is_number_listed q.without q.to ≡ false)

-- what a flow excludes of a state is shown by no calls from it
abbrev pub HasNoWitnessByFlow : ProfileName → Asking → State → List Call → Type 0
HasNoWitnessByFlow p q A calls = IsReached p A → IsOutsideFlow p q (shown A) q.what → IsShown p q A calls → ⊥

-- nothing is both ruled out and not: all parts that may be written give one answer
abbrev pub IsOnlyOne : ProfileName → Asking → List PartUse → State → Type 0
IsOnlyOne p q uses A = IsReached p A → IsRuledOut p q uses (shown A) q.what → IsInside p q (shown A) q.what → ⊥
