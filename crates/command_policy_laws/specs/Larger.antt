-- What may stand in a part may stand in each part in which it lies.
use Rattle.std.specs.Prelude.{ℕ}
use Rattle.cap_core.specs.declared.profile.ProfileName.{ProfileName}
use Rattle.cap_core.specs.declared.capability.Badge.{Badge}
use Rattle.cap_core.specs.declared.capability.Cap.{Cap}
use Rattle.query_parts.specs.Parts.{Parts, IsWithin}
use Rattle.query_parts.specs.Laws.{MayUse}
use Rattle.query_parts.specs.Least.{LiesIn}

-- what a part holds and uses, a part in which it lies holds and uses too
pub record HoldsNoLess (p : ProfileName) (parts : Parts) (i : ℕ) (others : Parts) (j : ℕ) : Type 0 where
  pub holds : (cap : Cap) → IsWithin p parts i cap → IsWithin p others j cap
  pub uses : (right endpoint : ℕ) (badge : Badge) → MayUse p parts right i endpoint badge → MayUse p others right j endpoint badge

-- a part that lies in another holds no more than that one
abbrev pub HoldNoLess : ProfileName → Parts → ℕ → Parts → ℕ → Type 0
HoldNoLess p parts i others j = LiesIn p parts i others j → HoldsNoLess p parts i others j
