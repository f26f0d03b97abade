-- What is decided of two still parts: a message is excluded, or sends of the one thread and receives of the other show it.
use Rattle.std.specs.Prelude.{◌≡◌, ◌⊎◌, List, None}
use Rattle.std.specs.List.{AllByRecursion as Each}
use Rattle.cap_core.specs.declared.profile.ProfileName.{ProfileName}
use Rattle.kernel_abstract.specs.declared.call.Call.{Call}
use Rattle.kernel_abstract.specs.Reached.{IsReached}
use Rattle.kernel_abstract.specs.State.{State, shown}
use Rattle.query_parts.specs.declared.listed.PartUse.{PartUse}
use Rattle.command_parts.specs.Ever.{AreRightParts}
use Rattle.command_never.specs.declared.parts_kept.never.Never.TheVariants.{Possible, Decided}
use Rattle.command_never.specs.Never.{never}
use Rattle.command_never.specs.Waits.{waits}
use Rattle.command_never.specs.Answer.{IsFounded}
use Rattle.command_how_witness.specs.declared.asked.Happening.TheVariants.{Message}
use Rattle.command_how_witness.specs.Witness.{Asking, IsShown}
use Rattle.command_how_witness.specs.Excluded.{IsExcluded}
use Rattle.command_never.specs.Still.{LieInTwoStill}
use Rattle.command_how_witness.specs.Still.{SendsOrReceives}

-- some calls show what is asked, each of them a send of the one thread or a receive of the other
pub record IsShownAlone (p : ProfileName) (q : Asking) (A : State) : Type 0 where
  pub calls : List Call
  pub kinds : Each (SendsOrReceives q.from q.to) calls
  pub shows : IsShown p q A calls

-- a message between live threads of two still parts is excluded, or sends of the one thread and receives of the other are enough to show it;
-- no badge is asked for
abbrev pub IsDecided : ProfileName → Asking → List PartUse → State → Type 0
IsDecided p q uses A =
    IsReached p A → AreRightParts p (shown A) q.without q.memory uses → LieInTwoStill p q.without q.memory uses (shown A) q.from q.to →
    q.what ≡ Message → q.badge ≡ None → IsExcluded p q uses (shown A) ⊎ IsShownAlone p q A

-- also if a badge is asked for: no calls show such a message, or sends of the one thread and receives of the other are enough to show it
abbrev pub IsDecidedWithBadge : ProfileName → Asking → List PartUse → State → Type 0
IsDecidedWithBadge p q uses A =
    IsReached p A → AreRightParts p (shown A) q.without q.memory uses → LieInTwoStill p q.without q.memory uses (shown A) q.from q.to →
    q.what ≡ Message → ((calls : List Call) → IsShown p q A calls → ⊥) ⊎ IsShownAlone p q A

-- what `never` answers with `possible decided`: the parts leave it open, and sends of the one thread and receives of the other
-- are enough to show such a message
abbrev pub IsToldDecided : ProfileName → Asking → List PartUse → State → Type 0
IsToldDecided p q uses A =
    IsReached p A → AreRightParts p (shown A) q.without q.memory uses → IsFounded p q.without q.memory (shown A) q.by q.from q.to Decided →
    never p q.memory uses (waits p (shown A)) q.by q.from q.to ≡ Possible → q.what ≡ Message → q.badge ≡ None → IsShownAlone p q A
