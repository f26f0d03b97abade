-- What an answer stands on that the parts do not give.
use Rattle.std.specs.Prelude.{◌≡◌, ⊤, ℕ, Bool, true, false, List}
use Rattle.cap_core.specs.declared.profile.ProfileName.{ProfileName}
use Rattle.kernel_abstract.specs.Shown.{Shown}
use Rattle.query_flow.specs.Excluded.{PassesNoneEver, NamesNoneEver}
use Rattle.query_parts.specs.declared.listed.PartMemory.{PartMemory}
use Rattle.query_parts.specs.declared.listed.PartUse.{PartUse}
use Rattle.command_parts.specs.Ever.{AreRightParts}
use Rattle.command_never.specs.declared.parts_kept.never.Never.{Never}
use Rattle.command_never.specs.declared.parts_kept.never.Never.TheVariants.{Excluded, ExcludedByFlow, Possible, Decided}
use Rattle.command_never.specs.Kept.{AreThreadsKept}
use Rattle.command_never.specs.Never.{never}
use Rattle.command_never.specs.Still.{LieInTwoStillOf}
use Rattle.command_never.specs.Waits.{waits}

-- the parts exclude it
abbrev pub is_excluded : Never → Bool
is_excluded Excluded = true
is_excluded answer = false

-- flows exclude it, and the parts do not
abbrev pub is_by_flow : Never → Bool
is_by_flow ExcludedByFlow = true
is_by_flow answer = false

-- whatever calls threads make that are not trusted: no message of the one thread is delivered to the other, but by the endpoints that
-- are named, and no word of it leads to the other's control block
pub record AreKeptByFlow (p : ProfileName) (trusted : List ℕ) (v : Shown) (by : List ℕ) (from to : ℕ) : Type 0 where
  pub messages : PassesNoneEver p trusted v by from to
  pub names : NamesNoneEver p trusted v from to

-- an answer that flows give, or that both parts are still
abbrev pub IsFounded : ProfileName → List ℕ → List PartMemory → Shown → List ℕ → ℕ → ℕ → Never → Type 0
IsFounded p trusted memory v by from to Excluded = ⊤
IsFounded p trusted memory v by from to ExcludedByFlow = AreKeptByFlow p trusted v by from to
IsFounded p trusted memory v by from to Possible = ⊤
IsFounded p trusted memory v by from to Decided = LieInTwoStillOf p trusted memory v from to

-- the answer of parts that may be written; and if it is that it is excluded, the one thread's part is kept from the other's
pub record IsNeverByParts (p : ProfileName) (trusted : List ℕ) (v : Shown) (by : List ℕ) (from to : ℕ) (answer : Never) : Type 0 where
  pub memory : List PartMemory
  pub uses : List PartUse
  pub right : AreRightParts p v trusted memory uses
  pub answered : answer ≡ never p memory uses (waits p v) by from to
  pub kept : answer ≡ Excluded → AreThreadsKept p memory uses v by from to
