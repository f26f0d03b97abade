-- What is written about the parts of a layout.
use Rattle.std.specs.Prelude.{◌≡◌, ◌++◌, ℕ, List}
use Rattle.cap_core.specs.declared.profile.ProfileName.{ProfileName}
use Rattle.kernel_abstract.specs.Shown.{Shown}
use Rattle.query_parts.specs.declared.listed.PartMemory.{PartMemory}
use Rattle.query_parts.specs.declared.listed.PartUse.{PartUse}
use Rattle.query_parts.specs.Order.{AreInOrder, AreInParts}
use Rattle.query_parts.specs.Ever.{AreConfinedEver}
use Rattle.query_parts.specs.Least.{AreLeast}
use Rattle.setup_format.specs.Views.{SetupView}
use Rattle.setup_report.specs.State.{threads}
use Rattle.setup_report.specs.Naming.{Texts}
use Rattle.command_parts.specs.Threads.{callers}
use Rattle.command_parts.specs.Telling.{part_texts}
use Rattle.command_parts.specs.Text.{ever_text}

-- Parts that may be written: by no sequence of calls of their threads does anything leave them; they are in order, with
-- nothing in them that is redundant; they lie in all parts that are closed around the live threads that are not trusted; and
-- the whole control block of each of these threads lies in one
pub record AreRightParts (p : ProfileName) (v : Shown) (trusted : List ℕ) (memory : List PartMemory) (uses : List PartUse) : Type 0 where
  pub ever : AreConfinedEver p memory uses v
  pub order : AreInOrder p memory uses
  pub least : AreLeast p (callers p v trusted) memory uses v
  pub callers : AreInParts p memory (callers p v trusted)

-- the text of such parts, if so many of the calls that are made were refused
abbrev pub IsPartsText : ProfileName → Texts → SetupView → ℕ → ℕ → List ℕ → List ℕ → Shown → List ℕ → Type 0
IsPartsText p texts setup made refused without messages v text =
    (memory : List PartMemory) × ((uses : List PartUse)
    × (AreRightParts p v (without ++ messages) memory uses × (text ≡ ever_text p (part_texts texts memory (threads p v)) setup made refused without messages memory uses v)))
