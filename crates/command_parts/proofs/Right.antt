-- Parts that may be told, by the clauses of `parts_around`.
use Rattle.std.proofs.Common.{◌≡◌, ℕ, List, subst}
use Rattle.cap_core.specs.declared.profile.ProfileName.{ProfileName}
use Rattle.kernel_abstract.specs.Shown.{Shown}
use Rattle.query_parts.specs.declared.listed.PartMemory.{PartMemory}
use Rattle.query_parts.specs.declared.listed.PartUse.{PartUse}
use Rattle.query_parts.specs.Order.{AreInOrder, AreInParts}
use Rattle.query_parts.specs.Ever.{AreConfinedEver}
use Rattle.query_parts.specs.Least.{AreLeast}
use Rattle.command_parts.specs.Threads.{callers}
use Rattle.command_parts.specs.Ever.{AreRightParts}

pub right_parts : (p : ProfileName) (v : Shown) (without threads : List ℕ) (memory : List PartMemory) (uses : List PartUse) → threads ≡ callers p v without →
    AreConfinedEver p memory uses v → AreInOrder p memory uses → AreInParts p memory threads → AreLeast p threads memory uses v →
    AreRightParts p v without memory uses
right_parts p v without threads memory uses same ever order all least = record {
  ever = ever;
  order = order;
  callers = subst (AreInParts p memory) same all;
  least = subst (λ (ts : List ℕ). AreLeast p ts memory uses v) same least;
}
