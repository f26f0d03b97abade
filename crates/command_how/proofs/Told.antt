-- What comes of a question, and what is told of two threads by parts that may be told.
use Rattle.std.proofs.Common.{◌≡◌, ℕ, List, inl, inr, sym, subst}
use Rattle.cap_core.specs.declared.profile.ProfileName.{ProfileName}
use Rattle.kernel_abstract.specs.Shown.{Shown}
use Rattle.query_parts.specs.declared.listed.PartMemory.{PartMemory}
use Rattle.query_parts.specs.declared.listed.PartUse.{PartUse}
use Rattle.setup_values.specs.Names.{Names}
use Rattle.setup_format.specs.Views.{SetupView}
use Rattle.setup_report.specs.declared.meanings.meant.ObjectKind.TheVariants.{Thread, Endpoint}
use Rattle.command_parts.specs.Threads.{objects_named}
use Rattle.command_parts.specs.Ever.{AreRightParts}
use Rattle.command_core.specs.declared.fault.Verdict.{Verdict}
use Rattle.command_how_witness.specs.Witness.{Asking}
use Rattle.command_how.specs.declared.line.NoWitness.TheVariants.{Excluded, ExcludedByFlow, NotFound, NotFoundOf}
use Rattle.command_how.specs.declared.telling.Outcome.{Outcome}
use Rattle.command_how.specs.declared.telling.Outcome.TheVariants.{Witness, Without}
use Rattle.command_how.specs.How.{Words, IsFound, IsFoundUnlessFlow, IsHowTold, IsOutcome, IsToldByParts, most_of}
use Rattle.command_how_witness.specs.Excluded.{IsInside}

-- what was found where it is not excluded comes of the question
of_found : (p : ProfileName) (q : Asking) (most : ℕ) (uses : List PartUse) (v : Shown) (setup : SetupView) (made : ℕ) (outcome : Outcome) →
    IsInside p q v q.what → IsFound p q most setup made outcome → IsOutcome p q most uses v setup made outcome
of_found p q most uses v setup made (Witness text) inside found = (inside, found)
of_found p q most uses v setup made (Without Excluded) inside found = absurd found
of_found p q most uses v setup made (Without ExcludedByFlow) inside found = absurd found
of_found p q most uses v setup made (Without NotFound) inside found = inside
of_found p q most uses v setup made (Without (NotFoundOf copies)) inside found = (inside, found)

pub outcome_of_found : (p : ProfileName) (q : Asking) (most : ℕ) (uses : List PartUse) (v : Shown) (setup : SetupView) (made : ℕ) (outcome : Outcome) →
    IsInside p q v q.what → IsFoundUnlessFlow p q most v setup made outcome → IsOutcome p q most uses v setup made outcome
outcome_of_found p q most uses v setup made outcome inside (inl (same, outside)) = subst (IsOutcome p q most uses v setup made) (sym same) (inside, outside)
outcome_of_found p q most uses v setup made outcome inside (inr found) = of_found p q most uses v setup made outcome inside found

abbrev asking_with : Words → ℕ → ℕ → List PartMemory → List ℕ → List ℕ → Asking
asking_with w from to memory by without = record {
  what = w.what;
  from = from;
  to = to;
  by = by;
  badge = w.badge;
  memory = memory;
  without = without;
}

pub told_by_parts : (p : ProfileName) (w : Words) (names : Names) (setup : SetupView) (made : ℕ) (v : Shown) (from to : ℕ) (text : List ℕ) (verdict : Verdict)
    (most : ℕ) (without by : List ℕ) (memory : List PartMemory) (uses : List PartUse) → most ≡ most_of w.states →
    without ≡ objects_named Thread p names setup.plan v w.without → by ≡ objects_named Endpoint p names setup.plan v w.by →
    AreRightParts p v without memory uses →
    IsHowTold p names (asking_with w from to memory by without) most uses v setup made text verdict →
    IsToldByParts p w names setup made v from to text verdict
told_by_parts p w names setup made v from to text verdict most without by memory uses most_is without_is by_is right told = record {
  memory = memory;
  uses = uses;
  right = subst (λ (l : List ℕ). AreRightParts p v l memory uses) without_is right;
  told =
      subst (λ (n : ℕ). IsHowTold p names (asking_with w from to memory (objects_named Endpoint p names setup.plan v w.by) (objects_named Thread p names setup.plan v w.without)) n uses v setup made text verdict) most_is
      (subst (λ (l : List ℕ). IsHowTold p names (asking_with w from to memory (objects_named Endpoint p names setup.plan v w.by) l) most uses v setup made text verdict) without_is
      (subst (λ (l : List ℕ). IsHowTold p names (asking_with w from to memory l without) most uses v setup made text verdict) by_is told));
}
