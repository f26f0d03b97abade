-- An answer of parts that may be told: where it is that it is excluded, the one thread's part is kept from the other's.
use Rattle.std.proofs.Common.{◌≡◌, ◌⊎◌, inl, inr, ℕ, Bool, true, false, cond, List, ◌++◌, Option, Some, None, refl, sym, ap, ◌∙◌}
use Rattle.std.proofs.lemmas.Bool.{false≢true}
use Rattle.cap_core.specs.declared.profile.ProfileName.{ProfileName}
use Rattle.kernel_abstract.specs.Shown.{Shown}
use Rattle.query_parts.specs.declared.listed.PartMemory.{PartMemory}
use Rattle.query_parts.specs.declared.listed.PartUse.{PartUse}
use Rattle.query_parts.specs.Listed.{part_at}
use Rattle.query_parts.specs.Ever.{AreConfinedEver}
use Rattle.setup_format.specs.Views.{SetupView}
use Rattle.setup_report.specs.State.{threads}
use Rattle.setup_report.specs.Naming.{Texts}
use Rattle.command_parts.specs.Telling.{part_texts}
use Rattle.command_never.specs.declared.parts_kept.never.Never.{Never}
use Rattle.command_never.specs.declared.parts_kept.never.Never.TheVariants.{Excluded, ExcludedByFlow, Possible, Decided}
use Rattle.command_parts.specs.Ever.{AreRightParts}
use Rattle.command_never.specs.declared.parts_kept.waits.Wait.{Wait}
use Rattle.command_never.specs.Waits.{waits}
use Rattle.command_never.specs.Never.{are_open, never_between, never}
use Rattle.command_never.specs.Kept.{AreThreadsKept}
use Rattle.command_never.specs.Answer.{is_excluded, IsFounded, IsNeverByParts}
use Rattle.command_never.specs.Open.{IsNeverText, IsNeverOf}
use Rattle.command_never.proofs.Kept.{kept_ever}

pub excluded_so : (answer : Never) → is_excluded answer ≡ true → answer ≡ Excluded
excluded_so Excluded h = refl
excluded_so ExcludedByFlow h = absurd (false≢true h)
excluded_so Possible h = absurd (false≢true h)
excluded_so Decided h = absurd (false≢true h)

excluded : (open_between : Bool) → cond open_between Possible Excluded ≡ Excluded → open_between ≡ false
excluded true h = cc
excluded false h = refl

module _ (p : ProfileName) (v : Shown) (by : List ℕ) (from to : ℕ) (memory : List PartMemory) (uses : List PartUse) (ever : AreConfinedEver p memory uses v) where
  kept_between : (first second : Option ℕ) → part_at memory from ≡ first → part_at memory to ≡ second →
      never_between p memory uses (waits p v) by first second ≡ Excluded → AreThreadsKept p memory uses v by from to
  kept_between None second here there h = cc
  kept_between (Some i) None here there h = cc
  kept_between (Some i) (Some j) here there h = record {
    i = i;
    j = j;
    from_in = here;
    to_in = there;
    kept = kept_ever p memory uses by i j v ever (excluded (are_open p memory uses (waits p v) by i j) h);
  }

  kept_of_parts : never p memory uses (waits p v) by from to ≡ Excluded → AreThreadsKept p memory uses v by from to
  kept_of_parts h = kept_between (part_at memory from) (part_at memory to) refl refl h

-- parts answer that it is excluded, or that it is possible
one_of_two : (b : Bool) → (cond b Possible Excluded ≡ Excluded) ⊎ (cond b Possible Excluded ≡ Possible)
one_of_two true = inr refl
one_of_two false = inl refl

pub only_two : (p : ProfileName) (memory : List PartMemory) (uses : List PartUse) (ws : List Wait) (by : List ℕ) (first second : Option ℕ) →
    (never_between p memory uses ws by first second ≡ Excluded) ⊎ (never_between p memory uses ws by first second ≡ Possible)
only_two p memory uses ws by None second = inr refl
only_two p memory uses ws by (Some i) None = inr refl
only_two p memory uses ws by (Some i) (Some j) = one_of_two (are_open p memory uses ws by i j)

-- what parts alone answer
pub of_parts : (p : ProfileName) (trusted : List ℕ) (v : Shown) (by : List ℕ) (from to : ℕ) (memory : List PartMemory) (uses : List PartUse) (answer : Never) →
    AreRightParts p v trusted memory uses → answer ≡ never p memory uses (waits p v) by from to → IsNeverByParts p trusted v by from to answer
of_parts p trusted v by from to memory uses answer right is = record {
  memory = memory;
  uses = uses;
  right = right;
  answered = is;
  kept = λ out. kept_of_parts p v by from to memory uses right.ever (sym is ∙ out);
}

module _ (p : ProfileName) (texts : Texts) (setup : SetupView) (made refused : ℕ) (without messages : List ℕ) (v : Shown) (by : List ℕ) (from to : ℕ) (memory : List PartMemory) (uses : List PartUse)
    (right : AreRightParts p v (without ++ messages) memory uses) where
  pub answered : (answer : Never) (text : List ℕ) → IsNeverText p (part_texts texts memory (threads p v)) setup made refused without messages memory uses v by from to answer text →
      is_excluded answer ≡ is_excluded (never p memory uses (waits p v) by from to) → IsFounded p (without ++ messages) memory v by from to answer →
      IsNeverOf p texts setup made refused without messages v by from to text answer
  answered answer text told is founded = record {
    memory = memory;
    uses = uses;
    right = right;
    told = told;
    answered = is;
    kept = λ out. kept_of_parts p v by from to memory uses right.ever (excluded_so (never p memory uses (waits p v) by from to) (sym is ∙ ap is_excluded out));
    founded = founded;
  }
