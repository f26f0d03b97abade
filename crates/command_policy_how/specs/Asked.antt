-- What comes of the questions of a breach.
use Rattle.std.specs.Prelude.{◌≡◌, ◌⊎◌, ⊤, ℕ, List, slice_get, Some, true, false}
use Rattle.cap_core.specs.declared.profile.ProfileName.{ProfileName}
use Rattle.kernel_abstract.specs.Shown.{Shown}
use Rattle.setup_format.specs.Views.{SetupView}
use Rattle.command_how_witness.specs.Witness.{Asking}
use Rattle.command_how_witness.specs.Excluded.{IsExcluded, IsOutsideFlow}
use Rattle.command_how_witness.specs.Text.{IsWitnessText}
use Rattle.command_how.specs.declared.line.NoWitness.{NoWitness}
use Rattle.command_how.specs.declared.line.NoWitness.TheVariants.{NotFoundOf}
use Rattle.command_how.specs.Line.{says_excluded}
use Rattle.command_policy_breaches.specs.declared.held.Home.{Home}
use Rattle.command_policy_breaches.specs.declared.held.Layout.{Layout}
use Rattle.setup_policy.specs.declared.policy.Member.{Member}
use Rattle.setup_policy.specs.declared.policy.Policy.{Policy}
use Rattle.command_policy_text.specs.declared.told.Told.{Told}
use Rattle.command_policy_how.specs.declared.asking.BreachOutcome.{BreachOutcome}
use Rattle.command_policy_how.specs.declared.asking.BreachOutcome.TheVariants.{Witness, Without, NotAsked}
use Rattle.command_policy_how.specs.Question.{IsQuestionOf, everyone, is_asked}

-- ---- from one thread to each of some

-- a text is a witness of the question of the thread and one of the others
pub record HasWitnessFrom (p : ProfileName) (c : Policy) (l : Layout) (hs : List Home) (told : Told) (from : Member) (others : List Member) (setup : SetupView) (made : ℕ) (text : List ℕ) : Type 0 where
  pub place : ℕ
  pub to : Member
  pub to_at : slice_get others place ≡ Some to
  pub asked : is_asked l hs told from to ≡ true
  pub question : Asking
  pub is : IsQuestionOf c l told from.thread to.thread question
  pub witness : IsWitnessText p question setup made text

-- the question of two threads is excluded, by parts or by flows
pub record IsExcludedOf (p : ProfileName) (c : Policy) (l : Layout) (told : Told) (v : Shown) (from to : ℕ) : Type 0 where
  pub question : Asking
  pub is : IsQuestionOf c l told from to question
  pub excluded : IsExcluded p question l.uses.items v ⊎ IsOutsideFlow p question v question.what

-- that of the thread and each of the others of whom it is asked is
abbrev pub AreExcludedFrom : ProfileName → Policy → Layout → List Home → Told → Shown → Member → List Member → Type 0
AreExcludedFrom p c l hs told v from others =
    (place : ℕ) (to : Member) → slice_get others place ≡ Some to → is_asked l hs told from to ≡ true → IsExcludedOf p c l told v from.thread to.thread

-- it is asked of the thread and one of the others
pub record HasPairFrom (l : Layout) (hs : List Home) (told : Told) (from : Member) (others : List Member) : Type 0 where
  pub place : ℕ
  pub to : Member
  pub to_at : slice_get others place ≡ Some to
  pub asked : is_asked l hs told from to ≡ true

-- it is asked of the thread and none of the others
abbrev pub HasNoPairFrom : Layout → List Home → Told → Member → List Member → Type 0
HasNoPairFrom l hs told from others = (place : ℕ) (to : Member) → slice_get others place ≡ Some to → is_asked l hs told from to ≡ false

-- where an answer names the copies at which the search ended, there are so many
abbrev pub IsOfMost : ℕ → NoWitness → Type 0
IsOfMost most (NotFoundOf copies) = copies ≡ most
IsOfMost most answer = ⊤

-- by so many copies at most for each question: a witness; or none is told, it is asked, and where that says that it is excluded, each
-- question is; or it is not asked
abbrev pub IsAskedFrom : ProfileName → Policy → Layout → List Home → Told → ℕ → Shown → SetupView → ℕ → Member → List Member → BreachOutcome → Type 0
IsAskedFrom p c l hs told most v setup made from others (Witness text) = HasWitnessFrom p c l hs told from others setup made text.items
IsAskedFrom p c l hs told most v setup made from others (Without answer) =
    HasPairFrom l hs told from others × (IsOfMost most answer × (says_excluded answer ≡ true → AreExcludedFrom p c l hs told v from others))
IsAskedFrom p c l hs told most v setup made from others NotAsked = HasNoPairFrom l hs told from others

-- ---- from each of the policy's threads to each

pub record HasWitness (p : ProfileName) (c : Policy) (l : Layout) (hs : List Home) (told : Told) (setup : SetupView) (made : ℕ) (text : List ℕ) : Type 0 where
  pub place : ℕ
  pub from : Member
  pub from_at : slice_get (everyone c) place ≡ Some from
  pub shown : HasWitnessFrom p c l hs told from (everyone c) setup made text

abbrev pub AreExcluded : ProfileName → Policy → Layout → List Home → Told → Shown → Type 0
AreExcluded p c l hs told v =
    (place : ℕ) (from : Member) → slice_get (everyone c) place ≡ Some from → AreExcludedFrom p c l hs told v from (everyone c)

-- it is asked of two threads
pub record HasPair (c : Policy) (l : Layout) (hs : List Home) (told : Told) : Type 0 where
  pub place : ℕ
  pub from : Member
  pub from_at : slice_get (everyone c) place ≡ Some from
  pub pair : HasPairFrom l hs told from (everyone c)

abbrev pub HasNoPair : Policy → Layout → List Home → Told → Type 0
HasNoPair c l hs told = (place : ℕ) (from : Member) → slice_get (everyone c) place ≡ Some from → HasNoPairFrom l hs told from (everyone c)

abbrev pub IsAskedOf : ProfileName → Policy → Layout → List Home → Told → ℕ → Shown → SetupView → ℕ → BreachOutcome → Type 0
IsAskedOf p c l hs told most v setup made (Witness text) = HasWitness p c l hs told setup made text.items
IsAskedOf p c l hs told most v setup made (Without answer) =
    HasPair c l hs told × (IsOfMost most answer × (says_excluded answer ≡ true → AreExcluded p c l hs told v))
IsAskedOf p c l hs told most v setup made NotAsked = HasNoPair c l hs told
