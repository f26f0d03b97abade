-- Which breach a line of a policy's text tells of.
use Rattle.std.specs.Prelude.{◌≡◌, ℕ, ◌-◌, ◌==◌, cond, List, ◌++◌, slice_get, Option, Some, None}
use Rattle.command_policy_breaches.specs.declared.held.Home.{Home}
use Rattle.setup_policy.specs.declared.policy.Labels.{Labels}
use Rattle.command_policy_breaches.specs.declared.held.Layout.{Layout}
use Rattle.setup_policy.specs.declared.policy.Policy.{Policy}
use Rattle.command_policy_breaches.specs.declared.ways.Passage.{Passage}
use Rattle.command_policy_text.specs.declared.told.Told.{Told}
use Rattle.command_policy_text.specs.Kinds.{badge_breaches, joined_breaches, passage_breaches, take_breaches, waiting_breaches}
use Rattle.command_policy_text.specs.Told.{line_told}

-- the line with a number, from 1
abbrev pub breach_at : List (List ℕ) → ℕ → Option (List ℕ)
breach_at lines number = cond (number == 0) None (slice_get lines (number - 1))

-- the breaches of which it is asked how they happen: those of parts, messages and takes, and not those of what is held
abbrev pub asked_breaches : Policy → Layout → List Home → List Passage → List Told
asked_breaches c l hs ws = joined_breaches l ++ (badge_breaches c l ++ (passage_breaches c l hs ws ++ (waiting_breaches c l ++ take_breaches c l)))

-- one of some breaches has a line
pub record HasLine (c : Policy) (l : Layout) (n : Labels) (hs : List Home) (breaches : List Told) (line : List ℕ) (told : Told) : Type 0 where
  pub place : ℕ
  pub is : slice_get breaches place ≡ Some told
  pub line_is : line ≡ line_told c l n hs told

-- the breach that is found has the line; where none is found, none has it
abbrev pub IsToldBy : Policy → Layout → Labels → List Home → List Told → List ℕ → Option Told → Type 0
IsToldBy c l n hs breaches line None = (told : Told) → HasLine c l n hs breaches line told → ⊥
IsToldBy c l n hs breaches line (Some told) = HasLine c l n hs breaches line told
