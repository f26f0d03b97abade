-- What is seen of the history.
use Rattle.std.specs.Prelude.{◌≡◌, ℕ, List, ◌++◌}
use mathlib.Core.Option.{some}
use lib.ListN.{get_elem?}
use Rattle.kernel_shared.specs.declared.entry.Entry.{Entry}

-- the history begins with these entries
pub record StartsWith (h seen : List Entry) : Type 0 where
  pub rest : List Entry
  pub is : h ≡ seen ++ rest

-- the rule of the two copies: each view is a beginning of the published history
abbrev pub Keeps : List Entry → List (List Entry) → Type 0
Keeps h views = (seat : ℕ) (view : List Entry) → get_elem? views seat ≡ some view → StartsWith h view

-- a step after which the view is the published history, which begins with what was seen before
pub record Sees (before h after : List Entry) : Type 0 where
  pub later : StartsWith after before
  pub is : after ≡ h
