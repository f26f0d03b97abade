-- The full slots that derivations have, and what a row of a table says of them.
use Rattle.std.specs.Prelude.{◌≡◌, ℕ, List, Option, Some, slice_get}
use Rattle.cap_core.specs.declared.profile.ProfileName.{ProfileName}
use Rattle.slot_core.specs.declared.derivations.Derivation.{Derivation}
use Rattle.slot_core.specs.Places.{address_of}
use Rattle.query_reach.specs.declared.filled.FullSlot.{FullSlot}
use Rattle.query_reach.specs.declared.reached.Reached.{Reached}
use Rattle.query_reach.specs.Private.Tables.{word_in}

-- the slot of a derivation, with what it holds
abbrev pub full_slot : ProfileName → Derivation → FullSlot
full_slot p d = record { address = address_of p d.slot; cap = d.cap }

-- an entry of a list of reached slots is a word of a row, with the slot at its place
pub record IsFoundInRows (row : List (Option ℕ)) (filled : List FullSlot) (r : Reached) : Type 0 where
  pub place : ℕ
  pub at : FullSlot
  pub holds : slice_get filled place ≡ Some at
  pub word : word_in row place ≡ Some r.word
  pub slot : r.slot ≡ at.address
