-- What the parts of a search do to its table.
use Rattle.std.specs.Prelude.{◌≡◌, ℕ, ◌+◌, ◌%◌, ◌^◌, ◌<◌, ◌≤◌, ◌⊎◌, List, Option, Some, slice_get, Ok}
use Rattle.cap_core.specs.declared.profile.ProfileName.{ProfileName}
use Rattle.cap_core.specs.declared.capability.Cap.{Cap}
use Rattle.cap_core.specs.Numbers.{word_bits}
use Rattle.kernel_forest.specs.Forest.{Forest}
use Rattle.kernel_forest.specs.Entries.{Entry}
use Rattle.query_reach.specs.declared.filled.FullSlot.{FullSlot}
use Rattle.query_reach.specs.Reaching.{leads, Reaches}
use Rattle.query_reach.specs.Private.Nodes.{found_from, IsNext}
use Rattle.query_reach.specs.Private.Tables.{word_in, word_at, IsAtMost}

-- the next words of an entry at one place
abbrev pub IsNextAt : ProfileName → Cap → ℕ → ℕ → List FullSlot → ℕ → ℕ → ℕ → Type 0
IsNextAt p from left word filled place more next =
    (to : FullSlot) × ((slice_get filled place ≡ Some to) × IsNext p from left word to.address to.cap more next)

-- the next words of an entry are noted at one place, and nothing else
pub record Visits (p : ProfileName) (from : Cap) (left word : ℕ) (filled : List FullSlot) (place : ℕ) (old new : List (List (Option ℕ))) : Type 0 where
  pub kept : (t k w : ℕ) → word_at old t k ≡ Some w → IsAtMost new t k w
  pub only : (t k w : ℕ) → word_at new t k ≡ Some w → (word_at old t k ≡ Some w) ⊎ ((k ≡ place) × IsNextAt p from left word filled place t w)
  pub noted : (t w : ℕ) → IsNextAt p from left word filled place t w → IsAtMost new t place w

-- the next words of an entry are noted at all places below a number, and nothing else
pub record Spreads (p : ProfileName) (from : Cap) (left word : ℕ) (filled : List FullSlot) (count : ℕ) (old new : List (List (Option ℕ))) : Type 0 where
  pub kept : (t k w : ℕ) → word_at old t k ≡ Some w → IsAtMost new t k w
  pub only : (t k w : ℕ) → word_at new t k ≡ Some w → (word_at old t k ≡ Some w) ⊎ IsNextAt p from left word filled k t w
  pub noted : (t k w : ℕ) → k < count → IsNextAt p from left word filled k t w → IsAtMost new t k w

-- what a row has at a place, and where it leads at another
pub record RowLeads (p : ProfileName) (row : List (Option ℕ)) (left : ℕ) (filled : List FullSlot) (holder t k w : ℕ) : Type 0 where
  pub from : FullSlot
  pub word : ℕ
  pub holds : slice_get filled holder ≡ Some from
  pub entered : word_in row holder ≡ Some word
  pub next : IsNextAt p from.cap left word filled k t w

-- the next words of the entries of a row, those at the places below a number, are noted, and nothing else
pub record RowSpreads (p : ProfileName) (row : List (Option ℕ)) (left : ℕ) (filled : List FullSlot) (count : ℕ) (old new : List (List (Option ℕ))) : Type 0 where
  pub kept : (t k w : ℕ) → word_at old t k ≡ Some w → IsAtMost new t k w
  pub only : (t k w : ℕ) → word_at new t k ≡ Some w → (word_at old t k ≡ Some w) ⊎ ((holder : ℕ) × RowLeads p row left filled holder t k w)
  pub noted : (holder t k w : ℕ) → holder < count → RowLeads p row left filled holder t k w → IsAtMost new t k w

-- the bits that are left after a word are within a word of the machine
abbrev pub IsBounded : ProfileName → List (List (Option ℕ)) → Type 0
IsBounded p rows = (t k w : ℕ) → word_at rows t k ≡ Some w → w + 2 ^ t ≤ 2 ^ word_bits p

-- an entry of a table stands for a word: the search goes on from it, and has not passed the word's least prefix
pub record EntryStandsFor (p : ProfileName) (f : Forest Entry) (filled : List FullSlot) (rows : List (List (Option ℕ))) (word slot : ℕ) : Type 0 where
  pub left : ℕ
  pub place : ℕ
  pub least : ℕ
  pub at : FullSlot
  pub noted : word_at rows left place ≡ Some least
  pub holds : slice_get filled place ≡ Some at
  pub low : least + word % 2 ^ left ≤ word
  pub leads : found_from p f left at.address word ≡ Ok slot

-- a table is that of a search for a thread: its words lead where it says, and it stands for each word that leads to a full
-- slot
pub record IsSearch (p : ProfileName) (f : Forest Entry) (thread : ℕ) (filled : List FullSlot) (rows : List (List (Option ℕ))) : Type 0 where
  pub sound : (t k w : ℕ) (u : FullSlot) → word_at rows t k ≡ Some w → slice_get filled k ≡ Some u →
      (rest : ℕ) → rest < 2 ^ t → leads p f thread (w + rest) ≡ found_from p f t u.address rest
  pub whole : (word slot : ℕ) → word < 2 ^ word_bits p → Reaches p f thread word slot → EntryStandsFor p f filled rows word slot
