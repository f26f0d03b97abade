-- What the parts of a search by index and depth do to its table.
use Rattle.std.specs.Prelude.{◌≡◌, ℕ, zero, suc, ◌+◌, ◌*◌, ◌%◌, ◌^◌, ◌<◌, ◌≤◌, ◌⊎◌, ◌==◌, true, cond, List, Option, Some, None, slice_get, Result, Ok, Err}
use Rattle.cap_core.specs.declared.profile.ProfileName.{ProfileName}
use Rattle.cap_core.specs.declared.capability.Guard.{Guard}
use Rattle.cap_core.specs.declared.capability.Cap.{Cap}
use Rattle.cap_core.specs.declared.capability.Cap.TheVariants.{CNode}
use Rattle.cap_core.specs.declared.refusal.LookupFault.{LookupFault}
use Rattle.cap_core.specs.Numbers.{word_bits}
use Rattle.kernel_forest.specs.Forest.{Forest}
use Rattle.kernel_forest.specs.Entries.{Entry, cap_at, is_full}
use Rattle.cspace_core.specs.Bits.{low_bits}
use Rattle.cspace_core.specs.Resolution.{Found, slot_of, resolution}
use Rattle.query_reach.specs.declared.filled.FullSlot.{FullSlot}
use Rattle.query_reach.specs.declared.paths.Path.{Path}
use Rattle.query_reach.specs.Private.Paths.{path_at, IsUpTo, HasUpTo}

-- the slot that is found, if no bits are left over
abbrev pub whole_slot : Result Found LookupFault → Option ℕ
whole_slot (Ok found) = cond (found.left == 0) (Some found.slot) None
whole_slot (Err fault) = None

-- the slot that the low `depth` bits of an index lead to from a slot's capability, with none left over; by no bits the slot itself
abbrev pub target_from : ProfileName → Forest Entry → ℕ → ℕ → ℕ → Option ℕ
target_from p f zero slot index = Some slot
target_from p f (suc depth) slot index = whole_slot (resolution p (cap_at f) (cap_at f slot) (low_bits (suc depth) index))

-- from a capability that a path of `read` bits leads to, the slot at `slot` is chosen by the next path, with `more` bits read
pub record IsStep (p : ProfileName) (from : Cap) (read : ℕ) (path : Path) (slot more : ℕ) (next : Path) : Type 0 where
  pub base : ℕ
  pub radix : ℕ
  pub guard : Guard
  pub number : ℕ
  pub node : from ≡ CNode base radix guard
  pub fits : read + (guard.size + radix) ≤ word_bits p
  pub within : number < 2 ^ radix
  pub chosen : slot ≡ slot_of p base number
  pub bits : more ≡ read + (guard.size + radix)
  pub is : next ≡ record { word = path.word; index = (path.index * 2 ^ guard.size + guard.value) * 2 ^ radix + number }

-- a step to the full slot at a place
abbrev pub IsStepAt : ProfileName → Cap → ℕ → Path → List FullSlot → ℕ → ℕ → Path → Type 0
IsStepAt p from read path filled place more next =
    (to : FullSlot) × ((slice_get filled place ≡ Some to) × IsStep p from read path to.address more next)

-- the steps of a path to one place are put there, and nothing else
pub record Adds (p : ProfileName) (from : Cap) (read : ℕ) (path : Path) (place slot : ℕ) (old new : List (List (Option Path))) : Type 0 where
  pub front : (t k : ℕ) → t ≤ read → path_at new t k ≡ path_at old t k
  pub kept : (t k : ℕ) (w : Path) → path_at old t k ≡ Some w → HasUpTo new t k w
  pub only : (t k : ℕ) (w : Path) → path_at new t k ≡ Some w → (path_at old t k ≡ Some w) ⊎ ((k ≡ place) × IsStep p from read path slot t w)
  pub added : (t : ℕ) (w : Path) → IsStep p from read path slot t w → HasUpTo new t place w

-- those to all places below a number are put there, and nothing else
pub record ExtendsExplored (p : ProfileName) (from : Cap) (read : ℕ) (path : Path) (filled : List FullSlot) (count : ℕ) (old new : List (List (Option Path))) : Type 0 where
  pub front : (t k : ℕ) → t ≤ read → path_at new t k ≡ path_at old t k
  pub kept : (t k : ℕ) (w : Path) → path_at old t k ≡ Some w → HasUpTo new t k w
  pub only : (t k : ℕ) (w : Path) → path_at new t k ≡ Some w → (path_at old t k ≡ Some w) ⊎ IsStepAt p from read path filled k t w
  pub added : (t k : ℕ) (w : Path) → k < count → IsStepAt p from read path filled k t w → HasUpTo new t k w

-- what a table has in a row at a place, and where it leads at another place
pub record StepsFrom (p : ProfileName) (rows : List (List (Option Path))) (read : ℕ) (filled : List FullSlot) (holder t k : ℕ) (w : Path) : Type 0 where
  pub from : FullSlot
  pub path : Path
  pub holds : slice_get filled holder ≡ Some from
  pub entered : path_at rows read holder ≡ Some path
  pub step : IsStepAt p from.cap read path filled k t w

-- the steps of the paths of a row, of those at the places below a number, are put, and nothing else
pub record ExtendsRow (p : ProfileName) (read : ℕ) (filled : List FullSlot) (count : ℕ) (old new : List (List (Option Path))) : Type 0 where
  pub front : (t k : ℕ) → t ≤ read → path_at new t k ≡ path_at old t k
  pub kept : (t k : ℕ) (w : Path) → path_at old t k ≡ Some w → HasUpTo new t k w
  pub only : (t k : ℕ) (w : Path) → path_at new t k ≡ Some w → (path_at old t k ≡ Some w) ⊎ ((holder : ℕ) × StepsFrom p old read filled holder t k w)
  pub added : (holder t k : ℕ) (w : Path) → holder < count → StepsFrom p old read filled holder t k w → HasUpTo new t k w

-- a path of a table goes on as it did from where it started
pub record ComesFrom (p : ProfileName) (f : Forest Entry) (filled : List FullSlot) (first : List (List (Option Path))) (read : ℕ) (path : Path) (slot : ℕ) : Type 0 where
  pub place : ℕ
  pub from : FullSlot
  pub start : Path
  pub starts : path_at first 0 place ≡ Some start
  pub word : start.word ≡ path.word
  pub holds : slice_get filled place ≡ Some from
  pub goes : (left rest : ℕ) → rest < 2 ^ left → target_from p f (read + left) from.address (path.index * 2 ^ left + rest) ≡ target_from p f left slot rest

-- a path of a table stands for a word and an index of `depth` bits: it goes on to the slot that they name, is no later, and is
-- still to be followed if bits are left
pub record StandsForIndex (p : ProfileName) (f : Forest Entry) (filled : List FullSlot) (rows : List (List (Option Path))) (done word depth index slot : ℕ) : Type 0 where
  pub read : ℕ
  pub left : ℕ
  pub place : ℕ
  pub at : FullSlot
  pub path : Path
  pub ahead : (done ≤ read) ⊎ (left ≡ 0)
  pub split : read + left ≡ depth
  pub there : path_at rows read place ≡ Some path
  pub holds : slice_get filled place ≡ Some at
  pub low : IsUpTo (record { word = path.word; index = path.index * 2 ^ left + index % 2 ^ left }) (record { word = word; index = index })
  pub leads : target_from p f left at.address index ≡ Some slot

-- a table whose rows below a number were followed, from a first table on
pub record IsSpaceExplored (p : ProfileName) (f : Forest Entry) (filled : List FullSlot) (first rows : List (List (Option Path))) (done : ℕ) : Type 0 where
  pub sound : (read place : ℕ) (path : Path) (u : FullSlot) → path_at rows read place ≡ Some path → slice_get filled place ≡ Some u →
      ComesFrom p f filled first read path u.address
  pub whole : (place : ℕ) (from : FullSlot) (start : Path) (depth index slot : ℕ) → path_at first 0 place ≡ Some start → slice_get filled place ≡ Some from →
      depth ≤ word_bits p → target_from p f depth from.address index ≡ Some slot → is_full slot f ≡ true →
      StandsForIndex p f filled rows done start.word depth index slot

-- paths that read nothing, only in the first row
abbrev pub AreStarts : List (List (Option Path)) → Type 0
AreStarts rows = (read place : ℕ) (path : Path) → path_at rows read place ≡ Some path → (read ≡ 0) × (path.index ≡ 0)
