-- The table of a search by index and depth: for each number of bits read a row, and in it, for each full slot, the first
-- path so far that leads there.
use Rattle.std.specs.Prelude.{◌≡◌, ℕ, ◌^◌, ◌<◌, ◌≤◌, ◌⊎◌, ◌==◌, ◌&&◌, ◌||◌, nat_lt, cond, length, List, [], Option, None, Some, slice_get, slice_set, option_and_then, unwrap_or}
use Rattle.query_reach.specs.declared.paths.Path.{Path}

-- the path at a place of a row
abbrev pub path_in : List (Option Path) → ℕ → Option Path
path_in row place = option_and_then (λ (path : Option Path). path) (slice_get row place)

-- the row of a number of bits read
abbrev pub path_row : List (List (Option Path)) → ℕ → List (Option Path)
path_row rows read = unwrap_or (slice_get rows read) []

abbrev pub path_at : List (List (Option Path)) → ℕ → ℕ → Option Path
path_at rows read place = path_in (path_row rows read) place

-- by the words, and at one word by the indexes
abbrev pub IsUpTo : Path → Path → Type 0
IsUpTo a b = (a.word < b.word) ⊎ ((a.word ≡ b.word) × (a.index ≤ b.index))

abbrev pub lesser_path : Path → Path → Path
lesser_path a b = cond (nat_lt b.word a.word || (b.word == a.word && nat_lt b.index a.index)) b a

abbrev pub first_with : Path → Option Path → Path
first_with path None = path
first_with path (Some known) = lesser_path known path

-- a path is put at a place
abbrev pub put_in : List (Option Path) → ℕ → Path → List (Option Path)
put_in row place path = slice_set row place (Some (first_with path (path_in row place)))

abbrev pub put : List (List (Option Path)) → ℕ → ℕ → Path → List (List (Option Path))
put rows read place path = slice_set rows read (put_in (path_row rows read) place path)

-- a table has a path at a place that is no later than another one
abbrev pub HasUpTo : List (List (Option Path)) → ℕ → ℕ → Path → Type 0
HasUpTo rows read place path = (first : Path) × (IsUpTo first path × (path_at rows read place ≡ Some first))

-- so many rows; each has no places yet, or one for each full slot
pub record IsWide (height width : ℕ) (rows : List (List (Option Path))) : Type 0 where
  pub high : length rows ≡ height
  pub wide : (read : ℕ) → (length (path_row rows read) ≡ 0) ⊎ (length (path_row rows read) ≡ width)

-- a row has a place for each full slot, and the paths are what they were
pub record IsOpened (read width : ℕ) (old new : List (List (Option Path))) : Type 0 where
  pub wide : (height : ℕ) → IsWide height width old → IsWide height width new
  pub places : length (path_row new read) ≡ width
  pub paths : (t k : ℕ) → path_at new t k ≡ path_at old t k

-- a path is put at a place, and nothing else
pub record IsPut (rows : List (List (Option Path))) (read place : ℕ) (path : Path) (new : List (List (Option Path))) : Type 0 where
  pub front : (t k : ℕ) → t < read → path_at new t k ≡ path_at rows t k
  pub kept : (t k : ℕ) (w : Path) → path_at rows t k ≡ Some w → HasUpTo new t k w
  pub only : (t k : ℕ) (w : Path) → path_at new t k ≡ Some w → (path_at rows t k ≡ Some w) ⊎ ((t ≡ read) × ((k ≡ place) × (w ≡ path)))
  pub there : HasUpTo new read place path

-- an index has no more bits than were read
abbrev pub AreWithinBits : List (List (Option Path)) → Type 0
AreWithinBits rows = (read place : ℕ) (path : Path) → path_at rows read place ≡ Some path → path.index < 2 ^ read

-- the first path at a place that reads some bits, and how many: by its word, and at one word by its bits
pub record IsFirstAt (rows : List (List (Option Path))) (place depth : ℕ) (path : Path) : Type 0 where
  pub some : 1 ≤ depth
  pub there : path_at rows depth place ≡ Some path
  pub first : (more : ℕ) (other : Path) → 1 ≤ more → path_at rows more place ≡ Some other →
      (path.word < other.word) ⊎ ((path.word ≡ other.word) × (depth ≤ more))

-- that, among the numbers of bits below one
pub record IsFirstBelow (rows : List (List (Option Path))) (place count depth : ℕ) (path : Path) : Type 0 where
  pub some : 1 ≤ depth
  pub within : depth < count
  pub there : path_at rows depth place ≡ Some path
  pub first : (more : ℕ) (other : Path) → 1 ≤ more → more < count → path_at rows more place ≡ Some other →
      (path.word < other.word) ⊎ ((path.word ≡ other.word) × (depth ≤ more))
