-- What a table of paths says of the full slots: where its paths start, and which slots are held.
use Rattle.std.specs.Prelude.{◌≡◌, ℕ, ◌<◌, ◌≤◌, nat_le, cond, length, List, Option, None, Some, slice_get}
use Rattle.std.specs.List.{Contains}
use Rattle.query_reach.specs.declared.filled.FullSlot.{FullSlot}
use Rattle.query_reach.specs.declared.held.Held.{Held}
use Rattle.query_reach.specs.declared.paths.Path.{Path}
use Rattle.query_reach.specs.declared.reached.Reached.{Reached}
use Rattle.query_reach.specs.Private.Paths.{path_at, IsFirstAt, IsFirstBelow}

-- the paths of the first row are the words of the first entries of a list
pub record HasStarts (filled : List FullSlot) (list : List Reached) (count : ℕ) (rows : List (List (Option Path))) : Type 0 where
  pub only : (place : ℕ) (path : Path) (u : FullSlot) → path_at rows 0 place ≡ Some path → slice_get filled place ≡ Some u →
      (r : Reached) × (Contains list r × ((r.slot ≡ u.address) × (r.word ≡ path.word)))
  pub all : (k place : ℕ) (r : Reached) (u : FullSlot) → k < count → slice_get list k ≡ Some r → slice_get filled place ≡ Some u → u.address ≡ r.slot →
      (path : Path) × ((path_at rows 0 place ≡ Some path) × (path.word ≤ r.word))

abbrev pub path_of : Held → Path
path_of h = record { word = h.word; index = h.index }

-- the earlier of an entry, if there is one, and one with a greater depth
abbrev pub earlier : Option Held → Held → Held
earlier None next = next
earlier (Some known) next = cond (nat_le known.word next.word) known next

-- an entry is the first path at a place, to a slot that no path of the first row is at
pub record IsHeldAt (rows : List (List (Option Path))) (place address : ℕ) (h : Held) : Type 0 where
  pub unreached : path_at rows 0 place ≡ None
  pub slot_is : h.slot ≡ address
  pub first : IsFirstAt rows place h.depth (path_of h)

-- numbers of bits, from 1 on, in rising order, are those of the rows that have places: all that some path reads are among them
pub record AreDepths (rows : List (List (Option Path))) (depths : List ℕ) : Type 0 where
  pub within : (i depth : ℕ) → slice_get depths i ≡ Some depth → (1 ≤ depth) × (depth < length rows)
  pub rising : (i j a b : ℕ) → i < j → slice_get depths i ≡ Some a → slice_get depths j ≡ Some b → a < b
  pub all : (depth place : ℕ) (path : Path) → 1 ≤ depth → path_at rows depth place ≡ Some path → (i : ℕ) × (slice_get depths i ≡ Some depth)

-- no path reads some bits at a place
abbrev pub HasNone : List (List (Option Path)) → ℕ → ℕ → Type 0
HasNone rows place count = (depth : ℕ) (path : Path) → 1 ≤ depth → depth < count → path_at rows depth place ≡ Some path → ⊥

-- what was found among the numbers of bits below one
pub record IsBest (rows : List (List (Option Path))) (place address count : ℕ) (best : Option Held) : Type 0 where
  pub none : best ≡ None → HasNone rows place count
  pub some : (h : Held) → best ≡ Some h → (h.slot ≡ address) × IsFirstBelow rows place count h.depth (path_of h)

-- an entry of a list of held slots, with its place
pub record IsListed (rows : List (List (Option Path))) (filled : List FullSlot) (h : Held) : Type 0 where
  pub place : ℕ
  pub at : FullSlot
  pub holds : slice_get filled place ≡ Some at
  pub held : IsHeldAt rows place at.address h

-- the slot at a place has an entry in a list, if it is to have one
abbrev pub HasEntry : List (List (Option Path)) → ℕ → ℕ → List Held → Type 0
HasEntry rows place address list =
    path_at rows 0 place ≡ None → (depth : ℕ) (path : Path) → 1 ≤ depth → path_at rows depth place ≡ Some path →
    (h : Held) × (Contains list h × IsHeldAt rows place address h)
