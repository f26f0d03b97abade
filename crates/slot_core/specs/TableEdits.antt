-- What each edit of the table does to its links, its rows and the ends of its list. Every other row stays as it was.
use Rattle.std.specs.Prelude.{◌≡◌, ◌≢◌, ℕ, false, List, length, Option, Some, None}
use Rattle.cap_core.specs.declared.capability.Cap.{Cap}
use Rattle.cap_core.specs.declared.capability.Cap.TheVariants.{Null}
use Rattle.kernel_forest.specs.Derivation.{with_free}
use Rattle.kernel_forest.specs.Marked.{Marked, marked, at_place, with_cap, with_mark}
use Rattle.slot_core.specs.declared.linked.table.Link.{Link}
use Rattle.slot_core.specs.Links.{next_of, previous_of, row_of}

-- x is linked in behind s
pub record PutsBehind (links links' : List Link) (first first' last last' : Option ℕ) (s x : ℕ) (row : Marked) : Type 0 where
  pub next : (i : ℕ) → i ≢ s → i ≢ x → next_of links' i ≡ next_of links i
  pub next_source : s ≢ x → next_of links' s ≡ Some x
  pub next_slot : s ≢ x → next_of links' x ≡ next_of links s
  pub previous : (i : ℕ) → i ≢ x → (next_of links s ≡ Some i → ⊥) → previous_of links' i ≡ previous_of links i
  pub previous_slot : (next_of links s ≡ Some x → ⊥) → previous_of links' x ≡ Some s
  pub previous_next : (n : ℕ) → next_of links s ≡ Some n → previous_of links' n ≡ Some x
  pub last_none : next_of links s ≡ None → last' ≡ Some x
  pub last_some : (n : ℕ) → next_of links s ≡ Some n → last' ≡ last
  pub first_same : first' ≡ first
  pub rows : (i : ℕ) → i ≢ x → row_of links' i ≡ row_of links i
  pub row_slot : row_of links' x ≡ row
  pub size : length links' ≡ length links

-- x is linked in at the end
pub record Appends (links links' : List Link) (first first' last last' : Option ℕ) (x : ℕ) (row : Marked) : Type 0 where
  pub next : (i : ℕ) → (last ≡ Some i → ⊥) → i ≢ x → next_of links' i ≡ next_of links i
  pub next_last : (i : ℕ) → last ≡ Some i → i ≢ x → next_of links' i ≡ Some x
  pub next_slot : (last ≡ Some x → ⊥) → next_of links' x ≡ None
  pub previous : (i : ℕ) → i ≢ x → previous_of links' i ≡ previous_of links i
  pub previous_slot : previous_of links' x ≡ last
  pub first_none : last ≡ None → first' ≡ Some x
  pub first_some : (n : ℕ) → last ≡ Some n → first' ≡ first
  pub last_slot : last' ≡ Some x
  pub rows : (i : ℕ) → i ≢ x → row_of links' i ≡ row_of links i
  pub row_slot : row_of links' x ≡ row
  pub size : length links' ≡ length links

-- s is taken out
pub record TakesOut (links links' : List Link) (first first' last last' : Option ℕ) (s : ℕ) : Type 0 where
  pub next : (i : ℕ) → i ≢ s → (previous_of links s ≡ Some i → ⊥) → next_of links' i ≡ next_of links i
  pub next_previous : (i : ℕ) → previous_of links s ≡ Some i → i ≢ s → next_of links' i ≡ next_of links s
  pub first_none : previous_of links s ≡ None → first' ≡ next_of links s
  pub first_some : (i : ℕ) → previous_of links s ≡ Some i → first' ≡ first
  pub previous : (i : ℕ) → i ≢ s → (next_of links s ≡ Some i → ⊥) → previous_of links' i ≡ previous_of links i
  pub previous_next : (i : ℕ) → next_of links s ≡ Some i → i ≢ s → previous_of links' i ≡ previous_of links s
  pub last_none : next_of links s ≡ None → last' ≡ previous_of links s
  pub last_some : (i : ℕ) → next_of links s ≡ Some i → last' ≡ last
  pub rows : (i : ℕ) → i ≢ s → (next_of links s ≡ Some i → ⊥) → row_of links' i ≡ row_of links i
  pub row_next : (i : ℕ) → next_of links s ≡ Some i → i ≢ s → row_of links' i ≡ with_mark (row_of links s).first_badged (row_of links i)
  pub row : row_of links' s ≡ marked s Null false false
  pub next_slot : next_of links' s ≡ None
  pub previous_slot : previous_of links' s ≡ None
  pub size : length links' ≡ length links

-- x stands in the place of s
pub record Replaces (links links' : List Link) (first first' last last' : Option ℕ) (s x : ℕ) (cap : Cap) : Type 0 where
  pub next : (i : ℕ) → i ≢ s → i ≢ x → (previous_of links s ≡ Some i → ⊥) → next_of links' i ≡ next_of links i
  pub next_previous : (i : ℕ) → previous_of links s ≡ Some i → i ≢ s → i ≢ x → next_of links' i ≡ Some x
  pub next_slot : x ≢ s → (previous_of links s ≡ Some x → ⊥) → next_of links' x ≡ next_of links s
  pub previous : (i : ℕ) → i ≢ s → i ≢ x → (next_of links s ≡ Some i → ⊥) → previous_of links' i ≡ previous_of links i
  pub previous_next : (i : ℕ) → next_of links s ≡ Some i → i ≢ s → i ≢ x → previous_of links' i ≡ Some x
  pub previous_slot : x ≢ s → (next_of links s ≡ Some x → ⊥) → previous_of links' x ≡ previous_of links s
  pub first_none : previous_of links s ≡ None → first' ≡ Some x
  pub first_some : (i : ℕ) → previous_of links s ≡ Some i → first' ≡ first
  pub last_none : next_of links s ≡ None → last' ≡ Some x
  pub last_some : (i : ℕ) → next_of links s ≡ Some i → last' ≡ last
  pub rows : (i : ℕ) → i ≢ s → i ≢ x → row_of links' i ≡ row_of links i
  pub row_slot : x ≢ s → row_of links' x ≡ at_place x (with_cap cap (row_of links s))
  pub row : row_of links' s ≡ marked s Null false false
  pub next_source : next_of links' s ≡ None
  pub previous_source : previous_of links' s ≡ None
  pub size : length links' ≡ length links

-- the free index of an untyped capability is set
pub record Frees (links links' : List Link) (s free : ℕ) : Type 0 where
  pub next : (i : ℕ) → next_of links' i ≡ next_of links i
  pub previous : (i : ℕ) → previous_of links' i ≡ previous_of links i
  pub rows : (i : ℕ) → i ≢ s → row_of links' i ≡ row_of links i
  pub row : row_of links' s ≡ with_cap (with_free free (row_of links s).cap) (row_of links s)
  pub size : length links' ≡ length links
