-- A link that takes another one's place: it is written, the neighbours lead to it, and the other one is emptied.
use Rattle.std.proofs.Common.{◌≡◌, ◌≢◌, ℕ, ◌<◌, false, List, length, Option, None, Some, IfSome, sym, ◌∙◌, ap, subst}
use Rattle.cap_core.specs.declared.capability.Cap.{Cap}
use Rattle.cap_core.specs.declared.capability.Cap.TheVariants.{Null}
use Rattle.kernel_forest.specs.Marked.{Marked, marked}
use Rattle.slot_core.specs.declared.linked.table.Link.{Link}
use Rattle.slot_core.specs.Links.{next_of, previous_of, link_at, row_of, place_in}
use Rattle.slot_core.specs.TableEdits.{Replaces}

-- the row of x is written
pub record Puts (links links' : List Link) (x : ℕ) (next_place previous_place : Option ℕ) (marks : Marked) : Type 0 where
  pub next : (i : ℕ) → i ≢ x → next_of links' i ≡ next_of links i
  pub next_slot : next_of links' x ≡ next_place
  pub previous : (i : ℕ) → i ≢ x → previous_of links' i ≡ previous_of links i
  pub previous_slot : previous_of links' x ≡ previous_place
  pub rows : (i : ℕ) → i ≢ x → row_of links' i ≡ row_of links i
  pub row : row_of links' x ≡ marks
  pub size : length links' ≡ length links

-- the list goes on from `before` to x
pub record LeadsOn (links links' : List Link) (first first' before : Option ℕ) (x : ℕ) : Type 0 where
  pub next : (i : ℕ) → (before ≡ Some i → ⊥) → next_of links' i ≡ next_of links i
  pub next_before : (i : ℕ) → before ≡ Some i → next_of links' i ≡ Some x
  pub previous : (i : ℕ) → previous_of links' i ≡ previous_of links i
  pub rows : (i : ℕ) → row_of links' i ≡ row_of links i
  pub first_none : before ≡ None → first' ≡ Some x
  pub first_some : (i : ℕ) → before ≡ Some i → first' ≡ first
  pub size : length links' ≡ length links

-- the list goes back from `behind` to x
pub record LeadsBack (links links' : List Link) (last last' behind : Option ℕ) (x : ℕ) : Type 0 where
  pub next : (i : ℕ) → next_of links' i ≡ next_of links i
  pub previous : (i : ℕ) → (behind ≡ Some i → ⊥) → previous_of links' i ≡ previous_of links i
  pub previous_behind : (i : ℕ) → behind ≡ Some i → previous_of links' i ≡ Some x
  pub rows : (i : ℕ) → row_of links' i ≡ row_of links i
  pub last_none : behind ≡ None → last' ≡ Some x
  pub last_some : (i : ℕ) → behind ≡ Some i → last' ≡ last
  pub size : length links' ≡ length links

-- a neighbour that the table has is in a table of the same size
pub still_in : (a b : Option ℕ) (m n : ℕ) → a ≡ b → m ≡ n → IfSome b (λ i. i < n) → IfSome a (λ i. i < m)
still_in a b m n same size h =
    subst (λ (o : Option ℕ). IfSome o (λ i. i < m)) (sym same) (subst (λ (k : ℕ). IfSome b (λ i. i < k)) (sym size) h)

module _ (links written led back emptied : List Link) (first first' last last' : Option ℕ) (s x : ℕ) (cap : Cap) (row : Link) (row_is : row ≡ link_at links s)
    (put : Puts links written x (place_in row.next) (place_in row.previous) (marked x cap row.revocable row.first_badged))
    (on : LeadsOn written led first first' (place_in row.previous) x) (to : LeadsBack led back last last' (place_in row.next) x)
    (end : Puts back emptied s None None (marked s Null false false)) where
  before_is : place_in row.previous ≡ previous_of links s
  before_is = ap (λ (l : Link). place_in l.previous) row_is

  behind_is : place_in row.next ≡ next_of links s
  behind_is = ap (λ (l : Link). place_in l.next) row_is

  pub replaced : Replaces links emptied first first' last last' s x cap
  replaced = record {
    next = λ i other new far. end.next i other ∙ to.next i ∙ on.next i (λ h. far (sym before_is ∙ h)) ∙ put.next i new;
    next_previous = λ i is other new. end.next i other ∙ to.next i ∙ on.next_before i (before_is ∙ is);
    next_slot = λ other far. end.next x other ∙ to.next x ∙ on.next x (λ h. far (sym before_is ∙ h)) ∙ put.next_slot ∙ behind_is;
    previous = λ i other new far. end.previous i other ∙ to.previous i (λ h. far (sym behind_is ∙ h)) ∙ on.previous i ∙ put.previous i new;
    previous_next = λ i is other new. end.previous i other ∙ to.previous_behind i (behind_is ∙ is);
    previous_slot = λ other far. end.previous x other ∙ to.previous x (λ h. far (sym behind_is ∙ h)) ∙ on.previous x ∙ put.previous_slot ∙ before_is;
    first_none = λ is. on.first_none (before_is ∙ is);
    first_some = λ i is. on.first_some i (before_is ∙ is);
    last_none = λ is. to.last_none (behind_is ∙ is);
    last_some = λ i is. to.last_some i (behind_is ∙ is);
    rows = λ i other new. end.rows i other ∙ to.rows i ∙ on.rows i ∙ put.rows i new;
    row_slot = λ other. end.rows x other ∙ to.rows x ∙ on.rows x ∙ put.row ∙ ap (λ (l : Link). marked x cap l.revocable l.first_badged) row_is;
    row = end.row;
    next_source = end.next_slot;
    previous_source = end.previous_slot;
    size = end.size ∙ to.size ∙ on.size ∙ put.size;
  }
