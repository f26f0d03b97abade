-- Threads, as their rows and their roles show them.
use Rattle.std.proofs.Common.{◌≡◌, ◌≢◌, ℕ, Bool, true, false, cond, List, [], ◌∷◌, map, Option, None, Some, IsSomeAnd, option_map, option_and_then, refl, sym, ap, subst, ◌∙◌, inl, inr}
use Rattle.std.proofs.lemmas.Bool.Decides.{eqb_tells}
use Rattle.std.specs.FinMap.{get, insert}
use Rattle.ipc_core.specs.declared.waiter.Role.{Role}
use Rattle.ipc_core.specs.declared.waiter.Role.TheVariants as R
use Rattle.ipc_core.specs.Waits.{Waits}
use Rattle.kernel_abstract.specs.declared.call.ThreadState.TheVariants.{Ready, Inactive}
use Rattle.kernel_core.specs.declared.rows.ThreadRow.{ThreadRow}
use Rattle.kernel_abstract.specs.Shown.{ThreadView}
use Rattle.kernel_core.specs.Rows.{keyed, rows_map, view_of, state_with, threads_shown}
use Rattle.kernel_abstract.proofs.Lists.Tables.{at, get_at, get_after, same_nat_map}

-- values that depend on their keys
at_viewed : {X Y : Type 0} (h : ℕ → X → Y) (es : List (ℕ × X)) (q : ℕ) → at q (map (λ (e : ℕ × X). (e.0, h e.0 e.1)) es) ≡ option_map (h q) (at q es)
at_viewed h [] q = refl
at_viewed {X} {Y} h (e ∷ es) q = elim (eqb_tells q e.0) [
  | inl w ↦ ap (λ (b : Bool). cond b (Some (h e.0 e.1)) (at q (map (λ (e : ℕ × X). (e.0, h e.0 e.1)) es))) w.0
      ∙ ap (λ (n : ℕ). Some (h n e.1)) (sym w.1)
      ∙ sym (ap (λ (b : Bool). option_map (h q) (cond b (Some e.1) (at q es))) w.0)
  | inr w ↦ ap (λ (b : Bool). cond b (Some (h e.0 e.1)) (at q (map (λ (e : ℕ × X). (e.0, h e.0 e.1)) es))) w.0
      ∙ at_viewed h es q
      ∙ sym (ap (λ (b : Bool). option_map (h q) (cond b (Some e.1) (at q es))) w.0)
]

-- a thread is shown where it has a row
pub get_thread : (size : ℕ) (rows : List (Option ThreadRow)) (w : Waits) (q : ℕ) → get (threads_shown size rows w) q ≡ option_map (view_of (w.role q)) (get (rows_map size rows) q)
get_thread size rows w q =
    get_at (map (λ (e : ℕ × ThreadRow). (e.0, view_of (w.role e.0) e.1)) (keyed size 0 rows)) q
    ∙ at_viewed (λ (k : ℕ) (row : ThreadRow). view_of (w.role k) row) (keyed size 0 rows) q
    ∙ sym (ap (option_map (view_of (w.role q))) (get_at (keyed size 0 rows) q))

-- one thread changes
pub threads_changed : (size : ℕ) (rows rows' : List (Option ThreadRow)) (w w' : Waits) (t : ℕ) (view : ThreadView) →
    ((q : ℕ) → q ≢ t → get (rows_map size rows') q ≡ get (rows_map size rows) q) →
    ((q : ℕ) → q ≢ t → w'.role q ≡ w.role q) →
    option_map (view_of (w'.role t)) (get (rows_map size rows') t) ≡ Some view →
    threads_shown size rows' w' ≡ insert (threads_shown size rows w) t view
threads_changed size rows rows' w w' t view other_rows other_roles here = same_nat_map _ _ (λ q. elim (eqb_tells q t) [
  | inl u ↦ get_thread size rows' w' q
      ∙ ap (λ (n : ℕ). option_map (view_of (w'.role n)) (get (rows_map size rows') n)) u.1 ∙ here
      ∙ sym (get_after (threads_shown size rows w) t view q ∙ ap (λ (b : Bool). cond b (Some view) (get (threads_shown size rows w) q)) u.0)
  | inr u ↦ get_thread size rows' w' q
      ∙ ap (λ (r : Option Role). option_map (view_of r) (get (rows_map size rows') q)) (other_roles q u.1)
      ∙ ap (option_map (view_of (w.role q))) (other_rows q u.1)
      ∙ sym (get_after (threads_shown size rows w) t view q ∙ ap (λ (b : Bool). cond b (Some view) (get (threads_shown size rows w) q)) u.0 ∙ get_thread size rows w q)
])

-- a row of a ready thread, which does not wait
pub record IsReadyRow (o : Option ThreadRow) (role : Option Role) : Type 0 where
  pub row : ThreadRow
  pub is : o ≡ Some row
  pub role_is : role ≡ None
  pub active : row.inactive ≡ false

ready_row : (role : Option Role) (row : ThreadRow) → state_with role row.inactive ≡ Ready → IsReadyRow (Some row) role
ready_row (Some (R.Sending e)) row h = cc
ready_row (Some (R.Receiving e)) row h = cc
ready_row None row h = record { row = row; is = refl; role_is = refl; active = ready_active row.inactive h }
  where
    ready_active : (b : Bool) → cond b Inactive Ready ≡ Ready → b ≡ false
    ready_active true h = cc
    ready_active false h = refl

ready_option : (role : Option Role) (o : Option ThreadRow) → IsSomeAnd (option_map (view_of role) o) (λ (thread : ThreadView). thread.state ≡ Ready) → IsReadyRow o role
ready_option role None h = absurd h
ready_option role (Some row) h = ready_row role row h

pub ready_thread : (size : ℕ) (rows : List (Option ThreadRow)) (w : Waits) (t : ℕ) → IsSomeAnd (get (threads_shown size rows w) t) (λ (thread : ThreadView). thread.state ≡ Ready) → IsReadyRow (get (rows_map size rows) t) (w.role t)
ready_thread size rows w t h = ready_option (w.role t) (get (rows_map size rows) t) (subst (λ (o : Option ThreadView). IsSomeAnd o (λ (thread : ThreadView). thread.state ≡ Ready)) (get_thread size rows w t) h)

-- the inbox that is shown is that of the row
inbox_viewed : (role : Option Role) (o : Option ThreadRow) → option_and_then (λ (thread : ThreadView). thread.inbox) (option_map (view_of role) o) ≡ option_and_then (λ (row : ThreadRow). row.inbox) o
inbox_viewed role None = refl
inbox_viewed role (Some row) = refl

pub inbox_shown_is : (size : ℕ) (rows : List (Option ThreadRow)) (w : Waits) (t : ℕ) → option_and_then (λ (thread : ThreadView). thread.inbox) (get (threads_shown size rows w) t) ≡ option_and_then (λ (row : ThreadRow). row.inbox) (get (rows_map size rows) t)
inbox_shown_is size rows w t = ap (option_and_then (λ (thread : ThreadView). thread.inbox)) (get_thread size rows w t) ∙ inbox_viewed (w.role t) (get (rows_map size rows) t)

-- what is shown of a thread's state
state_viewed : (role : Option Role) (o : Option ThreadRow) → option_map (λ (row : ThreadRow). state_with role row.inactive) o ≡ option_map (λ (thread : ThreadView). thread.state) (option_map (view_of role) o)
state_viewed role None = refl
state_viewed role (Some row) = refl

pub state_shown_is : (size : ℕ) (rows : List (Option ThreadRow)) (w : Waits) (t : ℕ) → option_map (λ (row : ThreadRow). state_with (w.role t) row.inactive) (get (rows_map size rows) t) ≡ option_map (λ (thread : ThreadView). thread.state) (get (threads_shown size rows w) t)
state_shown_is size rows w t = state_viewed (w.role t) (get (rows_map size rows) t) ∙ sym (ap (option_map (λ (thread : ThreadView). thread.state)) (get_thread size rows w t))
