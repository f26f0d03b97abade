-- The threads of a waiting list, by their places.
use Rattle.std.proofs.Common.{◌≡◌, ℕ, zero, suc, true, List, [], ◌∷◌, Some, option_map, slice_get, ap, subst, inl, inr}
use Rattle.std.proofs.lemmas.Bool.{false≢true, eqb-true}
use Rattle.std.specs.List.{list_any, AllByRecursion as Each}
use Rattle.ipc_core.specs.declared.waiter.Waiter.{Waiter}
use Rattle.ipc_core.specs.Waits.{thread_of}
use Rattle.ipc_core.specs.Cancelled.{is_thread}
use Rattle.kernel_delete.proofs.Members.{either_true}

-- a thread in a list stands at some place of it
pub place_of : (t : ℕ) (l : List Waiter) → list_any (is_thread t) l ≡ true → (place : ℕ) × (option_map thread_of (slice_get l place) ≡ Some t)
place_of t [] there = absurd (false≢true there)
place_of t (x ∷ l) there = elim (either_true (is_thread t x) (list_any (is_thread t) l) there) [
  | inl here ↦ (0, ap Some (eqb-true (thread_of x) t here))
  | inr later ↦ let found = place_of t l later in (suc found.0, found.1)
]

-- what holds of all threads of a list holds of the one at a place
pub at_place : (P : ℕ → Type 0) (l : List Waiter) (place t : ℕ) → Each (λ x. P (thread_of x)) l → option_map thread_of (slice_get l place) ≡ Some t → P t
at_place P [] place t all is = cc
at_place P (x ∷ l) zero t all is = let d : thread_of x ≡ t = cc in subst P d all.0
at_place P (x ∷ l) (suc place) t all is = at_place P l place t all.1 is
