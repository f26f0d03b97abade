-- What rows of waiting threads stand for, the first to be served first.
use Rattle.std.specs.Prelude.{◌≢◌, ℕ, Bool, ◌==◌, cond, List, [], ◌∷◌, map, filter, find, Option, None, option_map, All, AllPairs}
use Rattle.cap_core.specs.declared.profile.ProfileName.{ProfileName}
use Rattle.ipc_core.specs.declared.waiter.Waiter.{Waiter}
use Rattle.ipc_core.specs.declared.waiter.Role.{Role}
use Rattle.ipc_core.specs.declared.row.WaitRow.{WaitRow}
use Rattle.ipc_core.specs.Waits.{Waits, IsThreadAddress, thread_of, role_at}

abbrev pub row_thread : WaitRow → ℕ
row_thread row = thread_of row.waiter

abbrev pub row_role : WaitRow → Role
row_role row = role_at row.endpoint row.waiter

abbrev pub is_at : ℕ → WaitRow → Bool
is_at e row = row.endpoint == e

abbrev pub is_of : ℕ → WaitRow → Bool
is_of thread row = row_thread row == thread

-- who waits on an endpoint
abbrev pub waiting_at : List WaitRow → ℕ → List Waiter
waiting_at rows e = map (λ (row : WaitRow). row.waiter) (filter (is_at e) rows)

-- who waits where, by the rows
abbrev pub waits_of : List WaitRow → Waits
waits_of rows = record { queue = waiting_at rows; role = λ t. option_map row_role (find (is_of t) rows) }

-- the thread of the first row behind that of a thread, on the same endpoint
abbrev pub next_by : ℕ → List WaitRow → Option ℕ
next_by thread [] = None
next_by thread (row ∷ rows) =
    cond (is_of thread row) (option_map row_thread (find (is_at row.endpoint) rows)) (next_by thread rows)

-- no thread has two rows
abbrev pub AreDistinct : List WaitRow → Type 0
AreDistinct rows = AllPairs (λ a b. row_thread a ≢ row_thread b) rows

-- each row's thread stands where a thread control block can
abbrev pub ArePlaced : ProfileName → ℕ → List WaitRow → Type 0
ArePlaced p memory rows = All (λ row. IsThreadAddress p memory (row_thread row)) rows
