-- What the rows of a kernel stand for.
use Rattle.std.specs.Prelude.{◌≡◌, ℕ, ◌+◌, ◌*◌, ◌^◌, ◌≤◌, ◌==◌, Bool, cond, List, [], ◌∷◌, map, length, Option, None, Some, IsSomeAnd, is_some, All, false}
use Rattle.std.specs.List.{list_any, IsDistinct}
use Rattle.std.specs.Ordering.{nat_cmp}
use Rattle.std.specs.FinMap.{FinMap, from_entries, get}
use Rattle.cap_core.specs.Limits.{min_memory_bits, max_memory_bits}
use Rattle.cap_core.specs.declared.profile.ProfileName.{ProfileName}
use Rattle.cap_core.specs.Numbers.{tcb_size}
use Rattle.cap_core.specs.Objects.{IsLawful}
use Rattle.kernel_forest.specs.Forest.{Forest}
use Rattle.kernel_forest.specs.Entries.{Entry, slots, caps}
use Rattle.kernel_forest.specs.Disjoint.{IsDisjoint}
use Rattle.kernel_delete.specs.Housed.{IsHoused}
use Rattle.ipc_core.specs.declared.waiter.Waiter.{Waiter}
use Rattle.ipc_core.specs.declared.waiter.Role.{Role}
use Rattle.ipc_core.specs.Waits.{Waits, thread_of}
use Rattle.kernel_abstract.specs.declared.call.ThreadState.{ThreadState}
use Rattle.kernel_abstract.specs.declared.call.ThreadState.TheVariants.{Ready, Inactive, Sending, Receiving}
use Rattle.kernel_core.specs.declared.rows.ThreadRow.{ThreadRow}
use Rattle.kernel_abstract.specs.Shown.{Shown, ThreadView, endpoints_of, threads_of, table}
use Rattle.kernel_abstract.specs.Regions.{AreRegions}
use Rattle.kernel_abstract.specs.Memory.{IsSlotAddress}

-- row k, from i on, is at the address size * k
abbrev pub keyed : {X : Type 0} → ℕ → ℕ → List (Option X) → List (ℕ × X)
keyed size i [] = []
keyed size i (None ∷ rows) = keyed size (i + 1) rows
keyed size i (Some x ∷ rows) = (size * i, x) ∷ keyed size (i + 1) rows

abbrev pub rows_map : {X : Type 0} → ℕ → List (Option X) → FinMap nat_cmp X
rows_map size rows = from_entries (keyed size 0 rows)

-- a thread that waits is Sending or Receiving; else it is what its row says
abbrev pub state_with : Option Role → Bool → ThreadState
state_with (Some (Role.Sending e)) inactive = Sending e
state_with (Some (Role.Receiving e)) inactive = Receiving e
state_with None inactive = cond inactive Inactive Ready

-- what is shown of a thread with this role and this row
abbrev pub view_of : Option Role → ThreadRow → ThreadView
view_of role row = record { state = state_with role row.inactive; inbox = row.inbox }

-- the threads that have rows
abbrev pub threads_shown : ℕ → List (Option ThreadRow) → Waits → FinMap nat_cmp ThreadView
threads_shown size rows w =
    from_entries (map (λ (e : ℕ × ThreadRow). (e.0, view_of (w.role e.0) e.1)) (keyed size 0 rows))

-- what a kernel shows whose store has these derivations, with these rows of threads and these waiting threads
abbrev pub kernel_shown : ProfileName → Forest Entry → List (Option ThreadRow) → Waits → Shown
kernel_shown p f rows w =
    record {
      derivations = f;
      threads = threads_shown (tcb_size p) rows w;
      endpoints = table (endpoints_of f) w.queue;
    }

-- the thread at an address has a row, which says that it is not inactive
abbrev pub IsActive : ℕ → List (Option ThreadRow) → ℕ → Type 0
IsActive size rows t = IsSomeAnd (get (rows_map size rows) t) (λ (row : ThreadRow). row.inactive ≡ false)

-- what holds of every kernel's parts: one memory, in which the slots stand apart, in live objects, and name lawful, disjoint
-- objects, those below a capability in its region; a place for the row of each thread control block, and a row for each live
-- thread; each waiting thread has a row and is active; and nobody waits on an endpoint that is not live, nor in a thread that
-- has no row
pub record IsKernel (p : ProfileName) (memory store_memory waiters_memory : ℕ) (f : Forest Entry) (rows : List (Option ThreadRow)) (w : Waits) : Type 0 where
  pub store_memory_is : store_memory ≡ memory
  pub waiters_memory_is : waiters_memory ≡ memory
  pub memory_least : min_memory_bits ≤ memory
  pub memory_most : memory ≤ max_memory_bits
  pub rows_fill : length rows * tcb_size p ≡ 2 ^ memory
  pub slots_distinct : IsDistinct (λ (a b : ℕ). a == b) (slots f)
  pub slots_placed : All (IsSlotAddress p memory) (slots f)
  pub lawful : All (IsLawful p memory) (caps f)
  pub disjoint : IsDisjoint p f
  pub regions : AreRegions p f
  pub housed : IsHoused p f
  pub live_rows : (t : ℕ) → is_some (get (rows_map (tcb_size p) rows) t) ≡ list_any (λ k. t == k) (threads_of f)
  pub waiting_active : (e : ℕ) → All (λ (x : Waiter). IsActive (tcb_size p) rows (thread_of x)) (w.queue e)
  pub dead_queue : (e : ℕ) → list_any (λ k. e == k) (endpoints_of f) ≡ false → w.queue e ≡ []
  pub rowless_role : (t : ℕ) → get (rows_map (tcb_size p) rows) t ≡ None → w.role t ≡ None

-- what holds of a kernel's parts between its calls: also that no slot is in the chain, which has a link for each slot of the memory
pub record IsBetweenCalls (p : ProfileName) (memory store_memory waiters_memory : ℕ) (f : Forest Entry)
    (rows : List (Option ThreadRow)) (w : Waits) (chain : List ℕ × ℕ) : Type 0 where
  pub kernel : IsKernel p memory store_memory waiters_memory f rows w
  pub chain_is : chain ≡ ([], 2 ^ memory)
