-- What holds of a booted kernel's parts.
use Rattle.std.proofs.Common.{◌≡◌, ℕ, ◌+◌, ◌-◌, ◌*◌, ◌/◌, ◌%◌, ◌^◌, ◌≤◌, Option, List, [], length, refl, ◌∙◌, ap, arith}
use Rattle.std.proofs.lemmas.Nat.{pow-add}
use Rattle.std.proofs.lemmas.List.FromFn.{length-map-range_with_len}
use Rattle.cap_core.specs.declared.profile.ProfileName.{ProfileName}
use Rattle.cap_core.specs.declared.profile.ProfileName.TheVariants.{Wide, Narrow}
use Rattle.cap_core.specs.declared.limits.TheConstants.{MIN_MEMORY_BITS, MAX_MEMORY_BITS}
use Rattle.cap_core.specs.Numbers.{tcb_size, tcb_bits, slot_size, slot_bits}
use Rattle.kernel_forest.specs.Forest.{Forest}
use Rattle.kernel_forest.specs.Entries.{Entry}
use Rattle.ipc_core.specs.Waits.{Waits, no_waits}
use Rattle.kernel_core.specs.declared.rows.ThreadRow.{ThreadRow}
use Rattle.kernel_abstract.specs.Plan.{Plan, IsPlan, first_tcb}
use Rattle.kernel_core.specs.Rows.{IsKernel, IsBetweenCalls}
use Rattle.kernel_core.specs.Private.BootRows.{boot_row, boot_rows}
use Rattle.kernel_abstract.specs.Boot.{boot_forest}
use Rattle.kernel_abstract.proofs.Capabilities.PlacementSteps.{pow_fits}
use Rattle.kernel_abstract.proofs.Boot.SoundPlans.{objects_within}
use Rattle.kernel_core.proofs.Booted.BootThreads.{places, live_at_boot}
use Rattle.kernel_abstract.proofs.Boot.BootedStore.{store_at_boot}
use Rattle.kernel_abstract.proofs.Housed.Boot.{housed_at_boot}
use Rattle.kernel_abstract.specs.Private.Stores.{IsKernelStore}

-- the rows of the threads

pub rows_fill : (p : ProfileName) (m : ℕ) → 12 ≤ m → 2 ^ (m - tcb_bits p) * tcb_size p ≡ 2 ^ m
rows_fill Wide m h = let e = pow-add 2 (m - 11) 11 in let f : 2 ^ (m - 11 + 11) ≡ 2 ^ m = ap (λ n. 2 ^ n) (omega arith) in omega arith
rows_fill Narrow m h = let e = pow-add 2 (m - 10) 10 in let f : 2 ^ (m - 10 + 10) ≡ 2 ^ m = ap (λ n. 2 ^ n) (omega arith) in omega arith

fewer : (p : ProfileName) (x y : ℕ) → tcb_size p * x ≤ y * tcb_size p → x ≤ y
fewer Wide x y h = omega arith
fewer Narrow x y h = omega arith

pub threads_fit : (p : ProfileName) (plan : Plan) → IsPlan p plan → first_tcb p plan / tcb_size p + plan.threads ≤ 2 ^ (plan.memory_bits - tcb_bits p)
threads_fit p plan h =
    fewer p (first_tcb p plan / tcb_size p + plan.threads) (2 ^ (plan.memory_bits - tcb_bits p))
    (let a = places p plan plan.threads in let b = rows_fill p plan.memory_bits h.limits.sizes.memory_least in let w = objects_within p plan h in omega arith)

-- each boot thread is at a place of those that a boot makes
pub threads_placed : (p : ProfileName) (plan : Plan) (first bits memory bits' threads : ℕ) → IsPlan p plan → first ≡ first_tcb p plan → bits ≡ tcb_bits p → memory ≡ plan.memory_bits → bits' ≡ tcb_bits p → threads ≡ plan.threads
    → first / 2 ^ bits + threads ≤ 1 * 2 ^ (memory - bits') % 2 ^ 64
threads_placed p plan first bits memory bits' threads h a b d e i =
    rw (a, b, d, e, i, pow_fits (plan.memory_bits - tcb_bits p) (omega (arith, h.limits.sizes.memory_most))) (threads_fit p plan h)

kernel_at_boot : (p : ProfileName) (plan : Plan) → IsPlan p plan
    → IsKernel p plan.memory_bits plan.memory_bits plan.memory_bits (boot_forest p plan) (boot_rows (first_tcb p plan / tcb_size p) plan.threads (2 ^ (plan.memory_bits - tcb_bits p))) no_waits
kernel_at_boot p plan h =
    record {
      store_memory_is = refl;
      waiters_memory_is = refl;
      memory_least = h.limits.sizes.memory_least;
      memory_most = h.limits.sizes.memory_most;
      rows_fill = ap (λ n. n * tcb_size p) (length-map-range_with_len (boot_row (first_tcb p plan / tcb_size p) plan.threads) 0 (2 ^ (plan.memory_bits - tcb_bits p))) ∙ rows_fill p plan.memory_bits h.limits.sizes.memory_least;
      slots_distinct = store.slots_distinct;
      slots_placed = store.slots_placed;
      lawful = store.lawful;
      disjoint = store.disjoint;
      regions = store.regions;
      housed = housed_at_boot p plan h;
      live_rows = live_at_boot p plan (2 ^ (plan.memory_bits - tcb_bits p)) (threads_fit p plan h);
      waiting_active = λ e k d b. absurd (omega arith);
      dead_queue = λ e d. refl;
      rowless_role = λ t d. refl;
    }
  where
    store : IsKernelStore p plan.memory_bits (boot_forest p plan)
    store = store_at_boot p plan h

-- the parts that a boot makes are those of a kernel
pub is_kernel : (p : ProfileName) (plan : Plan) (memory store_memory waiters_memory : ℕ) (f : Forest Entry) (rows : List (Option ThreadRow)) (w : Waits) → IsPlan p plan
    → memory ≡ plan.memory_bits → store_memory ≡ plan.memory_bits → waiters_memory ≡ plan.memory_bits → f ≡ boot_forest p plan
    → rows ≡ boot_rows (first_tcb p plan / tcb_size p) plan.threads (2 ^ (plan.memory_bits - tcb_bits p)) → w ≡ no_waits
    → IsKernel p memory store_memory waiters_memory f rows w
is_kernel p plan memory store_memory waiters_memory f rows w h a b c d e i = rw (a, b, c, d, e, i) (kernel_at_boot p plan h)

-- the rows fill the memory
pub rows_at_boot : (p : ProfileName) (plan : Plan) (memory : ℕ) (rows : List (Option ThreadRow)) → IsPlan p plan → memory ≡ plan.memory_bits
    → rows ≡ boot_rows (first_tcb p plan / tcb_size p) plan.threads (2 ^ (plan.memory_bits - tcb_bits p)) → length rows * tcb_size p ≡ 2 ^ memory
rows_at_boot p plan memory rows h a b = rw (a, b) (kernel_at_boot p plan h).rows_fill

-- a link for each slot of the memory
links_fill : (p : ProfileName) (m : ℕ) → MIN_MEMORY_BITS ≤ m → 2 ^ (m - slot_bits p) * slot_size p ≡ 2 ^ m
links_fill Wide m h = let e = pow-add 2 (m - 5) 5 in let f : 2 ^ (m - 5 + 5) ≡ 2 ^ m = ap (λ n. 2 ^ n) (omega arith) in omega arith
links_fill Narrow m h = let e = pow-add 2 (m - 4) 4 in let f : 2 ^ (m - 4 + 4) ≡ 2 ^ m = ap (λ n. 2 ^ n) (omega arith) in omega arith

pub links_made : (p : ProfileName) (m bits memory : ℕ) → MIN_MEMORY_BITS ≤ memory → memory ≤ MAX_MEMORY_BITS → m ≡ memory → bits ≡ slot_bits p → 1 * 2 ^ (m - bits) % 2 ^ 64 * slot_size p ≡ 2 ^ memory
links_made p m bits memory least most a b =
    ap (λ (n : ℕ). n * slot_size p) (pow_fits (m - bits) (omega (arith, a)))
    ∙ rw (a, b) (links_fill p memory least)

-- a chain with no slot, and with links for the slots of so many bytes
abbrev pub empty_links : ℕ → List ℕ × ℕ
empty_links bytes = ([], bytes)

-- the parts of a copy are those of a kernel
pub copied_kernel : (p : ProfileName) (memory store waiters store' waiters' bits : ℕ) (f f' : Forest Entry) (rows rows' : List (Option ThreadRow)) (w w' : Waits) (chain : List ℕ × ℕ) → IsKernel p memory store waiters f rows w
    → store' ≡ store → waiters' ≡ waiters → f' ≡ f → rows' ≡ rows → w' ≡ w → bits ≡ slot_bits p → chain ≡ empty_links (1 * 2 ^ (memory - bits) % 2 ^ 64 * slot_size p) → IsBetweenCalls p memory store' waiters' f' rows' w' chain
copied_kernel p memory store waiters store' waiters' bits f f' rows rows' w w' chain kernel a b d e i size links = record {
  kernel = rw (a, b, d, e, i) kernel;
  chain_is = links ∙ ap empty_links (links_made p memory bits memory kernel.memory_least kernel.memory_most refl size);
}
