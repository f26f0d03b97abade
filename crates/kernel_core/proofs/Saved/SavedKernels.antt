-- The parts of a kernel that is saved, and of one that is restored.
use Rattle.std.proofs.Common.{◌≡◌, ◌≤◌, ◌-◌, ◌*◌, ◌%◌, ◌^◌, ℕ, List, Option, None, length, replicate, ap, sym, ◌∙◌, arith}
use Rattle.cap_core.specs.declared.profile.ProfileName.{ProfileName}
use Rattle.cap_core.specs.declared.profile.ProfileName.TheVariants.{Wide, Narrow}
use Rattle.cap_core.specs.declared.limits.TheConstants.{MAX_MEMORY_BITS}
use Rattle.cap_core.specs.Numbers.{tcb_bits, tcb_size}
use Rattle.kernel_abstract.proofs.Capabilities.PlacementSteps.{pow_fits}
use Rattle.kernel_forest.specs.Forest.{Forest}
use Rattle.kernel_forest.specs.Entries.{Entry}
use Rattle.ipc_core.specs.Waits.{Waits}
use Rattle.kernel_abstract.specs.Shown.{Shown}
use Rattle.kernel_core.specs.declared.rows.ThreadRow.{ThreadRow}
use Rattle.kernel_core.specs.declared.rows.LiveRow.{LiveRow}
use Rattle.kernel_core.specs.Rows.{kernel_shown, IsKernel, IsBetweenCalls}
use Rattle.kernel_core.specs.SavedRows.{rows_with, rows_saved}
use Rattle.kernel_core.proofs.Booted.BootedParts.{rows_fill, empty_links}

-- how many rows fill a memory
rows_number : (p : ProfileName) (m n : ℕ) → 12 ≤ m → n * tcb_size p ≡ 2 ^ m → n ≡ 2 ^ (m - tcb_bits p)
rows_number Wide m n least fill = let e = rows_fill Wide m least in omega arith
rows_number Narrow m n least fill = let e = rows_fill Narrow m least in omega arith

-- the rows that are saved are all
pub saved_rows : (p : ProfileName) (memory store waiters : ℕ) (f : Forest Entry) (rows : List (Option ThreadRow)) (w : Waits) (live : List LiveRow) → IsKernel p memory store waiters f rows w →
    rows_with (replicate (length rows) None) live ≡ rows → rows_saved p memory live ≡ rows
saved_rows p memory store waiters f rows w live kernel all =
    ap (λ (n : ℕ). rows_with (replicate n None) live) (sym (rows_number p memory (length rows) kernel.memory_least kernel.rows_fill)) ∙ all

pub saved_kernel : (p : ProfileName) (memory store waiters store' waiters' : ℕ) (f f' : Forest Entry) (rows rows' : List (Option ThreadRow)) (w w' : Waits) → IsKernel p memory store waiters f rows w
    → store' ≡ store → waiters' ≡ waiters → f' ≡ f → rows' ≡ rows → w' ≡ w → IsKernel p memory store' waiters' f' rows' w'
saved_kernel p memory store waiters store' waiters' f f' rows rows' w w' kernel a b d e i = rw (a, b, d, e, i) kernel

pub saved_shown : (p : ProfileName) (f f' : Forest Entry) (rows rows' : List (Option ThreadRow)) (w w' : Waits) (v : Shown) → kernel_shown p f rows w ≡ v → f' ≡ f → rows' ≡ rows → w' ≡ w → kernel_shown p f' rows' w' ≡ v
saved_shown p f f' rows rows' w w' v shows d e i = rw (d, e, i) shows

pub restored_kernel : (p : ProfileName) (memory store waiters store' waiters' : ℕ) (f f' : Forest Entry) (rows rows' : List (Option ThreadRow)) (w w' : Waits) (chain : List ℕ × ℕ) → IsKernel p memory store waiters f rows w
    → store' ≡ store → waiters' ≡ waiters → f' ≡ f → rows' ≡ rows → w' ≡ w → chain ≡ empty_links (2 ^ memory) → IsBetweenCalls p memory store' waiters' f' rows' w' chain
restored_kernel p memory store waiters store' waiters' f f' rows rows' w w' chain kernel a b d e i links = record { kernel = rw (a, b, d, e, i) kernel; chain_is = links }

-- how many places of rows a memory has
pub places_number : (p : ProfileName) (memory bits : ℕ) → 12 ≤ memory → memory ≤ MAX_MEMORY_BITS → bits ≡ tcb_bits p → 1 * 2 ^ (memory - bits) % 2 ^ 64 ≡ 2 ^ (memory - tcb_bits p)
places_number p memory bits least most is = pow_fits (memory - bits) (omega (arith, least, most)) ∙ ap (λ (n : ℕ). 2 ^ (memory - n)) is
