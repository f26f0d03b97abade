-- A kernel whose capabilities change, and none of its rows and waiting threads.
use Rattle.std.proofs.Common.{◌≡◌, ℕ, ◌==◌, List, Option, sym, subst, ◌∙◌}
use Rattle.std.specs.List.{list_any}
use Rattle.cap_core.specs.declared.profile.ProfileName.{ProfileName}
use Rattle.cap_core.specs.Numbers.{tcb_size}
use Rattle.kernel_forest.specs.Forest.{Forest}
use Rattle.kernel_forest.specs.Entries.{Entry}
use Rattle.ipc_core.specs.Waits.{Waits}
use Rattle.kernel_delete.specs.Housed.{IsHoused}
use Rattle.kernel_core.specs.declared.rows.ThreadRow.{ThreadRow}
use Rattle.kernel_abstract.specs.declared.invocation.CapPlacement.{CapPlacement}
use Rattle.kernel_abstract.specs.Shown.{Shown, threads_of, endpoints_of, table, tcb_base, endpoint_base}
use Rattle.kernel_core.specs.Rows.{IsKernel, kernel_shown, threads_shown}
use Rattle.kernel_abstract.specs.Private.Stores.{IsKernelStore}
use Rattle.kernel_abstract.specs.Private.Invocations.{IsDerivation, IsMove}
use Rattle.kernel_abstract.specs.CNodes.{with_derived, with_moved}
use Rattle.kernel_abstract.specs.Private.Effects.{rearranged}
use Rattle.kernel_core.proofs.Messages.KernelParts.{waiting_is}
use Rattle.kernel_abstract.proofs.Capabilities.LiveAfter.{tcb_is_base, endpoint_is_base, live-derived, live-moved}
use Rattle.kernel_abstract.proofs.Capabilities.StoresKept.{store-derived, store-moved}
use Rattle.kernel_abstract.proofs.Housed.Edits.{housed-with_derived, housed-with_moved}

module _ (p : ProfileName) (memory store waiters : ℕ) (f : Forest Entry) (rows : List (Option ThreadRow)) (w : Waits) (kernel : IsKernel p memory store waiters f rows w) where
  in_memory : IsKernelStore p memory f
  in_memory = record {
    memory_most = kernel.memory_most;
    slots_distinct = kernel.slots_distinct;
    slots_placed = kernel.slots_placed;
    lawful = kernel.lawful;
    disjoint = kernel.disjoint;
    regions = kernel.regions;
  }

  -- its store by itself
  pub kernel_store : IsKernelStore p store f
  kernel_store = subst (λ (n : ℕ). IsKernelStore p n f) (sym kernel.store_memory_is) in_memory

  -- where the same threads and endpoints are live
  rearranged_kernel : (store' : ℕ) (g : Forest Entry) → store' ≡ store → IsKernelStore p memory g → IsHoused p g
      → ((t : ℕ) → list_any (λ k. t == k) (threads_of g) ≡ list_any (λ k. t == k) (threads_of f))
      → ((e : ℕ) → list_any (λ k. e == k) (endpoints_of g) ≡ list_any (λ k. e == k) (endpoints_of f)) → IsKernel p memory store' waiters g rows w
  rearranged_kernel store' g same kept housed threads endpoints = record {
    store_memory_is = same ∙ kernel.store_memory_is;
    waiters_memory_is = kernel.waiters_memory_is;
    memory_least = kernel.memory_least;
    memory_most = kernel.memory_most;
    rows_fill = kernel.rows_fill;
    slots_distinct = kept.slots_distinct;
    slots_placed = kept.slots_placed;
    lawful = kept.lawful;
    disjoint = kept.disjoint;
    regions = kept.regions;
    housed = housed;
    live_rows = λ t. kernel.live_rows t ∙ sym (threads t);
    waiting_active = kernel.waiting_active;
    dead_queue = λ e dead. kernel.dead_queue e (sym (endpoints e) ∙ dead);
    rowless_role = kernel.rowless_role;
  }

  -- what is shown has each waiting list as it was
  rearranged_shown : (g : Forest Entry) → kernel_shown p g rows w ≡ rearranged (kernel_shown p f rows w) g
  rearranged_shown g = λ i. record {
    derivations = g;
    threads = threads_shown (tcb_size p) rows w;
    endpoints = table (endpoints_of g) (λ e. sym (waiting_is p memory store waiters f rows w kernel e) i);
  }

  pub derived_kernel : (placement : CapPlacement) (v : Shown) → kernel_shown p f rows w ≡ v → IsDerivation p v.derivations placement → (store' : ℕ) (g : Forest Entry) → store' ≡ store
      → g ≡ with_derived p placement f → IsKernel p memory store' waiters g rows w
  derived_kernel placement v view invocation store' g same is =
      subst (λ (h : Forest Entry). IsKernel p memory store' waiters h rows w) (sym is)
      (rearranged_kernel store' (with_derived p placement f) same (store-derived p memory f in_memory placement here)
      (housed-with_derived p f placement here.ends kernel.housed)
      (live-derived tcb_base tcb_is_base p placement f here.ends.full here.ends.same)
      (live-derived endpoint_base endpoint_is_base p placement f here.ends.full here.ends.same))
    where
      here : IsDerivation p f placement
      here = subst (λ (u : Shown). IsDerivation p u.derivations placement) (sym view) invocation

  pub derived_shown : (placement : CapPlacement) (v : Shown) → kernel_shown p f rows w ≡ v → (g : Forest Entry) → g ≡ with_derived p placement f
      → kernel_shown p g rows w ≡ rearranged v (with_derived p placement v.derivations)
  derived_shown placement v view g is =
      subst (λ (u : Shown). kernel_shown p g rows w ≡ rearranged u (with_derived p placement u.derivations)) view
      (subst (λ (h : Forest Entry). kernel_shown p h rows w ≡ rearranged (kernel_shown p f rows w) (with_derived p placement f)) (sym is) (rearranged_shown (with_derived p placement f)))

  pub moved_kernel : (placement : CapPlacement) (v : Shown) → kernel_shown p f rows w ≡ v → IsMove p v.derivations placement → (store' : ℕ) (g : Forest Entry) → store' ≡ store
      → g ≡ with_moved placement f → IsKernel p memory store' waiters g rows w
  moved_kernel placement v view invocation store' g same is =
      subst (λ (h : Forest Entry). IsKernel p memory store' waiters h rows w) (sym is)
      (rearranged_kernel store' (with_moved placement f) same (store-moved p memory f in_memory placement here)
      (housed-with_moved p f placement kernel.slots_distinct here.ends kernel.housed)
      (live-moved tcb_base tcb_is_base placement f kernel.slots_distinct here.ends.same)
      (live-moved endpoint_base endpoint_is_base placement f kernel.slots_distinct here.ends.same))
    where
      here : IsMove p f placement
      here = subst (λ (u : Shown). IsMove p u.derivations placement) (sym view) invocation

  pub moved_shown : (placement : CapPlacement) (v : Shown) → kernel_shown p f rows w ≡ v → (g : Forest Entry) → g ≡ with_moved placement f
      → kernel_shown p g rows w ≡ rearranged v (with_moved placement v.derivations)
  moved_shown placement v view g is =
      subst (λ (u : Shown). kernel_shown p g rows w ≡ rearranged u (with_moved placement u.derivations)) view
      (subst (λ (h : Forest Entry). kernel_shown p h rows w ≡ rearranged (kernel_shown p f rows w) (with_moved placement f)) (sym is) (rearranged_shown (with_moved placement f)))
