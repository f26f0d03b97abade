-- A kernel after a delete, after a revoke and after the setting of a thread's space.
use Rattle.std.proofs.Common.{◌≡◌, ℕ, ◌*◌, ◌^◌, true, ◌==◌, List, [], length, Option, All, refl, sym, ap, subst, ◌∙◌}
use Rattle.std.specs.List.{list_any, filter_map}
use Rattle.cap_core.specs.declared.profile.ProfileName.{ProfileName}
use Rattle.cap_core.specs.declared.capability.Cap.{Cap}
use Rattle.cap_core.specs.Numbers.{tcb_size}
use Rattle.kernel_forest.specs.Forest.{Forest, preorder}
use Rattle.kernel_forest.specs.Entries.{Entry, slots, caps, is_at, is_full}
use Rattle.ipc_core.specs.Waits.{Waits}
use Rattle.ipc_core.specs.Agreement.{AreRolesAndQueues}
use Rattle.kernel_delete.specs.Clear.{clear, ended}
use Rattle.kernel_delete.specs.Revoke.{revoke}
use Rattle.kernel_delete.specs.Work.{IsClearable}
use Rattle.kernel_delete.proofs.Clearable.{clearable_from, each_mapped}
use Rattle.kernel_delete.proofs.Members.{any_of, each_in}
use Rattle.kernel_delete.proofs.Kept.{housed-clear, housed-revoke}
use Rattle.std.proofs.lemmas.Bool.{eqb-true}
use Rattle.kernel_abstract.specs.declared.invocation.NewSpace.{NewSpace}
use Rattle.kernel_abstract.specs.Shown.{Shown, tcb_base, endpoint_base}
use Rattle.kernel_abstract.specs.Memory.{IsSlotAddress}
use Rattle.kernel_abstract.specs.Threads.{with_space}
use Rattle.kernel_abstract.specs.Private.Endings.{after_ending}
use Rattle.kernel_abstract.specs.Private.Invocations.{IsSpace, IsDerivation}
use Rattle.kernel_abstract.specs.Private.Stores.{IsKernelStore}
use Rattle.kernel_abstract.proofs.Housed.Edits.{housed-with_space}
use Rattle.kernel_abstract.proofs.Capabilities.LiveAfter.{IsBase, tcb_is_base, endpoint_is_base, live-derived}
use Rattle.kernel_abstract.proofs.Capabilities.StoresCleared.{store-clear, store-revoke, live-clear, live-revoke}
use Rattle.kernel_abstract.proofs.Capabilities.SpacesSet.{space_derives, space_kept, space_put, store-space}
use Rattle.kernel_core.specs.declared.rows.ThreadRow.{ThreadRow}
use Rattle.kernel_core.specs.Rows.{kernel_shown, IsKernel, IsBetweenCalls}
use Rattle.kernel_core.specs.Private.Ended.{HaveEnded}
use Rattle.kernel_core.specs.Private.Spaces.{space_placement}
use Rattle.kernel_core.proofs.Endings.EndedKernel.{memory_kept, cleared_kernel, cleared_shown}

-- what clearing needs of a kernel's store, and of its chain
pub clearable : (p : ProfileName) (memory : ℕ) (f : Forest Entry) (chain : List ℕ × ℕ) → IsKernelStore p memory f → chain ≡ ([], 2 ^ memory) → IsClearable p chain.1 (preorder f)
clearable p memory f chain store is =
    subst (λ (n : ℕ). IsClearable p n (preorder f)) (sym (ap (λ (c : List ℕ × ℕ). c.1) is))
    (clearable_from p memory f store.slots_distinct (λ i d lt. (store.slots_placed i d lt).within) store.lawful store.disjoint)

-- a full slot stands where one can
pub full_placed : (p : ProfileName) (memory n : ℕ) (f : Forest Entry) → All (IsSlotAddress p memory) (slots f) → is_full n f ≡ true → IsSlotAddress p memory n
full_placed p memory n f placed full =
    let e = any_of (is_at n) (preorder f) full in
    subst (IsSlotAddress p memory) (eqb-true e.0.slot n e.1.1)
    (each_in (λ (x : Entry). IsSlotAddress p memory x.slot) (preorder f) e.0 (each_mapped (IsSlotAddress p memory) (λ (x : Entry). x.slot) (preorder f) placed) e.1.0)

-- a chain with no slot, and with a link for each slot of a memory
abbrev pub empty_chain : ℕ → List ℕ × ℕ
empty_chain memory = ([], 2 ^ memory)

-- the chain is as it was
pub between : (p : ProfileName) (memory memory' store waiters : ℕ) (f : Forest Entry) (rows : List (Option ThreadRow)) (w : Waits) (chain chain' : List ℕ × ℕ) →
    IsKernel p memory' store waiters f rows w → memory' ≡ memory → chain' ≡ chain → chain ≡ ([], 2 ^ memory) → IsBetweenCalls p memory' store waiters f rows w chain'
between p memory memory' store waiters f rows w chain chain' kernel same kept is = record {
  kernel = kernel;
  chain_is = kept ∙ is ∙ ap empty_chain (sym same);
}

module _ (p : ProfileName) (memory store waiters : ℕ) (f : Forest Entry) (rows : List (Option ThreadRow)) (w : Waits) (kernel : IsKernel p memory store waiters f rows w) (agree : AreRolesAndQueues w)
    (v : Shown) (view : kernel_shown p f rows w ≡ v) where
  own_store : IsKernelStore p memory f
  own_store = record {
    memory_most = kernel.memory_most;
    slots_distinct = kernel.slots_distinct;
    slots_placed = kernel.slots_placed;
    lawful = kernel.lawful;
    disjoint = kernel.disjoint;
    regions = kernel.regions;
  }

  module _ (slot : ℕ) (f' : Forest Entry) (memory' : ℕ) (rows' : List (Option ThreadRow)) (w' : Waits) where
    pub deleted_kernel : f' ≡ clear p slot f → HaveEnded p (ended f (clear p slot f)) memory memory' rows rows' w w' → (store' waiters' : ℕ) → store' ≡ store → waiters' ≡ memory' → length rows' * tcb_size p ≡ 2 ^ memory' →
        (chain chain' : List ℕ × ℕ) → chain' ≡ chain → chain ≡ ([], 2 ^ memory) → IsBetweenCalls p memory' store' waiters' f' rows' w' chain'
    deleted_kernel is after store' waiters' same same' fill chain chain' kept chain_is =
        between p memory memory' store' waiters' f' rows' w' chain chain'
        (cleared_kernel p memory store waiters f rows w kernel agree (clear p slot f) (clear p slot f) f' memory' rows' w' after (λ t. live-clear tcb_base t p slot f) (λ e. live-clear endpoint_base e p slot f) (λ t. refl) (λ e. refl) is
        store' waiters' same same' fill (store-clear p memory slot f own_store) (housed-clear p slot f kernel.housed))
        (memory_kept p memory store waiters f rows w kernel agree (clear p slot f) (clear p slot f) f' memory' rows' w' after (λ t. live-clear tcb_base t p slot f) (λ e. live-clear endpoint_base e p slot f) (λ t. refl) (λ e. refl) is)
        kept chain_is

    pub deleted_shown : f' ≡ clear p slot f → HaveEnded p (ended f (clear p slot f)) memory memory' rows rows' w w' → kernel_shown p f' rows' w' ≡ after_ending v (clear p slot v.derivations)
    deleted_shown is after =
        subst (λ (u : Shown). kernel_shown p f' rows' w' ≡ after_ending u (clear p slot u.derivations)) view
        (cleared_shown p memory store waiters f rows w kernel agree (clear p slot f) (clear p slot f) f' memory' rows' w' after (λ t. live-clear tcb_base t p slot f) (λ e. live-clear endpoint_base e p slot f) (λ t. refl) (λ e. refl) is)

    pub revoked_kernel : f' ≡ revoke p slot f → HaveEnded p (ended f (revoke p slot f)) memory memory' rows rows' w w' → (store' waiters' : ℕ) → store' ≡ store → waiters' ≡ memory' → length rows' * tcb_size p ≡ 2 ^ memory' →
        (chain chain' : List ℕ × ℕ) → chain' ≡ chain → chain ≡ ([], 2 ^ memory) → IsBetweenCalls p memory' store' waiters' f' rows' w' chain'
    revoked_kernel is after store' waiters' same same' fill chain chain' kept chain_is =
        between p memory memory' store' waiters' f' rows' w' chain chain'
        (cleared_kernel p memory store waiters f rows w kernel agree (revoke p slot f) (revoke p slot f) f' memory' rows' w' after (λ t. live-revoke tcb_base t p slot f) (λ e. live-revoke endpoint_base e p slot f) (λ t. refl) (λ e. refl) is
        store' waiters' same same' fill (store-revoke p memory slot f own_store) (housed-revoke p slot f kernel.housed))
        (memory_kept p memory store waiters f rows w kernel agree (revoke p slot f) (revoke p slot f) f' memory' rows' w' after (λ t. live-revoke tcb_base t p slot f) (λ e. live-revoke endpoint_base e p slot f) (λ t. refl) (λ e. refl) is)
        kept chain_is

    pub revoked_shown : f' ≡ revoke p slot f → HaveEnded p (ended f (revoke p slot f)) memory memory' rows rows' w w' → kernel_shown p f' rows' w' ≡ after_ending v (revoke p slot v.derivations)
    revoked_shown is after =
        subst (λ (u : Shown). kernel_shown p f' rows' w' ≡ after_ending u (revoke p slot u.derivations)) view
        (cleared_shown p memory store waiters f rows w kernel agree (revoke p slot f) (revoke p slot f) f' memory' rows' w' after (λ t. live-revoke tcb_base t p slot f) (λ e. live-revoke endpoint_base e p slot f) (λ t. refl) (λ e. refl) is)

  module _ (new : NewSpace) (invocation : IsSpace p v.derivations new) where
    space : IsSpace p f new
    space = subst (λ (u : Shown). IsSpace p u.derivations new) (sym view) invocation

    -- the root slot, the source and the invoked slot stand where slots can
    pub root_placed : IsSlotAddress p store new.tcb
    root_placed = subst (λ (m : ℕ). IsSlotAddress p m new.tcb) (sym kernel.store_memory_is) (space.root memory kernel.lawful)

    pub source_placed : (store' : ℕ) → store' ≡ store → IsSlotAddress p store' new.source
    source_placed store' same = subst (λ (m : ℕ). IsSlotAddress p m new.source) (sym (same ∙ kernel.store_memory_is)) (full_placed p memory new.source f kernel.slots_placed space.full)

    pub invoked_placed : (store' : ℕ) → store' ≡ store → IsSlotAddress p store' new.invoked
    invoked_placed store' same = subst (λ (m : ℕ). IsSlotAddress p m new.invoked) (sym (same ∙ kernel.store_memory_is)) (full_placed p memory new.invoked f kernel.slots_placed space.invoked)

    pub store_between : (store' : ℕ) (f' : Forest Entry) → store' ≡ store → f' ≡ clear p new.tcb f → IsKernelStore p store' f'
    store_between store' f' same is =
        subst (λ (m : ℕ). IsKernelStore p m f') (sym (same ∙ kernel.store_memory_is))
        (subst (IsKernelStore p memory) (sym is) (store-clear p memory new.tcb f own_store))

    pub root_derives : (f' : Forest Entry) → f' ≡ clear p new.tcb f → is_full new.source f' ≡ true → is_full new.invoked f' ≡ true → IsDerivation p f' (space_placement new)
    root_derives f' is = subst (λ (x : Forest Entry). is_full new.source x ≡ true → is_full new.invoked x ≡ true → IsDerivation p x (space_placement new)) (sym is) (space_derives p f kernel.slots_distinct new space)

    same_live : (base_of : Cap → Option ℕ) → IsBase base_of → (q : ℕ) → list_any (λ k. q == k) (filter_map base_of (caps (with_space p new f))) ≡ list_any (λ k. q == k) (filter_map base_of (caps (clear p new.tcb f)))
    same_live base_of base q =
        let IsSame : Forest Entry → Type 0 = λ h. list_any (λ k. q == k) (filter_map base_of (caps h)) ≡ list_any (λ k. q == k) (filter_map base_of (caps (clear p new.tcb f))) in
        space_kept p f kernel.slots_distinct new space IsSame refl
        (λ d. subst IsSame (space_put p f kernel.slots_distinct new space (clear p new.tcb f)) (live-derived base_of base p (space_placement new) (clear p new.tcb f) d.ends.full d.ends.same q))

    module _ (f' : Forest Entry) (memory' : ℕ) (rows' : List (Option ThreadRow)) (w' : Waits) (is : f' ≡ with_space p new f) (after : HaveEnded p (ended f (clear p new.tcb f)) memory memory' rows rows' w w') where
      pub space_kernel : (store' waiters' : ℕ) → store' ≡ store → waiters' ≡ memory' → length rows' * tcb_size p ≡ 2 ^ memory' →
          (chain chain' : List ℕ × ℕ) → chain' ≡ chain → chain ≡ ([], 2 ^ memory) → IsBetweenCalls p memory' store' waiters' f' rows' w' chain'
      space_kernel store' waiters' same same' fill chain chain' kept chain_is =
          between p memory memory' store' waiters' f' rows' w' chain chain'
          (cleared_kernel p memory store waiters f rows w kernel agree (clear p new.tcb f) (with_space p new f) f' memory' rows' w' after (λ t. live-clear tcb_base t p new.tcb f) (λ e. live-clear endpoint_base e p new.tcb f)
          (same_live tcb_base tcb_is_base) (same_live endpoint_base endpoint_is_base) is store' waiters' same same' fill (store-space p memory f new space own_store)
          (housed-with_space p f new kernel.slots_distinct space kernel.housed))
          (memory_kept p memory store waiters f rows w kernel agree (clear p new.tcb f) (with_space p new f) f' memory' rows' w' after (λ t. live-clear tcb_base t p new.tcb f) (λ e. live-clear endpoint_base e p new.tcb f)
          (same_live tcb_base tcb_is_base) (same_live endpoint_base endpoint_is_base) is)
          kept chain_is

      pub space_shown : kernel_shown p f' rows' w' ≡ after_ending v (with_space p new v.derivations)
      space_shown =
          subst (λ (u : Shown). kernel_shown p f' rows' w' ≡ after_ending u (with_space p new u.derivations)) view
          (cleared_shown p memory store waiters f rows w kernel agree (clear p new.tcb f) (with_space p new f) f' memory' rows' w' after (λ t. live-clear tcb_base t p new.tcb f) (λ e. live-clear endpoint_base e p new.tcb f)
          (same_live tcb_base tcb_is_base) (same_live endpoint_base endpoint_is_base) is)
