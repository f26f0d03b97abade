use Rattle.std.proofs.Common.{◌≡◌, ◌-◌, ◌^◌, ℕ, List, Option, None, replicate, refl, ap, ◌∙◌, arith}
use Rattle.std.proofs.lemmas.Bool.Decides.{nat_tests}
use Rattle.cap_core.specs.Numbers.{tcb_bits}
use Rattle.kernel_core.specs.declared.rows.ThreadRow.{ThreadRow}
use Rattle.kernel_core.specs.declared.rows.LiveRow.{LiveRow}
use Rattle.kernel_core.specs.SavedRows.{rows_with, rows_saved}
use Rattle.kernel_core.proofs.Booted.BootedParts.{links_made, empty_links}
use Rattle.kernel_core.proofs.Saved.SavedKernels.{places_number, restored_kernel}
use Rattle.kernel_core.proofs.saving.SavedKernel.restore.Goals as goal
use Rattle.kernel_core.proofs.saving.SavedKernel.restore.Goals.{then-threads-memory_bits, else-threads-memory_bits+in_ok-chain}

pub invariant_of-result-2 : goal.invariant_of-result-2
invariant_of-result-2 g c =
    let p = g.P.Profile.profile in
    let memory = c.self.inside.memory_bits in
    let kernel = c.self.invariant in
    let live = c.self.inside.rows.items in
    let none : List (Option ThreadRow) = replicate (2 ^ (memory - tcb_bits p)) None in
    let cleared : c.clear.new.self ≡ none =
    c.in_ok-clear.ensures ∙ ap (λ (n : ℕ). replicate n None) (places_number p memory c.TCB_BITS.result kernel.memory_least kernel.memory_most (c.TCB_BITS.ensures ∙ g.met.P.Profile.tcb_bits_is)) in
    let rows : c.put_live.new.self ≡ rows_saved p memory live =
    c.put_live.ensures ∙ ap (λ (l : List (Option ThreadRow)). rows_with l c.as_slice.result.now) cleared ∙ ap (λ (l : List LiveRow). rows_with none l) c.as_slice.ensures.value in
    let links : c.if-threads-memory_bits.chain2 ≡ empty_links (2 ^ memory) =
    elim c.if-threads-memory_bits.branch [
      | then-threads-memory_bits w ↦ w.chain2-is ∙ c.spare.invariant.chain_is ∙ ap (λ (n : ℕ). empty_links (2 ^ n)) (grind (arith, nat_tests))
      | else-threads-memory_bits+in_ok-chain w ↦ w.chain2-is ∙ w.in_ok-chain.ensures
          ∙ ap empty_links (links_made p memory w.SLOT_BITS.result memory kernel.memory_least kernel.memory_most refl (w.SLOT_BITS.ensures ∙ g.met.P.Profile.slot_bits_is))
    ] in
    restored_kernel p memory (g.S.SaveStore.saved_memory c.self.inside.store) (g.W.SaveWaiters.saved_memory c.self.inside.waiters) _ _
    (g.S.SaveStore.saved_forest c.self.inside.store) _ (rows_saved p memory live) _ (g.W.SaveWaiters.saved_waits c.self.inside.waiters) _ _ kernel
    c.in_ok-store.ensures.memory c.in_ok-waiters.ensures.memory c.in_ok-store.ensures.forest rows c.in_ok-waiters.ensures.waits links
