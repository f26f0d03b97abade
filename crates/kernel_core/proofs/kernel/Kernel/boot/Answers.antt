-- The proof of `boot`: the goals that a search leaves open.
use Rattle.std.proofs.Common.{ℕ, ap, ◌^◌, ◌-◌, ◌≤◌, sym, subst, ◌∙◌}
use Rattle.cap_core.specs.declared.limits.TheConstants.{MIN_MEMORY_BITS, MAX_MEMORY_BITS}
use Rattle.cap_core.specs.Numbers.{tcb_bits}
use Rattle.kernel_abstract.proofs.Boot.BootedStore.{store_at_boot}
use Rattle.kernel_abstract.proofs.Housed.Boot.{housed_at_boot}
use Rattle.kernel_core.proofs.Booted.BootThreads.{shows_boot}
use Rattle.kernel_core.proofs.Booted.BootedParts.{is_kernel, threads_fit, rows_at_boot, empty_links, links_made}
use Rattle.kernel_core.proofs.kernel.Kernel.boot.Goals as goal

pub invariant_of-result : goal.invariant_of-result
invariant_of-result g c =
    record {
      memory = c.in_ok-waiters.ensures.memory ∙ c.memory_bits.ensures ∙ sym c.memory_bits-3.ensures;
      most = subst (λ (n : ℕ). n ≤ MAX_MEMORY_BITS) (sym c.memory_bits-3.ensures) c.requires.limits.sizes.memory_most;
      fill = rows_at_boot g.P.Profile.profile c.args.plan.now c.memory_bits-3.result c.in_ok-rows.rows c.requires c.memory_bits-3.ensures c.in_ok-rows.ensures;
    }

pub invariant_of-result-2 : goal.invariant_of-result-2
invariant_of-result-2 g c =
    record {
      kernel = is_kernel g.P.Profile.profile c.args.plan.now _ _ _ _ _ _ c.requires c.memory_bits-3.ensures
          c.in_ok-store.ensures.memory
          (c.in_ok-waiters.ensures.memory ∙ c.memory_bits.ensures) c.in_ok-store.ensures.forest c.in_ok-rows.ensures c.in_ok-waiters.ensures.nobody;
      chain_is = c.in_ok-chain.ensures ∙ ap empty_links (links_made g.P.Profile.profile c.memory_bits-2.result c.SLOT_BITS.result c.memory_bits-3.result
          (subst (λ (n : ℕ). MIN_MEMORY_BITS ≤ n) (sym c.memory_bits-3.ensures) c.requires.limits.sizes.memory_least)
          (subst (λ (n : ℕ). n ≤ MAX_MEMORY_BITS) (sym c.memory_bits-3.ensures) c.requires.limits.sizes.memory_most)
          (c.memory_bits-2.ensures ∙ sym c.memory_bits-3.ensures) (c.SLOT_BITS.ensures ∙ g.met.P.Profile.slot_bits_is));
    }

pub returns-clause-shows : goal.returns-clause-shows
returns-clause-shows g c =
    rw (c.in_ok-store.ensures.forest, c.in_ok-rows.ensures, c.in_ok-waiters.ensures.nobody)
    (shows_boot g.P.Profile.profile c.args.plan.now (2 ^ (c.args.plan.now.memory_bits - tcb_bits g.P.Profile.profile)) (threads_fit g.P.Profile.profile c.args.plan.now c.requires))

pub returns-clause-within : goal.returns-clause-within
returns-clause-within g c =
    let store = store_at_boot g.P.Profile.profile c.args.plan.now c.requires in
    record { slots_placed = rw c.in_ok-store.ensures.forest store.slots_placed; lawful = rw c.in_ok-store.ensures.forest store.lawful }

pub returns-clause-housed : goal.returns-clause-housed
returns-clause-housed g c = rw c.in_ok-store.ensures.forest (housed_at_boot g.P.Profile.profile c.args.plan.now c.requires)
