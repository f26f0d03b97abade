-- The proof of `retype`: the goals that a search leaves open.
use Rattle.std.proofs.Common.{ℕ, List, refl, sym, ap, ◌∙◌}
use Rattle.cap_core.specs.Numbers.{tcb_size}
use Rattle.kernel_core.specs.Rows.{rows_map}
use Rattle.kernel_core.specs.Private.NewRows.{with_rows}
use Rattle.kernel_core.proofs.Capabilities.RetypedKernel.{new_tcbs, no_new_rows, thread_aligned, thread_within, thread_word, retyped_kernel, retyped_shown}
use Rattle.kernel_core.proofs.kernel.Kernel.retype.Goals as goal

pub add_threads-requires-clause-aligned : goal.add_threads-requires-clause-aligned
add_threads-requires-clause-aligned g c = thread_aligned g.P.Profile.profile c.self.inside.threads.memory_bits (g.S.CapStore.memory_bits c.self.inside.store) (g.W.Waiters.memory_bits c.self.inside.threads.waiters) (g.S.CapStore.forest c.self.inside.store) c.self.inside.threads.rows (g.W.Waiters.waits c.self.inside.threads.waiters) c.self.invariant.kernel c.args.self.now c.self.view_is c.args.new c.requires c.in-Tcb.is

pub add_threads-requires-clause-within : goal.add_threads-requires-clause-within
add_threads-requires-clause-within g c = thread_within g.P.Profile.profile c.self.inside.threads.memory_bits (g.S.CapStore.memory_bits c.self.inside.store) (g.W.Waiters.memory_bits c.self.inside.threads.waiters) (g.S.CapStore.forest c.self.inside.store) c.self.inside.threads.rows (g.W.Waiters.waits c.self.inside.threads.waiters) c.self.invariant.kernel c.args.self.now c.self.view_is c.args.new c.requires

pub add_threads-requires-clause-addressed : goal.add_threads-requires-clause-addressed
add_threads-requires-clause-addressed g c = thread_word g.P.Profile.profile c.self.inside.threads.memory_bits (g.S.CapStore.memory_bits c.self.inside.store) (g.W.Waiters.memory_bits c.self.inside.threads.waiters) (g.S.CapStore.forest c.self.inside.store) c.self.inside.threads.rows (g.W.Waiters.waits c.self.inside.threads.waiters) c.self.invariant.kernel c.args.self.now c.self.view_is c.args.new c.requires

pub invariant_of-self : goal.invariant_of-self
invariant_of-self g c =
    record {
      kernel = retyped_kernel g.P.Profile.profile c.self.inside.threads.memory_bits (g.S.CapStore.memory_bits c.self.inside.store) (g.W.Waiters.memory_bits c.self.inside.threads.waiters) (g.S.CapStore.forest c.self.inside.store) c.self.inside.threads.rows (g.W.Waiters.waits c.self.inside.threads.waiters) c.self.invariant.kernel c.args.self.now c.self.view_is c.args.new c.requires c.add_threads.new.rows (c.add_threads.ensures.map ∙ ap (λ (l : List ℕ). with_rows l (rows_map (tcb_size g.P.Profile.profile) c.self.inside.threads.rows)) (sym (new_tcbs g.P.Profile.profile c.args.new c.in-Tcb.is)))
          (g.S.CapStore.memory_bits c.make_objects.new.store) (g.S.CapStore.forest c.make_objects.new.store) c.make_objects.ensures.memory c.make_objects.ensures.forest c.add_threads.ensures.length;
      chain_is = c.self.invariant.chain_is;
    }

pub invariant_of-self-in-Untyped : goal.invariant_of-self-in-Untyped
invariant_of-self-in-Untyped g c =
    record {
      kernel = retyped_kernel g.P.Profile.profile c.self.inside.threads.memory_bits (g.S.CapStore.memory_bits c.self.inside.store) (g.W.Waiters.memory_bits c.self.inside.threads.waiters) (g.S.CapStore.forest c.self.inside.store) c.self.inside.threads.rows (g.W.Waiters.waits c.self.inside.threads.waiters) c.self.invariant.kernel c.args.self.now c.self.view_is c.args.new c.requires c.self.inside.threads.rows (no_new_rows g.P.Profile.profile c.args.new c.in-Untyped.is (rows_map (tcb_size g.P.Profile.profile) c.self.inside.threads.rows))
          (g.S.CapStore.memory_bits c.make_objects.new.store) (g.S.CapStore.forest c.make_objects.new.store) c.make_objects.ensures.memory c.make_objects.ensures.forest refl;
      chain_is = c.self.invariant.chain_is;
    }

pub returns-in-Tcb-clause-after : goal.returns-in-Tcb-clause-after
returns-in-Tcb-clause-after g c =
    retyped_shown g.P.Profile.profile c.self.inside.threads.memory_bits (g.S.CapStore.memory_bits c.self.inside.store) (g.W.Waiters.memory_bits c.self.inside.threads.waiters) (g.S.CapStore.forest c.self.inside.store) c.self.inside.threads.rows (g.W.Waiters.waits c.self.inside.threads.waiters) c.self.invariant.kernel c.args.self.now c.self.view_is c.args.new c.requires c.add_threads.new.rows (c.add_threads.ensures.map ∙ ap (λ (l : List ℕ). with_rows l (rows_map (tcb_size g.P.Profile.profile) c.self.inside.threads.rows)) (sym (new_tcbs g.P.Profile.profile c.args.new c.in-Tcb.is)))
    (g.S.CapStore.forest c.make_objects.new.store) c.make_objects.ensures.forest

pub returns-in-Untyped : goal.returns-in-Untyped
returns-in-Untyped g c =
    record {
      reply = refl;
      after = retyped_shown g.P.Profile.profile c.self.inside.threads.memory_bits (g.S.CapStore.memory_bits c.self.inside.store) (g.W.Waiters.memory_bits c.self.inside.threads.waiters) (g.S.CapStore.forest c.self.inside.store) c.self.inside.threads.rows (g.W.Waiters.waits c.self.inside.threads.waiters) c.self.invariant.kernel c.args.self.now c.self.view_is c.args.new c.requires c.self.inside.threads.rows (no_new_rows g.P.Profile.profile c.args.new c.in-Untyped.is (rows_map (tcb_size g.P.Profile.profile) c.self.inside.threads.rows))
          (g.S.CapStore.forest c.make_objects.new.store) c.make_objects.ensures.forest;
    }
