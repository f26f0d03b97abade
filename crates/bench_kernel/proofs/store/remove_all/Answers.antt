use Rattle.std.proofs.Common.{◌≡◌, ℕ, suc, ◌+◌, ◌-◌, true, sym, subst, ap, ◌∙◌, arith}
use Rattle.kernel_forest.specs.Derivation.{emptied}
use Rattle.kernel_forest.specs.Entries.{is_full}
use Rattle.bench_kernel.specs.Cycle.{at, family}
use Rattle.bench_kernel.proofs.Family.{last_full, last_out}
use Rattle.bench_kernel.proofs.store.remove_all.Goals as goal

pub overflow_add-left : goal.overflow_add-left
overflow_add-left g c = omega (arith, c.loop-left.invariant.few)

pub slot-requires : goal.slot-requires
slot-requires g c = omega (arith, c.loop-left.invariant.few)

pub remove-requires : goal.remove-requires
remove-requires g c =
    let n : suc (c.loop-left.left - 1) ≡ c.loop-left.left = omega (arith, c.loop-left-test.true) in
    record { full = rw (c.slot.ensures, c.loop-left.invariant.forest) (subst (λ (k : ℕ). is_full (at (c.loop-left.left - 1 + 2)) (family k) ≡ true) n (last_full (c.loop-left.left - 1))) }

pub loop-left-preserved : goal.loop-left-preserved
loop-left-preserved g c =
    let n : suc (c.loop-left.left - 1) ≡ c.loop-left.left = omega (arith, c.loop-left-test.true) in
    record {
      memory = c.remove.ensures.memory ∙ c.loop-left.invariant.memory;
      forest = c.remove.ensures.forest ∙ ap (λ s. emptied s (g.S.CapStore.forest c.loop-left.store)) c.slot.ensures
          ∙ ap (emptied (at (c.loop-left.left - 1 + 2))) (c.loop-left.invariant.forest ∙ ap family (sym n)) ∙ last_out (c.loop-left.left - 1);
      few = omega (arith, c.loop-left.invariant.few);
    }
