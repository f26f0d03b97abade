use Rattle.std.proofs.Common.{◌≡◌}
use Rattle.bench_kernel.specs.Cycle.{bench_memory_bits, family}
use Rattle.bench_kernel.proofs.store.derive_all.Given as goal

abbrev pub invariant-loop-i : goal.invariant-loop-i
invariant-loop-i g l = record {
  memory : g.S.CapStore.memory_bits l.store ≡ bench_memory_bits;
  forest : g.S.CapStore.forest l.store ≡ family l.i;
}
