use Rattle.std.proofs.Common.{ℕ, ◌≡◌, Some, length, slice_get, vec_len, vec_capacity}
use Rattle.kernel_shared.specs.Driving.{IsFinish}
use Rattle.kernel_shared.proofs.driving.finish_all.Given as goal

abbrev pub invariant-loop-ran : goal.invariant-loop-ran
invariant-loop-ran g l = record {
  len : length l.done.items ≡ length l.yielded;
  room : vec_capacity l.done ≡ vec_len l.fn.all;
  each : (i : ℕ) (r : _) (d : _) → slice_get l.yielded i ≡ Some r → slice_get l.done.items i ≡ Some d → IsFinish g.G.Gate.ends g.N.Naming.limit r.client r.made r.end d.client d.made d.stopped;
}
