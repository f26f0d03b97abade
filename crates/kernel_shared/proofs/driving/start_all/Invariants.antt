use Rattle.std.proofs.Common.{◌≡◌, length, vec_len, vec_capacity}
use Rattle.kernel_shared.specs.Driving.{EachThree}
use Rattle.kernel_shared.proofs.driving.start_all.Given as goal

abbrev pub invariant-loop-client : goal.invariant-loop-client
invariant-loop-client g l = record {
  place : l.place ≡ length l.yielded;
  len : length l.handles.items ≡ length l.yielded;
  room : vec_capacity l.handles ≡ vec_len l.fn.clients;
  each : EachThree l.yielded l.lists l.handles.items (λ c l h. (h.promise.client.value ≡ c) × (h.promise.calls.value ≡ l));
}
