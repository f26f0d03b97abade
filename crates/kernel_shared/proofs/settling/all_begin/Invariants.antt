use Rattle.std.proofs.Common.{ℕ, ◌≡◌, ◌<◌, Some, slice_get}
use Rattle.kernel_shared.specs.Fronts.{StartsWith}
use Rattle.kernel_shared.specs.ClientStates.{ClientState}
use Rattle.kernel_shared.proofs.settling.all_begin.Given as goal

abbrev pub invariant-loop-place : goal.invariant-loop-place
invariant-loop-place g l = record {
  same : l.clients.items ≡ l.fn.clients.items;
  begin : (i : ℕ) (c : ClientState) → i < l.place → slice_get l.fn.clients.items i ≡ Some c → StartsWith (g.T.Absorb.state l.book) c.front;
}
