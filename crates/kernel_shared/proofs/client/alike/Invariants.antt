use Rattle.std.proofs.Common.{◌≡◌, take}
use Rattle.kernel_shared.proofs.client.alike.Given as goal

abbrev pub invariant-loop-place : goal.invariant-loop-place
invariant-loop-place g l = record {
  same : take l.place (g.T.Absorb.state l.one) ≡ take l.place (g.T.Absorb.state l.other);
}
