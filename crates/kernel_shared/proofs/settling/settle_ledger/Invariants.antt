use Rattle.std.proofs.Common.{◌≡◌, ◌≤◌, length, sum_by}
use Rattle.kernel_shared.specs.ClientStates.{made}
use Rattle.kernel_shared.proofs.settling.settle_ledger.Given as goal

abbrev pub invariant-loop-client : goal.invariant-loop-client
invariant-loop-client g l = record {
  parts : l.all.parts ≡ length l.yielded;
  within : l.all.parts ≤ g.N.Ledger.parts;
  amount : l.all.amount ≡ sum_by made l.yielded;
}
