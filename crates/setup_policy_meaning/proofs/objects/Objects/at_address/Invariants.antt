use Rattle.std.proofs.Common.{◌≡◌}
use Rattle.std.specs.Prelude.{IfSome}
use Rattle.setup_policy_meaning.specs.declared.objects.Object.{Object}
use Rattle.setup_policy_meaning.proofs.objects.Objects.at_address.Given as goal

abbrev pub invariant-loop-live : goal.invariant-loop-live
invariant-loop-live l = IfSome l.largest (λ (o : Object). o.base ≡ l.base)
