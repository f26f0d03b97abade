-- Where no radix gives a plan, no plan fits.
use Rattle.std.proofs.Common.{arith}
use Rattle.command_new.proofs.Fitting.{none_fits}
use Rattle.command_new.proofs.planning.plan_of_some_radix.Goals as goal

pub returns : goal.returns
returns g c = none_fits g.P.Profile.profile c.args.asked.now (λ radix least most. c.loop-root_radix.invariant radix (omega arith) most)
