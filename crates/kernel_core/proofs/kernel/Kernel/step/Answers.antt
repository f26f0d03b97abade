-- The proof of `step`: the goals that a search leaves open.
use Rattle.std.proofs.Common.{sym, ◌∙◌}
use Rattle.kernel_abstract.proofs.Checks.Refusals.{refused_keeps}
use Rattle.kernel_abstract.proofs.Reached.Simulation.{stands}
use Rattle.kernel_core.proofs.kernel.Kernel.step.Goals as goal

pub returns : goal.returns
returns g c = record {
  stands = λ A reached shows. stands g.P.Profile.profile A c.args.call _ _ _ reached shows c.perform.ensures.reply c.perform.ensures.after;
  refused = λ refusal is. c.perform.ensures.after ∙ refused_keeps g.P.Profile.profile c.args.self.now c.args.call refusal (sym c.perform.ensures.reply ∙ is);
  within = c.perform.ensures.within;
}
