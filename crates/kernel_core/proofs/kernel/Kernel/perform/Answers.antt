-- The proof of `perform`: the goals that a search leaves open.
use Rattle.std.proofs.Common.{Result, sym, ap, ◌∙◌}
use Rattle.cap_core.specs.declared.refusal.Refusal.{Refusal}
use Rattle.kernel_abstract.specs.declared.invocation.Invocation.{Invocation}
use Rattle.kernel_abstract.specs.Private.Effects.{decoded_effect}
use Rattle.kernel_core.proofs.kernel.Kernel.perform.Goals as goal

pub returns-in-Ok : goal.returns-in-Ok
returns-in-Ok g c =
    let is = sym c.decode_call.ensures.invocation ∙ c.in-Ok.is in
    record {
      reply = c.perform_invocation.ensures.reply ∙ sym (ap (λ (r : Result Invocation Refusal). (decoded_effect g.P.Profile.profile c.args.self.now c.args.call.now.thread r).reply) is);
      after = c.perform_invocation.ensures.after ∙ sym (ap (λ (r : Result Invocation Refusal). (decoded_effect g.P.Profile.profile c.args.self.now c.args.call.now.thread r).after) is);
      within = c.perform_invocation.ensures.within;
    }
