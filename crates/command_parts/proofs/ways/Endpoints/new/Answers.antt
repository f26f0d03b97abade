-- The proof of `new`: the goals that a search leaves open.
use Rattle.std.proofs.Common.{◌∙◌, arith}
use Rattle.command_parts.proofs.Receiving.{all_found}
use Rattle.command_parts.proofs.ways.Endpoints.new.Goals as goal

pub invariant_of-result : goal.invariant_of-result
invariant_of-result g c = record {
  found =
      all_found g.P.Profile.profile c.args.memory.now c.args.uses.now c.in_ok-list.list.items c.in_ok-list.ensures.same c.deref-endpoint-items.result.now
      c.loop-endpoint.endpoint-index c.loop-endpoint.used.items (c.deref-endpoint-items.ensures.value ∙ c.in_ok-endpoints.ensures) (omega arith) c.loop-endpoint.invariant;
}
