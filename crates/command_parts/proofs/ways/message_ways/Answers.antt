-- The proof of `message_ways`: the goals that a search leaves open.
use Rattle.std.proofs.Common.{◌∙◌, List, ap, ap₂, arith}
use Rattle.std.specs.List.{flat_map}
use Rattle.std.proofs.lemmas.List.{take_all}
use Rattle.query_parts.specs.declared.listed.PartMemory.{PartMemory}
use Rattle.query_parts.specs.declared.listed.PartUse.{PartUse}
use Rattle.command_parts.specs.Text as spec
use Rattle.command_parts.proofs.ways.message_ways.Goals as goal

pub returns : goal.returns
returns g c =
    let p = g.P.Profile.profile in
    let endpoints = c.in_ok-endpoints.endpoints in
    c.loop-from.invariant
    ∙ ap (flat_map (spec.message_ways_from p endpoints.memory.now endpoints.uses.now c.args.slots.now c.args.alone.now)) (take_all c.loop-from.from-index c.args.numbers.now (omega arith) ∙ c.requires)
    ∙ ap₂ (λ (m : List PartMemory) (u : List PartUse). flat_map (spec.message_ways_from p m u c.args.slots.now c.args.alone.now) (spec.parts_of c.args.parts.now.memory.items))
    (c.in_ok-endpoints.ensures.memory ∙ c.as_slice-memory.ensures.value) (c.in_ok-endpoints.ensures.uses ∙ c.as_slice.ensures.value)
