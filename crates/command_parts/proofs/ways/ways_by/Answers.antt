-- The proof of `ways_by`: the goals that a search leaves open.
use Rattle.std.proofs.Common.{◌∙◌, List, ap, ap₂, arith}
use Rattle.std.specs.List.{flat_map}
use Rattle.std.proofs.lemmas.List.{take_all}
use Rattle.query_parts.specs.declared.listed.PartMemory.{PartMemory}
use Rattle.query_parts.specs.declared.listed.PartUse.{PartUse}
use Rattle.command_parts.specs.Text as spec
use Rattle.command_parts.proofs.ways.ways_by.Goals as goal

pub returns : goal.returns
returns g c =
    let p = g.P.Profile.profile in
    let endpoints = c.in_ok-endpoints.endpoints in
    c.loop-from.invariant
    ∙ ap (flat_map (spec.ways_from c.args.passing p endpoints.memory.now endpoints.uses.now)) (take_all c.loop-from.from-index c.args.parts.now (omega arith) ∙ c.requires)
    ∙ ap₂ (λ (m : List PartMemory) (u : List PartUse). flat_map (spec.ways_from c.args.passing p m u) (spec.parts_of c.args.memory.now))
    c.in_ok-endpoints.ensures.memory c.in_ok-endpoints.ensures.uses
