-- The proof of `number_memory`: the goals that a search leaves open.
use Rattle.std.proofs.Common.{◌≡◌, ◌+◌, ◌<◌, length, set, map, take, drop, ◌++◌, sym, subst, arith}
use Rattle.std.proofs.lemmas.List.{get_or_default}
use Rattle.std.proofs.lemmas.List.Edits.{map_over_more}
use Rattle.query_parts.specs.declared.listed.PartMemory.{PartMemory}
use Rattle.query_parts.specs.Private.Search.{memory_in}
use Rattle.query_parts.specs.Private.Arranging.{number_of}
use Rattle.query_parts.proofs.arranged.number_memory.Goals as goal

pub loop-stretch-preserved : goal.loop-stretch-preserved
loop-stretch-preserved c =
    let low : c.loop-stretch.stretch-index < length c.loop-stretch.memory = omega arith in
    subst (λ (x : PartMemory). set c.loop-stretch.memory c.loop-stretch.stretch-index x
    ≡ map (memory_in (number_of c.args.labels.now)) (take (c.loop-stretch.stretch-index + 1) c.args.memory.now) ++ drop (c.loop-stretch.stretch-index + 1) c.args.memory.now)
    (sym c.memory_numbered.ensures)
    (map_over_more (memory_in (number_of c.args.labels.now)) c.args.memory.now c.loop-stretch.memory c.loop-stretch.stretch-index _ (omega arith) c.loop-stretch.invariant
    (get_or_default c.loop-stretch.memory c.loop-stretch.stretch-index _ _ low))
