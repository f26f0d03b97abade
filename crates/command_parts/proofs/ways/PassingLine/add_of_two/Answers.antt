-- The proof of `add_of_two`: the goals that a search leaves open.
use Rattle.std.proofs.Common.{◌∙◌, ◌<◌, ◌++◌, List, ℕ, filter, length, get_or, ap, arith, string_bytes}
use Rattle.command_parts.specs.Telling.{part_naming_view}
use Rattle.command_parts.specs.Text as spec
use Rattle.command_parts.proofs.Receiving.{between_here, one_more}
use Rattle.command_parts.proofs.ways.PassingLine.add_of_two.Goals as goal

pub loop-endpoint-preserved : goal.loop-endpoint-preserved
loop-endpoint-preserved g c =
    let p = g.P.Profile.profile in
    let told = part_naming_view c.args.self.now.told.now in
    let at = c.loop-endpoint.endpoint-index in
    let here = get_or c.deref-endpoint-items.result.now at 0 in
    let low : at < length c.deref-endpoint-items.result.now = omega arith in
    one_more (spec.between_line told c.args.self.now.passing p c.args.access.now.memory.now c.args.access.now.uses.now c.args.from c.args.to) c.deref-endpoint-items.result.now at 0
    (string_bytes c.args.out.now) (string_bytes c.loop-endpoint.out) (string_bytes c.add_where.new.out) low c.loop-endpoint.invariant
    (c.in_ok-add_where.ensures
    ∙ ap (λ (l : List ℕ). string_bytes c.loop-endpoint.out ++ l)
    (between_here p c.args.access.now.memory.now c.args.access.now.uses.now told c.args.self.now.passing c.args.from c.args.to here c.uses_on.result.now
    (c.uses_on.ensures ∙ ap (filter (spec.is_of_endpoint here)) c.as_slice.ensures.value ∙ c.in_ok-by_endpoint.ensures.same here)))
