-- The proof of `add_all_open`: the goals that a search leaves open.
use Rattle.std.proofs.Common.{◌∙◌, ◌++◌, ◌<◌, ℕ, List, filter, length, get_or, string_bytes, ap, arith}
use Rattle.command_parts.specs.Telling.{part_naming_view}
use Rattle.command_parts.specs.Text.{is_of_endpoint}
use Rattle.command_parts.proofs.Receiving.{one_more}
use Rattle.command_never.specs.Open.{open_endpoint_lines}
use Rattle.command_never.proofs.OpenOnes.{lines_here}
use Rattle.command_never.proofs.parts_kept.open.Telling.add_all_open.Goals as goal

pub loop-endpoint-preserved : goal.loop-endpoint-preserved
loop-endpoint-preserved g c =
    let p = g.P.Profile.profile in
    let told = part_naming_view c.args.self.now.told.now in
    let layout = c.args.self.now.layout.now in
    let v = c.args.self.now.kernel.now in
    let i = c.args.between.now.from in
    let j = c.args.between.now.to in
    let e = get_or c.args.open.now c.loop-endpoint.endpoint-index 0 in
    let low : c.loop-endpoint.endpoint-index < length c.args.open.now = omega arith in
    one_more (open_endpoint_lines p told layout.memory.now layout.uses.now v i j) c.args.open.now c.loop-endpoint.endpoint-index 0 (string_bytes c.args.out.now)
    (string_bytes c.loop-endpoint.out) (string_bytes c.add_endpoint.new.out) low c.loop-endpoint.invariant
    (c.in_ok-add_endpoint.ensures
    ∙ ap (λ (t : List ℕ). string_bytes c.loop-endpoint.out ++ t)
    (lines_here p told layout.memory.now layout.uses.now v i j e c.uses_on-here.result.now
    (c.uses_on-here.ensures ∙ (ap (filter (is_of_endpoint e)) c.as_slice.ensures.value ∙ c.in_ok-by_endpoint.ensures.same e))))
