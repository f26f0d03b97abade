-- The proof of `add_held`: the goals that a search leaves open.
use Rattle.std.proofs.Common.{◌≡◌, ◌∙◌, ℕ, ◌<◌, ◌++◌, ◌==◌, not, List, filter, map, length, get_or, ap, arith}
use Rattle.std.specs.List.{flat_map}
use Rattle.command_parts.specs.declared.ways.Way.{Way}
use Rattle.command_parts.specs.Private.Used.{all_used, used_view}
use Rattle.command_parts.specs.Text as spec
use Rattle.command_parts.proofs.Receiving.{all_taken, found_at, held_here, next_found}
use Rattle.command_parts.proofs.ways.Endpoints.add_held.Goals as goal

pub loop-endpoint-preserved : goal.loop-endpoint-preserved
loop-endpoint-preserved g c =
    let p = g.P.Profile.profile in
    let memory = c.args.self.now.memory.now in
    let uses = c.args.self.now.uses.now in
    let from = c.args.from in
    let all = c.deref-endpoint-items.result.now in
    let found : map used_view all ≡ all_used p memory uses = ap (map used_view) c.deref-endpoint-items.ensures.value ∙ c.args.self.now.found in
    let at = c.loop-endpoint.endpoint-index in
    let used = c.endpoint-item.result in
    let here = c.uses_on-uses.result.now in
    let before = c.loop-endpoint.ways.items in
    let low : at < length all = omega arith in
    next_found p memory uses (spec.held_ways_on p memory uses c.args.held.now from) all at c.args.ways.now.items before c.add_ways_on.new.ways.items low found c.loop-endpoint.invariant
    (c.in_ok-add_ways_on.ensures
    ∙ ap (λ (badges : List ℕ). before ++ flat_map (λ badge. map (spec.way from used.address badge) (filter (λ other. not (other == from)) used.receivers.items)) badges)
    (c.as_slice-badges.ensures.value ∙ c.in_ok-badges.ensures)
    ∙ ap (λ (l : List Way). before ++ l)
    (held_here p memory uses c.args.held.now from (get_or (spec.endpoints_used uses) at 0) here used (found_at p memory uses all at used low found c.endpoint-item.is)
    (c.uses_on-uses.ensures ∙ ap (filter (spec.is_of_endpoint used.address)) c.as_slice-by_endpoint.ensures.value ∙ c.in_ok-by_endpoint.ensures.same used.address)))

pub returns : goal.returns
returns g c =
    let p = g.P.Profile.profile in
    let memory = c.args.self.now.memory.now in
    let uses = c.args.self.now.uses.now in
    let all = c.deref-endpoint-items.result.now in
    let found : map used_view all ≡ all_used p memory uses = ap (map used_view) c.deref-endpoint-items.ensures.value ∙ c.args.self.now.found in
    all_taken p memory uses (spec.held_ways_on p memory uses c.args.held.now c.args.from) all c.loop-endpoint.endpoint-index c.args.ways.now.items c.loop-endpoint.ways.items (omega arith) found c.loop-endpoint.invariant
