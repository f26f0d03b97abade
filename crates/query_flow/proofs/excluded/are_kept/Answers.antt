-- The proof of `are_kept`: the goals that a search leaves open.
use Rattle.std.proofs.Common.{◌∙◌, ℕ, List, ap}
use Rattle.query_flow.specs.declared.listed.MayStand.{MayStand}
use Rattle.query_flow.specs.declared.excluded.Spot.{Spot}
use Rattle.query_flow.specs.Apart as spec
use Rattle.query_flow.proofs.excluded.are_kept.Goals as goal

pub returns : goal.returns
returns g c =
    let flows = c.args.flows.now in
    let v = c.args.kernel.now in
    let by = c.args.by.now in
    let from = c.args.from in
    let to = c.args.to in
    let sends =
    c.as_slice.ensures.value ∙ c.in_ok-sends.ensures
    ∙ ap (λ (names : List ℕ). spec.send_spots names c.as_slice-all.result.now v by from) c.names_in-first.ensures
    ∙ ap (λ (all : List MayStand). spec.send_spots (spec.sets_named flows from) all v by from) c.as_slice-all.ensures.value in
    let receives =
    c.as_slice-2.ensures.value ∙ c.in_ok-receives.ensures
    ∙ ap (λ (names : List ℕ). spec.receive_spots names c.as_slice-all.result.now v by to) c.names_in-second.ensures
    ∙ ap (λ (all : List MayStand). spec.receive_spots (spec.sets_named flows to) all v by to) c.as_slice-all.ensures.value in
    c.are_apart.ensures
    ∙ ap (λ (spots : List Spot). spec.are_spots_apart spots c.as_slice-2.result.now) sends
    ∙ ap (spec.are_spots_apart (spec.send_spots (spec.sets_named flows from) flows.standing.items v by from)) receives
