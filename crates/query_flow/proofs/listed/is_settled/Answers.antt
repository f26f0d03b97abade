-- The proof of `is_settled`: the goals that a search leaves open.
use Rattle.std.proofs.Common.{◌∙◌, ℕ, Bool, List, ap}
use Rattle.std.specs.List.{list_all}
use Rattle.query_parts.specs.declared.listed.PartMemory.{PartMemory}
use Rattle.query_flow.specs.declared.listed.MayStand.{MayStand}
use Rattle.query_flow.specs.declared.listed.Caller.{Caller}
use Rattle.query_flow.specs.Listed as spec
use Rattle.query_flow.specs.Private as private
use Rattle.query_flow.proofs.Verdicts.{known_all}
use Rattle.query_flow.proofs.listed.is_settled.Goals as goal

pub returns : goal.returns
returns g c =
    let p = g.P.Profile.profile in
    let flows = c.args.flows.now in
    let memory = c.as_slice-memory.result.now in
    let all = c.as_slice-all.result.now in
    let callers = c.as_slice-callers.result.now in
    let trusted = c.as_slice-trusted.result.now in
    c.stand_settled.ensures
    ∙ ap (λ (known : List Bool). list_all (λ (s : MayStand). private.are_threads_settled memory callers known trusted s.what) all) c.as_slice-settled.ensures.value
    ∙ known_all p memory all callers c.in_ok-settled.settled.items c.in_ok-settled.ensures trusted
    ∙ ap (λ (m : List PartMemory). spec.is_settled p m all callers trusted) c.as_slice-memory.ensures.value
    ∙ ap (λ (a : List MayStand). spec.is_settled p flows.memory.items a callers trusted) c.as_slice-all.ensures.value
    ∙ ap (λ (k : List Caller). spec.is_settled p flows.memory.items flows.standing.items k trusted) c.as_slice-callers.ensures.value
    ∙ ap (λ (t : List ℕ). spec.is_settled p flows.memory.items flows.standing.items flows.callers.items t) c.as_slice-trusted.ensures.value
