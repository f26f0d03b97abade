-- The proof of `is_thread_settled`: the goals that a search leaves open.
use Rattle.std.proofs.Common.{◌∙◌, ℕ, List, ap}
use Rattle.query_parts.specs.declared.listed.PartMemory.{PartMemory}
use Rattle.query_flow.specs.declared.listed.MayStand.{MayStand}
use Rattle.query_flow.specs.declared.listed.Caller.{Caller}
use Rattle.query_flow.specs.Listed as spec
use Rattle.query_flow.proofs.listed.is_thread_settled.Goals as goal

pub returns : goal.returns
returns g c =
    let p = g.P.Profile.profile in
    let set = c.set_at-set.ensures ∙ ap (λ (m : List PartMemory). spec.set_at m c.args.thread) c.as_slice-memory.ensures.value in
    let at : ℕ = spec.set_at c.args.flows.now.memory.items c.args.thread in
    c.is_set_settled.ensures
    ∙ ap (λ (n : ℕ). spec.is_set_settled p c.as_slice-memory.result.now c.as_slice-all.result.now (spec.caller_of c.as_slice.result.now n)) set
    ∙ ap (λ (cs : List Caller). spec.is_set_settled p c.as_slice-memory.result.now c.as_slice-all.result.now (spec.caller_of cs at)) c.as_slice.ensures.value
    ∙ ap (λ (all : List MayStand). spec.is_set_settled p c.as_slice-memory.result.now all (spec.caller_of c.args.flows.now.callers.items at)) c.as_slice-all.ensures.value
    ∙ ap (λ (m : List PartMemory). spec.is_set_settled p m c.args.flows.now.standing.items (spec.caller_of c.args.flows.now.callers.items at)) c.as_slice-memory.ensures.value
