-- The proof of `is_slot_told`: the goals that a search leaves open.
use Rattle.std.proofs.Common.{◌∙◌, ℕ, List, ap}
use Rattle.query_parts.specs.declared.listed.PartMemory.{PartMemory}
use Rattle.query_flow.specs.declared.listed.MayStand.{MayStand}
use Rattle.query_flow.specs.Listed as spec
use Rattle.query_flow.proofs.listed.is_slot_told.Goals as goal

pub returns : goal.returns
returns g c =
    let p = g.P.Profile.profile in
    let set = c.set_at-set.ensures ∙ ap (λ (m : List PartMemory). spec.set_at m c.args.slot) c.as_slice.ensures.value in
    c.may_stand.ensures
    ∙ ap (λ (n : ℕ). spec.may_stand p c.as_slice-2.result.now n c.args.cap) set
    ∙ ap (λ (all : List MayStand). spec.may_stand p all (spec.set_at c.args.flows.now.memory.items c.args.slot) c.args.cap) c.as_slice-2.ensures.value
