-- The proof of `slot_by_index`: the goal that a search leaves open.
use Rattle.std.proofs.Common.{◌≡◌, Ok, sym, ap, ◌∙◌}
use Rattle.cap_core.specs.declared.capability.Cap.{Cap}
use Rattle.kernel_forest.specs.Entries.{cap_at}
use Rattle.slot_core.specs.Places.{address_of}
use Rattle.cspace_core.specs.Target.{target_slot, target_seen}
use Rattle.kernel_abstract.specs.Reasons.{answering}
use Rattle.kernel_abstract.proofs.Checks.Walked.{index_found}
use Rattle.kernel_checks.proofs.lookup.slot_by_index.Goals as goal

pub returns-in-Ok : goal.returns-in-Ok
returns-in-Ok g c =
    let p = g.P.Profile.profile in
    let f = g.S.CapStore.forest c.args.store.now in
    let root = address_of p c.args.root in
    let found : target_slot p (cap_at f) (cap_at f root) c.args.index c.args.depth ≡ Ok (address_of p c.in-Ok.slot) =
    ap (λ (cap : Cap). target_slot p (cap_at f) cap c.args.index c.args.depth) (sym c.get.ensures.cap)
    ∙ sym c.target.ensures.value ∙ ap (target_seen p) c.in-Ok.is in
    sym (ap (answering g.F.Failure.of) (index_found p (cap_at f) c.args.word root c.args.index c.args.depth (address_of p c.in-Ok.slot) found))
