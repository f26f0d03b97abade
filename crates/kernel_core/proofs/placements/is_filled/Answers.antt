-- The proof of `is_filled`: the goals that a search leaves open.
use Rattle.std.proofs.Common.{◌*◌, sym, ap, ◌∙◌}
use Rattle.cap_core.specs.Numbers.{slot_size}
use Rattle.kernel_forest.specs.Entries.{cap_at}
use Rattle.kernel_abstract.proofs.Capabilities.PlacementSteps.{first_slot, empty_slot, full_slot}
use Rattle.kernel_core.proofs.placements.is_filled.Goals as goal

pub returns-in-Null : goal.returns-in-Null
returns-in-Null g c =
    let p = g.P.Profile.profile in
    let f = g.S.CapStore.forest c.args.store.now in
    sym (empty_slot p (g.S.CapStore.memory_bits c.args.store.now) c.args.slot f c.get.result c.requires.store.lawful
    (c.get.ensures.cap ∙ ap (cap_at f) (first_slot p (c.of_node.result.place * slot_size p) c.args.slot c.of_node.ensures)) c.in-Null.is)

pub returns-in_default : goal.returns-in_default
returns-in_default g c =
    let p = g.P.Profile.profile in
    let f = g.S.CapStore.forest c.args.store.now in
    sym (full_slot c.args.slot f c.get.result
    (c.get.ensures.cap ∙ ap (cap_at f) (first_slot p (c.of_node.result.place * slot_size p) c.args.slot c.of_node.ensures)) c.in_default.not-Null)
