use Rattle.std.proofs.Common.{◌∙◌}
use Rattle.std.proofs.lemmas.List.{with_items_is}
use Rattle.slot_core.specs.Links.{place_in}
use Rattle.slot_core.proofs.LinkedStores.LinkedCalls.{found, in_next, in_previous, in_table, emptied_call}
use Rattle.slot_core.proofs.linked.LinkedStoreCapStore.remove.Goals as goal

pub unlink-requires-clause-slot_in : goal.unlink-requires-clause-slot_in
unlink-requires-clause-slot_in g c =
    in_table g.P.Profile.profile c.self.inside.links.items c.deref_mut.result.now (place_in c.self.inside.first) (place_in c.self.inside.last) c.args.slot.place c.deref_mut.ensures.value
    (found g.P.Profile.profile c.self.inside.links.items (place_in c.self.inside.first) (place_in c.self.inside.last) c.args.slot.place c.args.self.now c.self.view_is c.self.invariant c.requires.full)

pub unlink-requires-clause-next_in : goal.unlink-requires-clause-next_in
unlink-requires-clause-next_in g c =
    in_next g.P.Profile.profile c.self.inside.links.items c.deref_mut.result.now (place_in c.self.inside.first) (place_in c.self.inside.last) c.args.slot.place c.deref_mut.ensures.value
    (found g.P.Profile.profile c.self.inside.links.items (place_in c.self.inside.first) (place_in c.self.inside.last) c.args.slot.place c.args.self.now c.self.view_is c.self.invariant c.requires.full)

pub unlink-requires-clause-previous_in : goal.unlink-requires-clause-previous_in
unlink-requires-clause-previous_in g c =
    in_previous g.P.Profile.profile c.self.inside.links.items c.deref_mut.result.now (place_in c.self.inside.first) (place_in c.self.inside.last) c.args.slot.place c.deref_mut.ensures.value
    (found g.P.Profile.profile c.self.inside.links.items (place_in c.self.inside.first) (place_in c.self.inside.last) c.args.slot.place c.args.self.now c.self.view_is c.self.invariant c.requires.full)

pub invariant_of-self : goal.invariant_of-self
invariant_of-self g c =
    let h = c.unlink.ensures in
    (emptied_call g.P.Profile.profile c.self.inside.links.items c.deref_mut.result.now c.unlink.new.links _ (place_in c.self.inside.first) (place_in c.unlink.new.first) (place_in c.self.inside.last) (place_in c.unlink.new.last) c.args.slot.place c.args.self.now
    c.deref_mut.ensures.value (with_items_is c.self.inside.links c.unlink.new.links (h.size ∙ c.deref_mut.ensures.len)) c.self.view_is c.self.invariant
    c.requires.full
    h).kept

pub returns : goal.returns
returns g c =
    let h = c.unlink.ensures in
    let b = emptied_call g.P.Profile.profile c.self.inside.links.items c.deref_mut.result.now c.unlink.new.links _ (place_in c.self.inside.first) (place_in c.unlink.new.first) (place_in c.self.inside.last) (place_in c.unlink.new.last) c.args.slot.place c.args.self.now
    c.deref_mut.ensures.value (with_items_is c.self.inside.links c.unlink.new.links (h.size ∙ c.deref_mut.ensures.len)) c.self.view_is c.self.invariant
    c.requires.full
    h in
    record { list = b.list; forest = b.forest; memory = b.memory }
