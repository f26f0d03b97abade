use Rattle.std.proofs.Common.{◌∙◌}
use Rattle.std.proofs.lemmas.List.{with_items_is}
use Rattle.slot_core.specs.Links.{place_in}
use Rattle.slot_core.proofs.LinkedStores.LinkedCalls.{found, full_untyped, in_next, in_table, retyped_call}
use Rattle.slot_core.proofs.linked.LinkedStoreCapStore.put_new.Goals as goal

pub insert_after-requires-clause-source_in : goal.insert_after-requires-clause-source_in
insert_after-requires-clause-source_in g c =
    in_table g.P.Profile.profile c.self.inside.links.items c.deref_mut.result.now (place_in c.self.inside.first) (place_in c.self.inside.last) c.args.parent.place c.deref_mut.ensures.value
    (found g.P.Profile.profile c.self.inside.links.items (place_in c.self.inside.first) (place_in c.self.inside.last) c.args.parent.place c.args.self.now c.self.view_is c.self.invariant (full_untyped g.P.Profile.profile c.args.parent.place c.args.self.now.0 c.requires.parent))

pub insert_after-requires-clause-next_in : goal.insert_after-requires-clause-next_in
insert_after-requires-clause-next_in g c =
    in_next g.P.Profile.profile c.self.inside.links.items c.deref_mut.result.now (place_in c.self.inside.first) (place_in c.self.inside.last) c.args.parent.place c.deref_mut.ensures.value
    (found g.P.Profile.profile c.self.inside.links.items (place_in c.self.inside.first) (place_in c.self.inside.last) c.args.parent.place c.args.self.now c.self.view_is c.self.invariant (full_untyped g.P.Profile.profile c.args.parent.place c.args.self.now.0 c.requires.parent))

pub invariant_of-self : goal.invariant_of-self
invariant_of-self g c =
    let h = c.insert_after.ensures in
    (retyped_call g.P.Profile.profile c.self.inside.links.items c.deref_mut.result.now c.insert_after.new.links _ (place_in c.self.inside.first) (place_in c.insert_after.new.first) (place_in c.self.inside.last) (place_in c.insert_after.new.last) c.args.parent.place c.args.slot.place c.args.cap c.args.self.now
    c.deref_mut.ensures.value (with_items_is c.self.inside.links c.insert_after.new.links (h.size ∙ c.deref_mut.ensures.len)) c.self.view_is c.self.invariant
    c.requires.parent c.requires.contains c.requires.within c.requires.empty c.requires.lawful c.requires.unnamed c.requires.disjoint
    h).kept

pub returns : goal.returns
returns g c =
    let h = c.insert_after.ensures in
    let b = retyped_call g.P.Profile.profile c.self.inside.links.items c.deref_mut.result.now c.insert_after.new.links _ (place_in c.self.inside.first) (place_in c.insert_after.new.first) (place_in c.self.inside.last) (place_in c.insert_after.new.last) c.args.parent.place c.args.slot.place c.args.cap c.args.self.now
    c.deref_mut.ensures.value (with_items_is c.self.inside.links c.insert_after.new.links (h.size ∙ c.deref_mut.ensures.len)) c.self.view_is c.self.invariant
    c.requires.parent c.requires.contains c.requires.within c.requires.empty c.requires.lawful c.requires.unnamed c.requires.disjoint
    h in
    record { list = b.list; forest = b.forest; memory = b.memory }
