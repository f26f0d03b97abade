use Rattle.std.proofs.Common.{◌∙◌}
use Rattle.std.proofs.lemmas.List.{with_items_is}
use Rattle.slot_core.specs.Links.{place_in}
use Rattle.slot_core.proofs.LinkedStores.LinkedCalls.{found, in_next, in_previous, in_table, moved_call}
use Rattle.slot_core.proofs.linked.LinkedStoreCapStore.relocate.Goals as goal

pub replace-requires-clause-source_in : goal.replace-requires-clause-source_in
replace-requires-clause-source_in g c =
    in_table g.P.Profile.profile c.self.inside.links.items c.deref_mut.result.now (place_in c.self.inside.first) (place_in c.self.inside.last) c.args.source.place c.deref_mut.ensures.value
    (found g.P.Profile.profile c.self.inside.links.items (place_in c.self.inside.first) (place_in c.self.inside.last) c.args.source.place c.args.self.now c.self.view_is c.self.invariant c.requires.source)

pub replace-requires-clause-next_in : goal.replace-requires-clause-next_in
replace-requires-clause-next_in g c =
    in_next g.P.Profile.profile c.self.inside.links.items c.deref_mut.result.now (place_in c.self.inside.first) (place_in c.self.inside.last) c.args.source.place c.deref_mut.ensures.value
    (found g.P.Profile.profile c.self.inside.links.items (place_in c.self.inside.first) (place_in c.self.inside.last) c.args.source.place c.args.self.now c.self.view_is c.self.invariant c.requires.source)

pub replace-requires-clause-previous_in : goal.replace-requires-clause-previous_in
replace-requires-clause-previous_in g c =
    in_previous g.P.Profile.profile c.self.inside.links.items c.deref_mut.result.now (place_in c.self.inside.first) (place_in c.self.inside.last) c.args.source.place c.deref_mut.ensures.value
    (found g.P.Profile.profile c.self.inside.links.items (place_in c.self.inside.first) (place_in c.self.inside.last) c.args.source.place c.args.self.now c.self.view_is c.self.invariant c.requires.source)

pub invariant_of-self : goal.invariant_of-self
invariant_of-self g c =
    let h = c.replace.ensures in
    (moved_call g.P.Profile.profile c.self.inside.links.items c.deref_mut.result.now c.replace.new.links _ (place_in c.self.inside.first) (place_in c.replace.new.first) (place_in c.self.inside.last) (place_in c.replace.new.last) c.args.source.place c.args.slot.place c.args.cap c.args.self.now
    c.deref_mut.ensures.value (with_items_is c.self.inside.links c.replace.new.links (h.size ∙ c.deref_mut.ensures.len)) c.self.view_is c.self.invariant
    c.requires.source c.requires.within c.requires.empty c.requires.lawful c.requires.same c.requires.badge c.requires.disjoint
    h).kept

pub returns : goal.returns
returns g c =
    let h = c.replace.ensures in
    let b = moved_call g.P.Profile.profile c.self.inside.links.items c.deref_mut.result.now c.replace.new.links _ (place_in c.self.inside.first) (place_in c.replace.new.first) (place_in c.self.inside.last) (place_in c.replace.new.last) c.args.source.place c.args.slot.place c.args.cap c.args.self.now
    c.deref_mut.ensures.value (with_items_is c.self.inside.links c.replace.new.links (h.size ∙ c.deref_mut.ensures.len)) c.self.view_is c.self.invariant
    c.requires.source c.requires.within c.requires.empty c.requires.lawful c.requires.same c.requires.badge c.requires.disjoint
    h in
    record { list = b.list; forest = b.forest; memory = b.memory }
