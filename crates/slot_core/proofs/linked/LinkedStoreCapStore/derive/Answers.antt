use Rattle.std.proofs.Common.{◌∙◌, ap}
use Rattle.std.proofs.lemmas.List.{with_items_is}
use Rattle.kernel_forest.specs.Derivation.{is_new_original}
use Rattle.slot_core.specs.Links.{link_at}
use Rattle.slot_core.specs.Links.{place_in}
use Rattle.slot_core.proofs.LinkedStores.LinkedCalls.{found, in_next, in_table, derived_call}
use Rattle.slot_core.proofs.linked.LinkedStoreCapStore.derive.Goals as goal

pub row_within-requires : goal.row_within-requires
row_within-requires g c = record {
  slot_in =
      in_table g.P.Profile.profile c.self.inside.links.items c.deref.result.now (place_in c.self.inside.first) (place_in c.self.inside.last) c.args.source.place c.deref.ensures.value
      (found g.P.Profile.profile c.self.inside.links.items (place_in c.self.inside.first) (place_in c.self.inside.last) c.args.source.place c.args.self.now c.self.view_is c.self.invariant c.requires.source);
}

pub insert_after-requires-clause-source_in : goal.insert_after-requires-clause-source_in
insert_after-requires-clause-source_in g c =
    in_table g.P.Profile.profile c.self.inside.links.items c.deref_mut.result.now (place_in c.self.inside.first) (place_in c.self.inside.last) c.args.source.place c.deref_mut.ensures.value
    (found g.P.Profile.profile c.self.inside.links.items (place_in c.self.inside.first) (place_in c.self.inside.last) c.args.source.place c.args.self.now c.self.view_is c.self.invariant c.requires.source)

pub insert_after-requires-clause-next_in : goal.insert_after-requires-clause-next_in
insert_after-requires-clause-next_in g c =
    in_next g.P.Profile.profile c.self.inside.links.items c.deref_mut.result.now (place_in c.self.inside.first) (place_in c.self.inside.last) c.args.source.place c.deref_mut.ensures.value
    (found g.P.Profile.profile c.self.inside.links.items (place_in c.self.inside.first) (place_in c.self.inside.last) c.args.source.place c.args.self.now c.self.view_is c.self.invariant c.requires.source)

pub invariant_of-self : goal.invariant_of-self
invariant_of-self g c =
    let h = c.insert_after.ensures in
    (derived_call g.P.Profile.profile c.self.inside.links.items c.deref_mut.result.now c.insert_after.new.links _ (place_in c.self.inside.first) (place_in c.insert_after.new.first) (place_in c.self.inside.last) (place_in c.insert_after.new.last) c.args.source.place c.args.slot.place c.args.cap c.is_new_original-marks.result c.args.self.now
    c.deref_mut.ensures.value (with_items_is c.self.inside.links c.insert_after.new.links (h.size ∙ c.deref_mut.ensures.len)) c.self.view_is c.self.invariant
    c.requires.source (c.is_new_original-marks.ensures ∙ ap (λ l. is_new_original l.cap c.args.cap) (c.row_within.ensures ∙ ap (λ m. link_at m c.args.source.place) c.deref.ensures.value)) c.requires.within c.requires.empty c.requires.lawful c.requires.same c.requires.badge c.requires.childless c.requires.disjoint
    h).kept

pub returns : goal.returns
returns g c =
    let h = c.insert_after.ensures in
    let b = derived_call g.P.Profile.profile c.self.inside.links.items c.deref_mut.result.now c.insert_after.new.links _ (place_in c.self.inside.first) (place_in c.insert_after.new.first) (place_in c.self.inside.last) (place_in c.insert_after.new.last) c.args.source.place c.args.slot.place c.args.cap c.is_new_original-marks.result c.args.self.now
    c.deref_mut.ensures.value (with_items_is c.self.inside.links c.insert_after.new.links (h.size ∙ c.deref_mut.ensures.len)) c.self.view_is c.self.invariant
    c.requires.source (c.is_new_original-marks.ensures ∙ ap (λ l. is_new_original l.cap c.args.cap) (c.row_within.ensures ∙ ap (λ m. link_at m c.args.source.place) c.deref.ensures.value)) c.requires.within c.requires.empty c.requires.lawful c.requires.same c.requires.badge c.requires.childless c.requires.disjoint
    h in
    record { list = b.list; forest = b.forest; memory = b.memory }
