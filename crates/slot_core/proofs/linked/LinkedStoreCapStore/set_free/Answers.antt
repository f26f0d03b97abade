use Rattle.std.proofs.Common.{◌∙◌}
use Rattle.std.proofs.lemmas.List.{with_items_is}
use Rattle.slot_core.specs.Links.{place_in}
use Rattle.slot_core.proofs.LinkedStores.LinkedCalls.{found, full_untyped, in_table, freed_call}
use Rattle.slot_core.proofs.linked.LinkedStoreCapStore.set_free.Goals as goal

pub free_from-requires : goal.free_from-requires
free_from-requires g c =
    record {
      slot_in = in_table g.P.Profile.profile c.self.inside.links.items c.deref_mut.result.now (place_in c.self.inside.first) (place_in c.self.inside.last) c.args.slot.place c.deref_mut.ensures.value
          (found g.P.Profile.profile c.self.inside.links.items (place_in c.self.inside.first) (place_in c.self.inside.last) c.args.slot.place c.args.self.now c.self.view_is c.self.invariant (full_untyped g.P.Profile.profile c.args.slot.place c.args.self.now.0 c.requires.untyped));
    }

pub invariant_of-self : goal.invariant_of-self
invariant_of-self g c =
    let h = c.free_from.ensures in
    (freed_call g.P.Profile.profile c.self.inside.links.items c.deref_mut.result.now c.free_from.new.links _ (place_in c.self.inside.first) (place_in c.self.inside.last) c.args.slot.place c.args.free c.args.self.now
    c.deref_mut.ensures.value (with_items_is c.self.inside.links c.free_from.new.links (h.size ∙ c.deref_mut.ensures.len)) c.self.view_is c.self.invariant
    c.requires.untyped c.requires.lawful
    h).kept

pub returns : goal.returns
returns g c =
    let h = c.free_from.ensures in
    let b = freed_call g.P.Profile.profile c.self.inside.links.items c.deref_mut.result.now c.free_from.new.links _ (place_in c.self.inside.first) (place_in c.self.inside.last) c.args.slot.place c.args.free c.args.self.now
    c.deref_mut.ensures.value (with_items_is c.self.inside.links c.free_from.new.links (h.size ∙ c.deref_mut.ensures.len)) c.self.view_is c.self.invariant
    c.requires.untyped c.requires.lawful
    h in
    record { list = b.list; forest = b.forest; memory = b.memory }
