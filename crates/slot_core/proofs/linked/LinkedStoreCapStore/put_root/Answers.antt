use Rattle.std.proofs.Common.{◌∙◌, sym}
use Rattle.std.proofs.lemmas.List.{with_items_is}
use Rattle.std.proofs.Common.{List, length, IfSome, subst, ◌<◌}
use Rattle.slot_core.specs.declared.linked.table.Link.{Link}
use Rattle.slot_core.specs.Links.{place_in}
use Rattle.slot_core.proofs.LinkedStores.LinkedCalls.{rooted_call}
use Rattle.slot_core.proofs.LinkedStores.LinkedSteps.{last_within}
use Rattle.slot_core.proofs.linked.LinkedStoreCapStore.put_root.Goals as goal

pub append-requires-clause-last_in : goal.append-requires-clause-last_in
append-requires-clause-last_in g c =
    let Q : List Link → Type 0 = λ m. IfSome (place_in c.self.inside.last) (λ n. n < length m) in
    subst Q (sym c.deref_mut.ensures.value) (last_within g.P.Profile.profile c.self.inside.links.items (place_in c.self.inside.first) (place_in c.self.inside.last) c.self.invariant)

pub invariant_of-self : goal.invariant_of-self
invariant_of-self g c =
    let h = c.append.ensures in
    (rooted_call g.P.Profile.profile c.self.inside.links.items c.deref_mut.result.now c.append.new.links _ (place_in c.self.inside.first) (place_in c.append.new.first) (place_in c.self.inside.last) (place_in c.append.new.last) c.args.slot.place c.args.cap c.args.self.now
    c.deref_mut.ensures.value (with_items_is c.self.inside.links c.append.new.links (h.size ∙ c.deref_mut.ensures.len)) c.self.view_is c.self.invariant
    c.requires.within c.requires.empty c.requires.lawful c.requires.unnamed c.requires.disjoint
    h).kept

pub returns : goal.returns
returns g c =
    let h = c.append.ensures in
    let b = rooted_call g.P.Profile.profile c.self.inside.links.items c.deref_mut.result.now c.append.new.links _ (place_in c.self.inside.first) (place_in c.append.new.first) (place_in c.self.inside.last) (place_in c.append.new.last) c.args.slot.place c.args.cap c.args.self.now
    c.deref_mut.ensures.value (with_items_is c.self.inside.links c.append.new.links (h.size ∙ c.deref_mut.ensures.len)) c.self.view_is c.self.invariant
    c.requires.within c.requires.empty c.requires.lawful c.requires.unnamed c.requires.disjoint
    h in
    record { list = b.list; forest = b.forest; memory = b.memory }
