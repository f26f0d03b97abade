use Rattle.std.proofs.Common.{ℕ, List, None, ◌∙◌, ap}
use Rattle.slot_core.specs.declared.linked.table.Link.{Link}
use Rattle.slot_core.specs.Links.{place_in, link_at}
use Rattle.kernel_forest.specs.Marked.{Marked, row_in, previous_in, next_in}
use Rattle.slot_core.proofs.LinkedStores.LinkedRows.{link_read}
use Rattle.slot_core.proofs.linked.LinkedStore.link.Goals as goal

pub returns-clause-cap : goal.returns-clause-cap
returns-clause-cap g c =
    ap (λ (l : Link). l.cap) (c.row.ensures ∙ ap (λ (m : List Link). link_at m c.args.slot.place) c.deref.ensures.value)
    ∙ ap (λ (r : Marked). r.cap) (link_read g.P.Profile.profile c.self.inside.links.items (place_in c.self.inside.first) (place_in c.self.inside.last) c.args.slot.place c.self.invariant).row
    ∙ ap (λ (v : List Marked × ℕ). (row_in c.args.slot.place v.0).cap) c.self.view_is

pub returns-clause-revocable : goal.returns-clause-revocable
returns-clause-revocable g c =
    ap (λ (l : Link). l.revocable) (c.row.ensures ∙ ap (λ (m : List Link). link_at m c.args.slot.place) c.deref.ensures.value)
    ∙ ap (λ (r : Marked). r.revocable) (link_read g.P.Profile.profile c.self.inside.links.items (place_in c.self.inside.first) (place_in c.self.inside.last) c.args.slot.place c.self.invariant).row
    ∙ ap (λ (v : List Marked × ℕ). (row_in c.args.slot.place v.0).revocable) c.self.view_is

pub returns-clause-first_badged : goal.returns-clause-first_badged
returns-clause-first_badged g c =
    ap (λ (l : Link). l.first_badged) (c.row.ensures ∙ ap (λ (m : List Link). link_at m c.args.slot.place) c.deref.ensures.value)
    ∙ ap (λ (r : Marked). r.first_badged) (link_read g.P.Profile.profile c.self.inside.links.items (place_in c.self.inside.first) (place_in c.self.inside.last) c.args.slot.place c.self.invariant).row
    ∙ ap (λ (v : List Marked × ℕ). (row_in c.args.slot.place v.0).first_badged) c.self.view_is

pub returns-clause-previous : goal.returns-clause-previous
returns-clause-previous g c =
    ap (λ (l : Link). place_in l.previous) (c.row.ensures ∙ ap (λ (m : List Link). link_at m c.args.slot.place) c.deref.ensures.value)
    ∙ (link_read g.P.Profile.profile c.self.inside.links.items (place_in c.self.inside.first) (place_in c.self.inside.last) c.args.slot.place c.self.invariant).previous
    ∙ ap (λ (v : List Marked × ℕ). previous_in c.args.slot.place None v.0) c.self.view_is

pub returns-clause-next : goal.returns-clause-next
returns-clause-next g c =
    ap (λ (l : Link). place_in l.next) (c.row.ensures ∙ ap (λ (m : List Link). link_at m c.args.slot.place) c.deref.ensures.value)
    ∙ (link_read g.P.Profile.profile c.self.inside.links.items (place_in c.self.inside.first) (place_in c.self.inside.last) c.args.slot.place c.self.invariant).next
    ∙ ap (λ (v : List Marked × ℕ). next_in c.args.slot.place v.0) c.self.view_is
