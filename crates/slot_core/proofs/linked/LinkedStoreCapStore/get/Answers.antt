use Rattle.std.proofs.Common.{ℕ, List, ◌⊎◌, ◌≡◌, ◌≤◌, ◌^◌, sym, ◌∙◌, ap, subst}
use Rattle.cap_core.specs.declared.capability.Cap.{Cap}
use Rattle.cap_core.specs.declared.capability.Cap.TheVariants.{Null}
use Rattle.cap_core.specs.Objects.{IsLawful}
use Rattle.slot_core.specs.declared.linked.table.Link.{Link}
use Rattle.kernel_forest.specs.Entries.{cap_at}
use Rattle.slot_core.specs.Places.{address_of}
use Rattle.kernel_forest.specs.Marked.{Marked, forest_of}
use Rattle.slot_core.specs.Links.{place_in, link_at}
use Rattle.slot_core.proofs.LinkedStores.LinkedReads.{cap_read, lawful_read, past_read}
use Rattle.slot_core.proofs.linked.LinkedStoreCapStore.get.Goals as goal

pub returns-clause-cap : goal.returns-clause-cap
returns-clause-cap g c =
    let p = g.P.Profile.profile in
    ap (λ (l : Link). l.cap) (c.row.ensures ∙ ap (λ (m : List Link). link_at m c.args.slot.place) c.deref.ensures.value)
    ∙ cap_read p c.self.inside.links.items (place_in c.self.inside.first) (place_in c.self.inside.last) c.args.slot.place c.self.invariant
    ∙ ap (λ (v : List Marked × ℕ). cap_at (forest_of p v.0) (address_of p c.args.slot)) c.self.view_is

pub returns-clause-lawful : goal.returns-clause-lawful
returns-clause-lawful g c =
    let p = g.P.Profile.profile in
    let e = ap (λ (l : Link). l.cap) (c.row.ensures ∙ ap (λ (m : List Link). link_at m c.args.slot.place) c.deref.ensures.value) in
    let P : Cap → Type 0 = λ a. (a ≡ Null) ⊎ IsLawful p c.args.self.now.1 a in
    let Q : List Marked × ℕ → Type 0 = λ v. ((link_at c.self.inside.links.items c.args.slot.place).cap ≡ Null) ⊎ IsLawful p v.1 (link_at c.self.inside.links.items c.args.slot.place).cap in
    subst P (sym e) (subst Q c.self.view_is (lawful_read p c.self.inside.links.items (place_in c.self.inside.first) (place_in c.self.inside.last) c.args.slot.place c.self.invariant))

pub returns-clause-past : goal.returns-clause-past
returns-clause-past g c h =
    let p = g.P.Profile.profile in
    let P : List Marked × ℕ → Type 0 = λ v. 2 ^ v.1 ≤ address_of p c.args.slot in
    ap (λ (l : Link). l.cap) (c.row.ensures ∙ ap (λ (m : List Link). link_at m c.args.slot.place) c.deref.ensures.value)
    ∙ past_read p c.self.inside.links.items (place_in c.self.inside.first) (place_in c.self.inside.last) c.args.slot.place c.self.invariant (subst P (sym c.self.view_is) h)
