use Rattle.std.proofs.Common.{ℕ, Bool, true, false, List, sym, ◌∙◌, ap}
use Rattle.std.specs.Prelude.{option_map}
use Rattle.slot_core.specs.declared.linked.table.Link.{Link}
use Rattle.kernel_forest.specs.Entries.{first_child}
use Rattle.slot_core.specs.Places.{address_of}
use Rattle.kernel_forest.specs.Marked.{Marked, marked, is_parent, forest_of}
use Rattle.slot_core.specs.Links.{place_in, link_at}
use Rattle.slot_core.proofs.LinkedStores.LinkedReads.{child_none, child_next}
use Rattle.slot_core.proofs.linked.LinkedStoreCapStore.first_child.Goals as goal

pub returns-in_err-next : goal.returns-in_err-next
returns-in_err-next g c =
    let p = g.P.Profile.profile in
    let l = c.self.inside.links.items in
    let e = c.row-link.ensures ∙ ap (λ (m : List Link). link_at m c.args.slot.place) c.deref.ensures.value in
    ap (option_map (address_of p)) c.from_residual.ensures
    ∙ sym (child_none p l (place_in c.self.inside.first) (place_in c.self.inside.last) c.args.slot.place c.self.invariant (ap (λ (x : Link). place_in x.next) (sym e) ∙ ap place_in c.in_err-next.was))
    ∙ ap (λ (v : List Marked × ℕ). first_child (address_of p c.args.slot) (forest_of p v.0)) c.self.view_is

pub returns-then-is_parent : goal.returns-then-is_parent
returns-then-is_parent g c =
    let p = g.P.Profile.profile in
    let l = c.self.inside.links.items in
    let e = c.row-link.ensures ∙ ap (λ (m : List Link). link_at m c.args.slot.place) c.deref.ensures.value in
    let e' = c.row.ensures ∙ ap (λ (m : List Link). link_at m c.in_ok-next.next.place) c.deref-2.ensures.value in
    let f : Link → Link → Bool = λ a b. is_parent p (marked 0 a.cap a.revocable a.first_badged) (marked 0 b.cap b.revocable b.first_badged) in
    sym (child_next p l (place_in c.self.inside.first) (place_in c.self.inside.last) c.args.slot.place c.in_ok-next.next.place true c.self.invariant
    (ap (λ (x : Link). place_in x.next) (sym e) ∙ ap place_in c.in_ok-next.was)
    (sym (ap (λ (a : Link). f a c.row.result) e ∙ ap (f (link_at l c.args.slot.place)) e') ∙ sym c.is_parent.ensures ∙ c.if-is_parent.true))
    ∙ ap (λ (v : List Marked × ℕ). first_child (address_of p c.args.slot) (forest_of p v.0)) c.self.view_is

pub returns-else-is_parent : goal.returns-else-is_parent
returns-else-is_parent g c =
    let p = g.P.Profile.profile in
    let l = c.self.inside.links.items in
    let e = c.row-link.ensures ∙ ap (λ (m : List Link). link_at m c.args.slot.place) c.deref.ensures.value in
    let e' = c.row.ensures ∙ ap (λ (m : List Link). link_at m c.in_ok-next.next.place) c.deref-2.ensures.value in
    let f : Link → Link → Bool = λ a b. is_parent p (marked 0 a.cap a.revocable a.first_badged) (marked 0 b.cap b.revocable b.first_badged) in
    sym (child_next p l (place_in c.self.inside.first) (place_in c.self.inside.last) c.args.slot.place c.in_ok-next.next.place false c.self.invariant
    (ap (λ (x : Link). place_in x.next) (sym e) ∙ ap place_in c.in_ok-next.was)
    (sym (ap (λ (a : Link). f a c.row.result) e ∙ ap (f (link_at l c.args.slot.place)) e') ∙ sym c.is_parent.ensures ∙ c.if-is_parent.false))
    ∙ ap (λ (v : List Marked × ℕ). first_child (address_of p c.args.slot) (forest_of p v.0)) c.self.view_is
