use Rattle.std.proofs.Common.{ℕ, false, not, ◌||◌, List, ◌≡◌, sym, ◌∙◌, ap}
use Rattle.cap_core.specs.Objects.{is_untyped, same_object}
use Rattle.slot_core.specs.declared.linked.table.Link.{Link}
use Rattle.kernel_forest.specs.Derivation.{is_last}
use Rattle.slot_core.specs.Places.{address_of}
use Rattle.kernel_forest.specs.Marked.{Marked, forest_of}
use Rattle.slot_core.specs.Links.{place_in, link_at}
use Rattle.slot_core.proofs.RowStores.RowLists.{not_untyped}
use Rattle.slot_core.proofs.LinkedStores.LinkedReads.{last_read, last_untyped, last_before}
use Rattle.slot_core.proofs.LinkedStores.LinkedCalls.{found}
use Rattle.slot_core.proofs.linked.LinkedStoreCapStore.is_last.Goals as goal

pub returns-in-Untyped : goal.returns-in-Untyped
returns-in-Untyped g c =
    let p = g.P.Profile.profile in
    let l = c.self.inside.links.items in
    let e = c.row-link.ensures ∙ ap (λ (m : List Link). link_at m c.args.slot.place) c.deref.ensures.value in
    sym (last_untyped p l (place_in c.self.inside.first) (place_in c.self.inside.last) c.args.slot.place c.self.invariant (ap (λ (x : Link). is_untyped x.cap) (sym e) ∙ ap is_untyped c.in-Untyped.is))
    ∙ ap (λ (v : List Marked × ℕ). is_last (address_of p c.args.slot) (forest_of p v.0)) c.self.view_is

pub returns-then-not-names : goal.returns-then-not-names
returns-then-not-names g c =
    let p = g.P.Profile.profile in
    let l = c.self.inside.links.items in
    let n = c.args.slot.place in
    let e = c.row-link.ensures ∙ ap (λ (m : List Link). link_at m n) c.deref.ensures.value in
    let k : c.row-link.result.cap ≡ (link_at l n).cap = ap (λ (x : Link). x.cap) e in
    let u : is_untyped (link_at l n).cap ≡ false = ap (λ (x : Link). is_untyped x.cap) (sym e) ∙ not_untyped c.row-link.result.cap c.in_default.not-Untyped in
    ap (λ b. not (b || c.names-then-not-names.result)) (sym c.if-not-names.true)
    ∙ sym (last_read p l (place_in c.self.inside.first) (place_in c.self.inside.last) n c.names.result c.names-then-not-names.result
    (found p l (place_in c.self.inside.first) (place_in c.self.inside.last) n c.args.self.now c.self.view_is c.self.invariant c.requires.full) u
    (λ d h. c.names.ensures.some d (ap (λ (x : Link). place_in x.previous) e ∙ h) ∙ ap (λ (m : List Link). same_object (link_at m d).cap c.row-link.result.cap) c.deref-in_default.ensures.value ∙ ap (same_object (link_at l d).cap) k)
    (λ h. c.names.ensures.none (ap (λ (x : Link). place_in x.previous) e ∙ h))
    (λ d h. c.names-then-not-names.ensures.some d (ap (λ (x : Link). place_in x.next) e ∙ h) ∙ ap (λ (m : List Link). same_object (link_at m d).cap c.row-link.result.cap) c.deref-then-not-names.ensures.value ∙ ap (same_object (link_at l d).cap) k)
    (λ h. c.names-then-not-names.ensures.none (ap (λ (x : Link). place_in x.next) e ∙ h)))
    ∙ ap (λ (v : List Marked × ℕ). is_last (address_of p c.args.slot) (forest_of p v.0)) c.self.view_is

pub returns-else-not-names : goal.returns-else-not-names
returns-else-not-names g c =
    let p = g.P.Profile.profile in
    let l = c.self.inside.links.items in
    let n = c.args.slot.place in
    let e = c.row-link.ensures ∙ ap (λ (m : List Link). link_at m n) c.deref.ensures.value in
    let k : c.row-link.result.cap ≡ (link_at l n).cap = ap (λ (x : Link). x.cap) e in
    let u : is_untyped (link_at l n).cap ≡ false = ap (λ (x : Link). is_untyped x.cap) (sym e) ∙ not_untyped c.row-link.result.cap c.in_default.not-Untyped in
    ap not c.if-not-names.false
    ∙ sym (last_before p l (place_in c.self.inside.first) (place_in c.self.inside.last) n c.names.result
    (found p l (place_in c.self.inside.first) (place_in c.self.inside.last) n c.args.self.now c.self.view_is c.self.invariant c.requires.full) u
    (λ d h. c.names.ensures.some d (ap (λ (x : Link). place_in x.previous) e ∙ h) ∙ ap (λ (m : List Link). same_object (link_at m d).cap c.row-link.result.cap) c.deref-in_default.ensures.value ∙ ap (same_object (link_at l d).cap) k)
    (λ h. c.names.ensures.none (ap (λ (x : Link). place_in x.previous) e ∙ h))
    c.if-not-names.false)
    ∙ ap (λ (v : List Marked × ℕ). is_last (address_of p c.args.slot) (forest_of p v.0)) c.self.view_is
