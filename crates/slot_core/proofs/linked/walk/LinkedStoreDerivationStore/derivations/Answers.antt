use Rattle.std.proofs.Common.{◌≡◌, ℕ, suc, ◌+◌, ◌-◌, List, [], ◌∷◌, ◌++◌, length, Some, None, sym, ◌∙◌, ap, arith, rules}
use Rattle.std.specs.Prelude.{slice_get}
use Rattle.kernel_forest.specs.Marked.{is_parent}
use Rattle.kernel_forest.proofs.Trees.Parented.{still_above}
use Rattle.slot_core.specs.Walks.{stack_of}
use Rattle.kernel_forest.specs.Marked.{Marked, forest_of}
use Rattle.slot_core.specs.declared.slot.Slot.{Slot}
use Rattle.slot_core.specs.declared.derivations.Derivation.{Derivation}
use Rattle.slot_core.specs.declared.linked.table.Link.{Link}
use Rattle.kernel_forest.specs.Entries.{derivations_of}
use Rattle.slot_core.specs.Links.{link_at, place_in, unplaced}
use Rattle.slot_core.proofs.LinkedStores.Walked.{found_on, found_all, goes_on, ended, all_found}
use Rattle.slot_core.proofs.linked.walk.LinkedStoreDerivationStore.derivations.Goals as goal

pub returns-in_default : goal.returns-in_default
returns-in_default g c =
    let p = g.P.Profile.profile in
    let links = c.self.inside.links.items in
    let none : c.loop.here ≡ None = search rules in
    sym (ended p links c.loop.found.items c.loop.above.items (length links - c.loop.counter))
    ∙ ap (found_on p links c.loop.found.items c.loop.above.items (length links - c.loop.counter)) (sym none)
    ∙ c.loop.invariant
    ∙ found_all p links (place_in c.self.inside.first)
    ∙ ap (λ (v : List Marked × ℕ). derivations_of (forest_of p v.0)) c.self.view_is

pub loop-preserved : goal.loop-preserved
loop-preserved g c =
    let p = g.P.Profile.profile in
    let links = c.self.inside.links.items in
    let slot = c.in-Some.slot in
    let e : c.row-link.result ≡ link_at links slot.place = c.row-link.ensures ∙ ap (λ (m : List Link). link_at m slot.place) c.deref.ensures.value in
    let d = c.deref-in-loop.ensures.value in
    let stays : stack_of links c.leave.new.above.items ≡ still_above (is_parent p) (unplaced (link_at links slot.place)) (stack_of links c.loop.above.items) =
    ap (λ (m : List Link). stack_of m c.leave.new.above.items) (sym d) ∙ c.leave.ensures
    ∙ ap (λ (m : List Link). still_above (is_parent p) (unplaced c.row-link.result) (stack_of m c.loop.above.items)) d
    ∙ ap (λ (x : Link). still_above (is_parent p) (unplaced x) (stack_of links c.loop.above.items)) e in
    let top : c.copied.result ≡ slice_get c.leave.new.above.items (length c.leave.new.above.items - 1) =
    c.copied.ensures ∙ c.last.ensures.value ∙ ap (λ (m : List Slot). slice_get m (length m - 1)) c.deref-in-loop-2.ensures.value in
    let fuel : suc (length links - (c.loop.counter + 1)) ≡ length links - c.loop.counter = omega arith in
    ap (λ (m : List Derivation). found_on p links m c.push-in-loop.new.self.items (length links - (c.loop.counter + 1)) c.row-link.result.next) c.in_ok-push.ensures.items
    ∙ ap (λ (m : List Slot). found_on p links (c.loop.found.items ++ record { slot = slot; cap = c.row-link.result.cap; original = c.row-link.result.revocable; parent = c.copied.result } ∷ []) m (length links - (c.loop.counter + 1)) c.row-link.result.next) c.in_ok-push-2.ensures.items
    ∙ ap (λ (x : Link). found_on p links (c.loop.found.items ++ record { slot = slot; cap = x.cap; original = x.revocable; parent = c.copied.result } ∷ []) (c.leave.new.above.items ++ slot ∷ []) (length links - (c.loop.counter + 1)) x.next) e
    ∙ goes_on p links c.loop.found.items c.loop.above.items c.leave.new.above.items slot (length links - (c.loop.counter + 1)) c.copied.result stays top
    ∙ ap (λ (n : ℕ). found_on p links c.loop.found.items c.loop.above.items n (Some slot)) fuel
    ∙ ap (found_on p links c.loop.found.items c.loop.above.items (length links - c.loop.counter)) (sym c.in-Some.is)
    ∙ c.loop.invariant

pub returns : goal.returns
returns g c =
    let p = g.P.Profile.profile in
    let links = c.self.inside.links.items in
    let over : 0 ≡ length links - c.loop.counter = omega arith in
    sym (all_found p links c.loop.found.items c.loop.above.items c.loop.here)
    ∙ ap (λ (n : ℕ). found_on p links c.loop.found.items c.loop.above.items n c.loop.here) over
    ∙ c.loop.invariant
    ∙ found_all p links (place_in c.self.inside.first)
    ∙ ap (λ (v : List Marked × ℕ). derivations_of (forest_of p v.0)) c.self.view_is
