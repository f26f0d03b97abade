use Rattle.std.proofs.Common.{◌≡◌, ℕ, Bool, List, true, sym, ◌∙◌, ap, subst}
use Rattle.cap_core.specs.declared.capability.Cap.{Cap}
use Rattle.kernel_forest.specs.Forest.{preorder}
use Rattle.kernel_forest.specs.Entries.{is_at}
use Rattle.slot_core.specs.Places.{address_of}
use Rattle.kernel_delete.specs.Members.{AreDistinct, AreBelow}
use Rattle.kernel_forest.specs.Slots.{slots_of}
use Rattle.kernel_delete.specs.Work.{ends}
use Rattle.kernel_delete.proofs.Lookups.{out_absent}
use Rattle.kernel_delete.proofs.Ranges.{below_left}
use Rattle.kernel_delete.proofs.Steps.{full_here, empty_here, ends_here, list_ends, none_end, one_ends, no_end_empty, no_end_other}
use Rattle.kernel_delete.proofs.deletion.clear_one.Goals as goal

pub returns-in-Null-clause-forest : goal.returns-in-Null-clause-forest
returns-in-Null-clause-forest g c =
    let f = g.S.CapStore.forest c.args.store.now in
    let n = address_of g.P.Profile.profile c.args.slot in
    sym (out_absent (is_at n) f (empty_here (preorder f) n c.get-cap.result c.get-cap.ensures.cap c.in-Null.is c.requires.no_null))

pub returns-in-Null-clause-ended : goal.returns-in-Null-clause-ended
returns-in-Null-clause-ended g c =
    let l = preorder (g.S.CapStore.forest c.args.store.now) in
    let n = address_of g.P.Profile.profile c.args.slot in
    let P : (Cap → Bool) → Type 0 = λ q. g.F.Finalise.Ended q c.args.rest.now c.args.rest.now in
    subst P (none_end l n (no_end_empty l n (empty_here l n c.get-cap.result c.get-cap.ensures.cap c.in-Null.is c.requires.no_null))) (g.met.F.Finalise.none_ended c.args.rest.now)

pub is_last-ends-requires : goal.is_last-ends-requires
is_last-ends-requires g c = record { full = full_here (preorder (g.S.CapStore.forest c.args.store.now)) (address_of g.P.Profile.profile c.args.slot) c.get-cap.result c.get-cap.ensures.cap c.in_default.not-Null }

pub remove-requires : goal.remove-requires
remove-requires g c = record { full = full_here (preorder (g.S.CapStore.forest c.args.store.now)) (address_of g.P.Profile.profile c.args.slot) c.get-cap.result c.get-cap.ensures.cap c.in_default.not-Null }

pub push_slots-requires-clause-distinct : goal.push_slots-requires-clause-distinct
push_slots-requires-clause-distinct g c =
    let l = preorder (g.S.CapStore.forest c.args.store.now) in
    let n = address_of g.P.Profile.profile c.args.slot in
    let h : ends l n ≡ true = ends_here l n (full_here l n c.get-cap.result c.get-cap.ensures.cap c.in_default.not-Null) (sym c.is_last-ends.ensures ∙ c.if-ends.true) in
    subst AreDistinct (list_ends g.P.Profile.profile l n c.get-cap.result c.args.chain.now.0 h c.get-cap.ensures.cap) c.requires.distinct

pub push_slots-requires-clause-within : goal.push_slots-requires-clause-within
push_slots-requires-clause-within g c =
    let l = preorder (g.S.CapStore.forest c.args.store.now) in
    let n = address_of g.P.Profile.profile c.args.slot in
    let h : ends l n ≡ true = ends_here l n (full_here l n c.get-cap.result c.get-cap.ensures.cap c.in_default.not-Null) (sym c.is_last-ends.ensures ∙ c.if-ends.true) in
    let P : List ℕ → Type 0 = AreBelow c.args.chain.now.1 in
    below_left c.args.chain.now.1 (slots_of g.P.Profile.profile c.get-cap.result) c.args.chain.now.0
    (subst P (list_ends g.P.Profile.profile l n c.get-cap.result c.args.chain.now.0 h c.get-cap.ensures.cap) c.requires.within)

pub returns-then-ends-clause-ended : goal.returns-then-ends-clause-ended
returns-then-ends-clause-ended g c =
    let l = preorder (g.S.CapStore.forest c.args.store.now) in
    let n = address_of g.P.Profile.profile c.args.slot in
    let h : ends l n ≡ true = ends_here l n (full_here l n c.get-cap.result c.get-cap.ensures.cap c.in_default.not-Null) (sym c.is_last-ends.ensures ∙ c.if-ends.true) in
    let P : (Cap → Bool) → Type 0 = λ q. g.F.Finalise.Ended q c.args.rest.now c.finalise.new.self in
    subst P (one_ends l n c.get-cap.result h c.get-cap.ensures.cap) c.finalise.ensures

pub returns-then-ends-clause-chain : goal.returns-then-ends-clause-chain
returns-then-ends-clause-chain g c =
    let l = preorder (g.S.CapStore.forest c.args.store.now) in
    let n = address_of g.P.Profile.profile c.args.slot in
    let h : ends l n ≡ true = ends_here l n (full_here l n c.get-cap.result c.get-cap.ensures.cap c.in_default.not-Null) (sym c.is_last-ends.ensures ∙ c.if-ends.true) in
    let put : List ℕ → List ℕ × ℕ = λ q. (q, c.args.chain.now.1) in
    c.push_slots.ensures ∙ ap put (sym (list_ends g.P.Profile.profile l n c.get-cap.result c.args.chain.now.0 h c.get-cap.ensures.cap))

pub returns-else-ends-clause-ended : goal.returns-else-ends-clause-ended
returns-else-ends-clause-ended g c =
    let l = preorder (g.S.CapStore.forest c.args.store.now) in
    let n = address_of g.P.Profile.profile c.args.slot in
    let P : (Cap → Bool) → Type 0 = λ q. g.F.Finalise.Ended q c.args.rest.now c.args.rest.now in
    subst P (none_end l n (no_end_other l n (sym c.is_last-ends.ensures ∙ c.if-ends.false))) (g.met.F.Finalise.none_ended c.args.rest.now)
