use Rattle.std.proofs.Common.{◌≡◌, ℕ, ◌-◌, ◌≤◌, true, sym, ◌∙◌, ap, subst}
use Rattle.cap_core.specs.declared.capability.Cap.{Cap}
use Rattle.cap_core.specs.Objects.{is_untyped, end_of, base_of}
use Rattle.kernel_forest.specs.Forest.{Forest}
use Rattle.kernel_forest.specs.Entries.{Entry, cap_at}
use Rattle.slot_core.specs.Places.{address_of}
use Rattle.test_parts.specs.TestForests.{IsTestForest}
use Rattle.test_parts.proofs.KeptForests.{kept_freed, lawful_at, untyped_full, lawful-freed}
use Rattle.test_parts.proofs.slots.calls.set_free.Goals as goal

pub returns-clause-forest : goal.returns-clause-forest
returns-clause-forest g c =
    let p = g.P.Profile.profile in
    let f = g.S.CapStore.forest c.args.store.now in
    let a = address_of p c.slot-at.result in
    let t : is_untyped (cap_at f a) ≡ true = ap is_untyped (sym c.get-cap.ensures.cap) ∙ sym c.is_untyped.ensures ∙ c.if-not-is_untyped.false in
    let E : ℕ → Type 0 = λ n. c.args.free ≤ n - c.base.result in
    let B : ℕ → Type 0 = λ n. c.args.free ≤ end_of p c.get-cap.result - n in
    let L : Cap → Type 0 = λ k. c.args.free ≤ end_of p k - base_of k in
    let l : c.args.free ≤ end_of p (cap_at f a) - base_of (cap_at f a) = subst L c.get-cap.ensures.cap (subst B c.base.ensures (subst E c.end.ensures c.if-end-base.false)) in
    let Q : Forest Entry → Type 0 = IsTestForest p in
    subst Q (sym c.set_free.ensures.forest)
    (kept_freed p a c.args.free f c.requires.forest (lawful-freed p c.args.free (cap_at f a) t (lawful_at p a f c.requires.forest (untyped_full (cap_at f a) t)) l))
