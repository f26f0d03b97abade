-- The proof of `make_objects`: the goals that a search leaves open.
use Rattle.std.proofs.Common.{ℕ, ◌≡◌, ◌<◌, ◌+◌, ◌*◌, ◌^◌, List, sym, ap, subst, ◌∙◌, arith}
use Rattle.cap_core.specs.declared.capability.Cap.{Cap}
use Rattle.cap_core.specs.Numbers.{slot_size}
use Rattle.cap_core.specs.Objects.{IsLawful}
use Rattle.kernel_forest.specs.Forest.{Forest}
use Rattle.kernel_forest.specs.Entries.{Entry, cap_at}
use Rattle.kernel_forest.specs.Derivation.{freed, with_free}
use Rattle.kernel_abstract.specs.Retyping.{with_new}
use Rattle.kernel_abstract.proofs.Retype.PutInOrder.{CanMake}
use Rattle.kernel_abstract.proofs.Retype.RetypedForest.{freed_lawful, can_make}
use Rattle.kernel_abstract.proofs.Capabilities.PutObjects.{untyped_placed, untyped_end, first_aligned, slot_within_word, object_word, first_slot_at, puts_from, puts_start, put_new_next}
use Rattle.kernel_core.proofs.objects.make_objects.Goals as goal

pub of_node-untyped-requires-clause-aligned : goal.of_node-untyped-requires-clause-aligned
of_node-untyped-requires-clause-aligned g c =
    (untyped_placed g.P.Profile.profile (g.S.CapStore.memory_bits c.args.store.now) (g.S.CapStore.forest c.args.store.now) c.args.new c.requires.retype c.requires.store.memory_most c.requires.store.slots_placed).aligned

pub of_node-untyped-requires-clause-end : goal.of_node-untyped-requires-clause-end
of_node-untyped-requires-clause-end g c =
    untyped_end g.P.Profile.profile (g.S.CapStore.memory_bits c.args.store.now) (g.S.CapStore.forest c.args.store.now) c.args.new c.requires.retype c.requires.store.memory_most c.requires.store.slots_placed

pub set_free-requires-clause-lawful : goal.set_free-requires-clause-lawful
set_free-requires-clause-lawful g c =
    let at : c.of_node-untyped.result.place * slot_size g.P.Profile.profile ≡ c.args.new.untyped = first_slot_at (c.of_node-untyped.result.place * slot_size g.P.Profile.profile) c.args.new.untyped (slot_size g.P.Profile.profile) c.of_node-untyped.ensures in
    subst (λ (n : ℕ). IsLawful g.P.Profile.profile (g.S.CapStore.memory_bits c.args.store.now) (with_free c.args.new.placed.free (cap_at (g.S.CapStore.forest c.args.store.now) n))) (sym at)
    (freed_lawful g.P.Profile.profile (g.S.CapStore.forest c.args.store.now) c.args.new c.requires.retype (g.S.CapStore.memory_bits c.args.store.now) c.requires.store.lawful)

pub loop-i-init : goal.loop-i-init
loop-i-init g c =
    let p = g.P.Profile.profile in
    let f : Forest Entry = g.S.CapStore.forest c.args.store.now in
    let new = c.args.new in
    let memory : ℕ = g.S.CapStore.memory_bits c.args.store.now in
    let at : c.of_node-untyped.result.place * slot_size p ≡ new.untyped = first_slot_at (c.of_node-untyped.result.place * slot_size g.P.Profile.profile) c.args.new.untyped (slot_size g.P.Profile.profile) c.of_node-untyped.ensures in
    let set : g.S.CapStore.forest c.set_free.new.self ≡ freed new.untyped new.placed.free f = c.set_free.ensures.forest ∙ ap (λ (n : ℕ). freed n new.placed.free f) at in
    record {
      memory = c.set_free.ensures.memory;
      parent = at;
      can = subst (λ (F : Forest Entry). CanMake p memory new.untyped (puts_from p new 0) F) (sym set)
          (subst (λ (l : List (ℕ × Cap)). CanMake p memory new.untyped l (freed new.untyped new.placed.free f)) (sym (puts_start p new))
          (can_make p f new c.requires.retype memory c.requires.store.regions c.requires.store.disjoint c.requires.store.slots_distinct c.requires.store.lawful));
      gives = ap (λ (F : Forest Entry). with_new new.untyped (puts_from p new 0) F) set ∙ ap (λ (l : List (ℕ × Cap)). with_new new.untyped l (freed new.untyped new.placed.free f)) (puts_start p new);
    }

pub overflow_mul-i : goal.overflow_mul-i
overflow_mul-i g c =
    let b = object_word g.P.Profile.profile (g.S.CapStore.memory_bits c.args.store.now) (g.S.CapStore.forest c.args.store.now) c.args.new c.requires.retype c.requires.store.memory_most c.requires.store.lawful c.loop-i.i c.loop-i-test.true in
    omega arith

pub overflow_add-new : goal.overflow_add-new
overflow_add-new g c =
    let b = object_word g.P.Profile.profile (g.S.CapStore.memory_bits c.args.store.now) (g.S.CapStore.forest c.args.store.now) c.args.new c.requires.retype c.requires.store.memory_most c.requires.store.lawful c.loop-i.i c.loop-i-test.true in
    omega arith

pub of_node-requires-clause-aligned : goal.of_node-requires-clause-aligned
of_node-requires-clause-aligned g c =
    first_aligned g.P.Profile.profile (g.S.CapStore.memory_bits c.args.store.now) (g.S.CapStore.forest c.args.store.now) c.args.new c.requires.retype c.requires.store.memory_most c.requires.store.lawful

pub of_node-requires-clause-end : goal.of_node-requires-clause-end
of_node-requires-clause-end g c =
    slot_within_word g.P.Profile.profile (g.S.CapStore.memory_bits c.args.store.now) (g.S.CapStore.forest c.args.store.now) c.args.new c.requires.retype c.requires.store.memory_most c.requires.store.lawful c.loop-i.i c.loop-i-test.true

pub put_new-requires-clause-contains : goal.put_new-requires-clause-contains
put_new-requires-clause-contains g c = (put_new_next g.P.Profile.profile (g.S.CapStore.memory_bits c.args.store.now) (c.of_node-untyped.result.place * slot_size g.P.Profile.profile) (c.of_node.result.place * slot_size g.P.Profile.profile) c.loop-i.i c.fresh-cap.result c.args.new (g.S.CapStore.forest c.loop-i.store) c.loop-i-test.true c.loop-i.invariant.parent c.of_node.ensures c.fresh-cap.ensures.value c.loop-i.invariant.can).0.contains_is

pub put_new-requires-clause-within : goal.put_new-requires-clause-within
put_new-requires-clause-within g c = subst (λ (m : ℕ). c.of_node.result.place * slot_size g.P.Profile.profile < 2 ^ m) (sym c.loop-i.invariant.memory) (put_new_next g.P.Profile.profile (g.S.CapStore.memory_bits c.args.store.now) (c.of_node-untyped.result.place * slot_size g.P.Profile.profile) (c.of_node.result.place * slot_size g.P.Profile.profile) c.loop-i.i c.fresh-cap.result c.args.new (g.S.CapStore.forest c.loop-i.store) c.loop-i-test.true c.loop-i.invariant.parent c.of_node.ensures c.fresh-cap.ensures.value c.loop-i.invariant.can).0.within

pub put_new-requires-clause-empty : goal.put_new-requires-clause-empty
put_new-requires-clause-empty g c = (put_new_next g.P.Profile.profile (g.S.CapStore.memory_bits c.args.store.now) (c.of_node-untyped.result.place * slot_size g.P.Profile.profile) (c.of_node.result.place * slot_size g.P.Profile.profile) c.loop-i.i c.fresh-cap.result c.args.new (g.S.CapStore.forest c.loop-i.store) c.loop-i-test.true c.loop-i.invariant.parent c.of_node.ensures c.fresh-cap.ensures.value c.loop-i.invariant.can).0.empty

pub put_new-requires-clause-lawful : goal.put_new-requires-clause-lawful
put_new-requires-clause-lawful g c = subst (λ (m : ℕ). IsLawful g.P.Profile.profile m c.fresh-cap.result) (sym c.loop-i.invariant.memory) (put_new_next g.P.Profile.profile (g.S.CapStore.memory_bits c.args.store.now) (c.of_node-untyped.result.place * slot_size g.P.Profile.profile) (c.of_node.result.place * slot_size g.P.Profile.profile) c.loop-i.i c.fresh-cap.result c.args.new (g.S.CapStore.forest c.loop-i.store) c.loop-i-test.true c.loop-i.invariant.parent c.of_node.ensures c.fresh-cap.ensures.value c.loop-i.invariant.can).0.lawful

pub put_new-requires-clause-unnamed : goal.put_new-requires-clause-unnamed
put_new-requires-clause-unnamed g c = (put_new_next g.P.Profile.profile (g.S.CapStore.memory_bits c.args.store.now) (c.of_node-untyped.result.place * slot_size g.P.Profile.profile) (c.of_node.result.place * slot_size g.P.Profile.profile) c.loop-i.i c.fresh-cap.result c.args.new (g.S.CapStore.forest c.loop-i.store) c.loop-i-test.true c.loop-i.invariant.parent c.of_node.ensures c.fresh-cap.ensures.value c.loop-i.invariant.can).0.unnamed

pub put_new-requires-clause-disjoint : goal.put_new-requires-clause-disjoint
put_new-requires-clause-disjoint g c = (put_new_next g.P.Profile.profile (g.S.CapStore.memory_bits c.args.store.now) (c.of_node-untyped.result.place * slot_size g.P.Profile.profile) (c.of_node.result.place * slot_size g.P.Profile.profile) c.loop-i.i c.fresh-cap.result c.args.new (g.S.CapStore.forest c.loop-i.store) c.loop-i-test.true c.loop-i.invariant.parent c.of_node.ensures c.fresh-cap.ensures.value c.loop-i.invariant.can).0.disjoint

pub loop-i-preserved : goal.loop-i-preserved
loop-i-preserved g c =
    let p = g.P.Profile.profile in
    let new = c.args.new in
    let memory : ℕ = g.S.CapStore.memory_bits c.args.store.now in
    let next = (put_new_next g.P.Profile.profile (g.S.CapStore.memory_bits c.args.store.now) (c.of_node-untyped.result.place * slot_size g.P.Profile.profile) (c.of_node.result.place * slot_size g.P.Profile.profile) c.loop-i.i c.fresh-cap.result c.args.new (g.S.CapStore.forest c.loop-i.store) c.loop-i-test.true c.loop-i.invariant.parent c.of_node.ensures c.fresh-cap.ensures.value c.loop-i.invariant.can) in
    record {
      memory = c.put_new.ensures.memory ∙ c.loop-i.invariant.memory;
      parent = c.loop-i.invariant.parent;
      can = subst (λ (F : Forest Entry). CanMake p memory new.untyped (puts_from p new (c.loop-i.i + 1)) F) (sym c.put_new.ensures.forest) next.1;
      gives = ap (λ (F : Forest Entry). with_new new.untyped (puts_from p new (c.loop-i.i + 1)) F) c.put_new.ensures.forest ∙ next.2 ∙ c.loop-i.invariant.gives;
    }
