-- The proof of `put_all`: the goals that a search leaves open.
use Rattle.std.proofs.Common.{◌≡◌, ◌+◌, ◌*◌, get_or, refl, ◌∙◌, ap, arith}
use Rattle.cap_core.specs.declared.capability.Cap.TheVariants.{Null}
use Rattle.cap_core.specs.Numbers.{slot_size}
use Rattle.kernel_abstract.specs.Boot.{boot_caps, with_roots}
use Rattle.kernel_abstract.proofs.Boot.Puts.{put_next}
use Rattle.kernel_abstract.proofs.Boot.Places.{can_put}
use Rattle.kernel_boot.proofs.store.put_all.Goals as goal

pub loop-i-init : goal.loop-i-init
loop-i-init g c =
    record {
      memory = c.requires.memory;
      can = rw (c.requires.caps, c.requires.empty) (can_put g.P.Profile.profile c.args.plan.now c.requires.plan);
      gives = ap (λ l. with_roots g.P.Profile.profile 1 l (g.S.CapStore.forest c.args.store.now)) c.requires.caps ∙ ap (with_roots g.P.Profile.profile 1 (boot_caps g.P.Profile.profile c.args.plan.now)) c.requires.empty;
    }

pub put_root-requires-clause-empty : goal.put_root-requires-clause-empty
put_root-requires-clause-empty g c =
    (put_next g.P.Profile.profile c.args.plan.now.memory_bits c.loop-i.i (c.of_node.result.place * slot_size g.P.Profile.profile) c.args.caps.now (get_or c.args.caps.now c.loop-i.i Null) Null (g.S.CapStore.forest c.loop-i.store) (omega arith) refl (c.of_node.ensures ∙ (let e : 0 + (c.loop-i.i + 1) * slot_size g.P.Profile.profile ≡ (c.loop-i.i + 1) * slot_size g.P.Profile.profile = omega arith in e)) c.loop-i.invariant.can).0.empty

pub put_root-requires-clause-unnamed : goal.put_root-requires-clause-unnamed
put_root-requires-clause-unnamed g c =
    (put_next g.P.Profile.profile c.args.plan.now.memory_bits c.loop-i.i (c.of_node.result.place * slot_size g.P.Profile.profile) c.args.caps.now (get_or c.args.caps.now c.loop-i.i Null) Null (g.S.CapStore.forest c.loop-i.store) (omega arith) refl (c.of_node.ensures ∙ (let e : 0 + (c.loop-i.i + 1) * slot_size g.P.Profile.profile ≡ (c.loop-i.i + 1) * slot_size g.P.Profile.profile = omega arith in e)) c.loop-i.invariant.can).0.unnamed

pub put_root-requires-clause-disjoint : goal.put_root-requires-clause-disjoint
put_root-requires-clause-disjoint g c =
    (put_next g.P.Profile.profile c.args.plan.now.memory_bits c.loop-i.i (c.of_node.result.place * slot_size g.P.Profile.profile) c.args.caps.now (get_or c.args.caps.now c.loop-i.i Null) Null (g.S.CapStore.forest c.loop-i.store) (omega arith) refl (c.of_node.ensures ∙ (let e : 0 + (c.loop-i.i + 1) * slot_size g.P.Profile.profile ≡ (c.loop-i.i + 1) * slot_size g.P.Profile.profile = omega arith in e)) c.loop-i.invariant.can).0.disjoint

pub loop-i-preserved : goal.loop-i-preserved
loop-i-preserved g c =
    let next = put_next g.P.Profile.profile c.args.plan.now.memory_bits c.loop-i.i (c.of_node.result.place * slot_size g.P.Profile.profile) c.args.caps.now (get_or c.args.caps.now c.loop-i.i Null) Null (g.S.CapStore.forest c.loop-i.store) (omega arith) refl (c.of_node.ensures ∙ (let e : 0 + (c.loop-i.i + 1) * slot_size g.P.Profile.profile ≡ (c.loop-i.i + 1) * slot_size g.P.Profile.profile = omega arith in e)) c.loop-i.invariant.can in
    record {
      memory = c.put_root.ensures.memory ∙ c.loop-i.invariant.memory;
      can = rw c.put_root.ensures.forest next.1;
      gives = rw c.put_root.ensures.forest (next.2 ∙ c.loop-i.invariant.gives);
    }
