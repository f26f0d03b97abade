use Rattle.std.proofs.Common.{◌≡◌, ℕ, ◌∷◌, [], Bool, length, refl, sym, ◌∙◌, ap, subst, arith}
use Rattle.cap_core.specs.declared.capability.Cap.{Cap}
use Rattle.kernel_forest.specs.Forest.{Forest, preorder, out}
use Rattle.kernel_forest.specs.Entries.{Entry, is_at}
use Rattle.slot_core.specs.Places.{address_of}
use Rattle.kernel_delete.specs.Members.{AreBelow}
use Rattle.kernel_delete.specs.Clear.{ended}
use Rattle.kernel_delete.specs.Work.{list_after}
use Rattle.kernel_delete.proofs.Midway.{midway-begin, midway-end, midway-step, midway-smaller, midway-no_null, midway-list, midway-forest, ended-none, weight}
use Rattle.kernel_delete.proofs.Steps.{ended_step}
use Rattle.kernel_delete.proofs.deletion.clear.Goals as goal

pub loop-next-init : goal.loop-next-init
loop-next-init g c =
    let p = g.P.Profile.profile in
    let f = g.S.CapStore.forest c.args.store.now in
    let s = address_of p c.args.slot in
    let e : c.push.new.self ≡ (s ∷ c.args.chain.now.0, c.args.chain.now.1) = c.push.ensures in
    let w : s ∷ [] ≡ c.push.new.self.0 = sym (ap (λ v. v.0) e ∙ ap (λ q. s ∷ q) c.requires.empty) in
    let P : (Cap → Bool) → Type 0 = λ q. g.F.Finalise.Ended q c.args.rest.now c.args.rest.now in
    record {
      midway = midway-list p f f s c.args.chain.now.1 (s ∷ []) c.push.new.self.0 w (midway-begin p f s c.args.chain.now.1 c.requires.within);
      told = subst P (ended-none (preorder f)) (g.met.F.Finalise.none_ended c.args.rest.now);
      size = ap (λ v. v.1) e;
      memory = refl;
    }

pub clear_one-requires-clause-no_null : goal.clear_one-requires-clause-no_null
clear_one-requires-clause-no_null g c =
    let p = g.P.Profile.profile in
    midway-no_null p (g.S.CapStore.forest c.args.store.now) (g.S.CapStore.forest c.loop-next.store) (address_of p c.args.slot) c.args.chain.now.1 (address_of p c.in-Some.next) c.loop-next.chain.0 c.requires.clearable c.loop-next.invariant.midway

pub clear_one-requires-clause-distinct : goal.clear_one-requires-clause-distinct
clear_one-requires-clause-distinct g c =
    let p = g.P.Profile.profile in
    let f = g.S.CapStore.forest c.args.store.now in
    let h = g.S.CapStore.forest c.loop-next.store in
    let s = address_of p c.args.slot in
    let n = address_of p c.in-Some.next in
    (midway-step p f h s c.args.chain.now.1 n c.pop.new.self.0 c.requires.clearable
    (midway-list p f h s c.args.chain.now.1 c.loop-next.chain.0 (n ∷ c.pop.new.self.0) c.in-Some.ensures.slots c.loop-next.invariant.midway)).distinct

pub clear_one-requires-clause-within : goal.clear_one-requires-clause-within
clear_one-requires-clause-within g c =
    let p = g.P.Profile.profile in
    let f = g.S.CapStore.forest c.args.store.now in
    let h = g.S.CapStore.forest c.loop-next.store in
    let s = address_of p c.args.slot in
    let n = address_of p c.in-Some.next in
    let P : ℕ → Type 0 = λ m. AreBelow m (list_after p (preorder h) n c.pop.new.self.0) in
    subst P (sym (c.in-Some.ensures.memory ∙ c.loop-next.invariant.size))
    (midway-step p f h s c.args.chain.now.1 n c.pop.new.self.0 c.requires.clearable
    (midway-list p f h s c.args.chain.now.1 c.loop-next.chain.0 (n ∷ c.pop.new.self.0) c.in-Some.ensures.slots c.loop-next.invariant.midway)).below

pub loop-next-smaller : goal.loop-next-smaller
loop-next-smaller g c =
    let p = g.P.Profile.profile in
    let f = g.S.CapStore.forest c.args.store.now in
    let h = g.S.CapStore.forest c.loop-next.store in
    let s = address_of p c.args.slot in
    let n = address_of p c.in-Some.next in
    let less = midway-smaller p f h s c.args.chain.now.1 n c.pop.new.self.0 c.requires.clearable
    (midway-list p f h s c.args.chain.now.1 c.loop-next.chain.0 (n ∷ c.pop.new.self.0) c.in-Some.ensures.slots c.loop-next.invariant.midway) in
    let a : weight p (preorder (g.S.CapStore.forest c.clear_one.new.store)) ≡ weight p (preorder (out (is_at n) h)) = ap (λ q. weight p (preorder q)) c.clear_one.ensures.forest in
    let b : length c.clear_one.new.chain.0 ≡ length (list_after p (preorder h) n c.pop.new.self.0) = ap (λ v. length v.0) c.clear_one.ensures.chain in
    let d : length c.loop-next.chain.0 ≡ length (n ∷ c.pop.new.self.0) = ap length c.in-Some.ensures.slots in
    omega (arith, less, a, b, d)

pub loop-next-preserved : goal.loop-next-preserved
loop-next-preserved g c =
    let p = g.P.Profile.profile in
    let f = g.S.CapStore.forest c.args.store.now in
    let h = g.S.CapStore.forest c.loop-next.store in
    let k = g.S.CapStore.forest c.clear_one.new.store in
    let s = address_of p c.args.slot in
    let n = address_of p c.in-Some.next in
    let W = c.pop.new.self.0 in
    let m = midway-list p f h s c.args.chain.now.1 c.loop-next.chain.0 (n ∷ W) c.in-Some.ensures.slots c.loop-next.invariant.midway in
    let step = midway-step p f h s c.args.chain.now.1 n W c.requires.clearable m in
    let P : (Cap → Bool) → Type 0 = λ q. g.F.Finalise.Ended q c.args.rest.now c.clear_one.new.rest in
    let both = g.met.F.Finalise.both_ended _ _ c.args.rest.now c.loop-next.rest c.clear_one.new.rest c.loop-next.invariant.told c.clear_one.ensures.ended in
    record {
      midway = midway-forest p f (out (is_at n) h) k s c.args.chain.now.1 c.clear_one.new.chain.0 c.clear_one.ensures.forest
          (midway-list p f (out (is_at n) h) s c.args.chain.now.1 (list_after p (preorder h) n W) c.clear_one.new.chain.0 (sym (ap (λ v. v.0) c.clear_one.ensures.chain)) step);
      told = subst P (ended_step p f h s c.args.chain.now.1 n W c.requires.clearable m ∙ ap (λ (q : Forest Entry). ended f q) (sym c.clear_one.ensures.forest)) both;
      size = ap (λ v. v.1) c.clear_one.ensures.chain ∙ c.in-Some.ensures.memory ∙ c.loop-next.invariant.size;
      memory = c.clear_one.ensures.memory ∙ c.loop-next.invariant.memory;
    }

pub returns-clause-forest : goal.returns-clause-forest
returns-clause-forest g c =
    let p = g.P.Profile.profile in
    let f = g.S.CapStore.forest c.args.store.now in
    let h = g.S.CapStore.forest c.loop-next.store in
    let s = address_of p c.args.slot in
    midway-end p f h s c.args.chain.now.1 (midway-list p f h s c.args.chain.now.1 c.loop-next.chain.0 [] c.in_default.ensures.slots.0 c.loop-next.invariant.midway)
