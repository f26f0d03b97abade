use Rattle.std.proofs.Common.{◌≡◌, Bool, true, length, refl, sym, ◌∙◌, ap, subst, arith}
use Rattle.cap_core.specs.declared.capability.Cap.{Cap}
use Rattle.kernel_forest.specs.Forest.{Forest, preorder}
use Rattle.kernel_forest.specs.Entries.{Entry}
use Rattle.slot_core.specs.Places.{address_of}
use Rattle.kernel_delete.specs.Clear.{clear}
use Rattle.kernel_delete.specs.Revoke.{revoke}
use Rattle.kernel_delete.specs.Work.{named, IsClearable}
use Rattle.kernel_delete.proofs.Midway.{ended-none}
use Rattle.kernel_delete.proofs.Revoking.{child_in, child_less, revoke_none, revoke_some, clearable-clear, named-clear, ended-both}
use Rattle.kernel_delete.proofs.deletion.revoke.Goals as goal

pub loop-child-init : goal.loop-child-init
loop-child-init g c =
    let f = g.S.CapStore.forest c.args.store.now in
    let P : (Cap → Bool) → Type 0 = λ q. g.F.Finalise.Ended q c.args.rest.now c.args.rest.now in
    record {
      clearable = c.requires.clearable;
      stands = refl;
      fewer = λ o h. h;
      told = subst P (ended-none (preorder f)) (g.met.F.Finalise.none_ended c.args.rest.now);
      chain = refl;
      memory = refl;
    }

pub clear-requires-clause-within : goal.clear-requires-clause-within
clear-requires-clause-within g c =
    let p = g.P.Profile.profile in
    let w = child_in (address_of p c.args.slot) (address_of p c.in-Some.child) (g.S.CapStore.forest c.loop-child.store) (sym c.in-Some.ensures) in
    let x = c.loop-child.invariant.clearable.slots w.0 w.1.0 in
    let y : c.loop-child.chain.1 ≡ c.args.chain.now.1 = ap (λ v. v.1) c.loop-child.invariant.chain in
    omega (arith, x, w.1.1, y)

pub loop-child-smaller : goal.loop-child-smaller
loop-child-smaller g c =
    let p = g.P.Profile.profile in
    let h = g.S.CapStore.forest c.loop-child.store in
    let x = child_less p (address_of p c.args.slot) (address_of p c.in-Some.child) h (sym c.in-Some.ensures) in
    let a : length (preorder (g.S.CapStore.forest c.clear.new.store)) ≡ length (preorder (clear p (address_of p c.in-Some.child) h)) = ap (λ q. length (preorder q)) c.clear.ensures.forest in
    omega (arith, x, a)

pub loop-child-preserved : goal.loop-child-preserved
loop-child-preserved g c =
    let p = g.P.Profile.profile in
    let s = address_of p c.args.slot in
    let n = address_of p c.in-Some.child in
    let f = g.S.CapStore.forest c.args.store.now in
    let h = g.S.CapStore.forest c.loop-child.store in
    let k = g.S.CapStore.forest c.clear.new.store in
    let e : k ≡ clear p n h = c.clear.ensures.forest in
    let less : (o : Cap) → named (preorder k) o ≡ true → named (preorder h) o ≡ true =
    λ o t. named-clear p n h o (let P : Forest Entry → Type 0 = λ q. named (preorder q) o ≡ true in subst P e t) in
    let Q : Forest Entry → Type 0 = λ q. IsClearable p c.args.chain.now.1 (preorder q) in
    let P : (Cap → Bool) → Type 0 = λ q. g.F.Finalise.Ended q c.args.rest.now c.clear.new.rest in
    let both = g.met.F.Finalise.both_ended _ _ c.args.rest.now c.loop-child.rest c.clear.new.rest c.loop-child.invariant.told c.clear.ensures.ended in
    record {
      clearable = subst Q (sym e) (clearable-clear p n c.args.chain.now.1 h c.loop-child.invariant.clearable);
      stands = c.loop-child.invariant.stands ∙ revoke_some p s n h (sym c.in-Some.ensures) ∙ ap (revoke p s) (sym e);
      fewer = λ o t. c.loop-child.invariant.fewer o (less o t);
      told = subst P (ended-both (preorder f) (preorder h) (preorder k) c.loop-child.invariant.fewer less) both;
      chain = c.clear.ensures.chain ∙ c.loop-child.invariant.chain;
      memory = c.clear.ensures.memory ∙ c.loop-child.invariant.memory;
    }

pub returns-clause-forest : goal.returns-clause-forest
returns-clause-forest g c =
    let p = g.P.Profile.profile in
    let h = g.S.CapStore.forest c.loop-child.store in
    sym (c.loop-child.invariant.stands ∙ revoke_none p (address_of p c.args.slot) h (sym c.in_default.ensures))
