use Rattle.std.proofs.Common.{rules, ◌≡◌, inl, inr, sym, ap, Err, true}
use Rattle.kernel_forest.specs.Entries.{cap_at}
use Rattle.cspace_core.specs.Resolution.{is_cnode}
use Rattle.cspace_core.specs.Resolves.{refused}
use Rattle.cspace_core.proofs.Nodes.{no_cnode, lawful_in_words}
use Rattle.cspace_core.proofs.Steps.{fault_here, found_here, found_further, resolves_here, resolves_further, all_within}
use Rattle.cspace_core.proofs.Inside.{lies_in_cnode}
use Rattle.cspace_core.proofs.resolve.Goals as goal

pub loop-slot-init : goal.loop-slot-init
loop-slot-init g c =
    record {
      lawful = c.requires.lawful;
      within = c.requires.bits;
      value = all_within g.P.Profile.profile (cap_at (g.S.CapStore.forest c.args.store.now)) c.args.root c.args.bits c.args.address;
      relation = λ r h. h;
    }

pub choose-requires-clause-lawful : goal.choose-requires-clause-lawful
choose-requires-clause-lawful g c =
    lawful_in_words g.P.Profile.profile _ c.loop-slot.cap c.loop-slot.invariant.lawful

pub returns-in_err-slot-clause-value : goal.returns-in_err-slot-clause-value
returns-in_err-slot-clause-value g c =
    let e : c.from_residual.result ≡ Err c.in_err-slot.field-0.0 = search rules in
    rw e (fault_here _ _ c.loop-slot.left c.loop-slot.invariant.value.0 _ _ _ _
    c.loop-slot.invariant.value.1.0 c.loop-slot.invariant.value.1.1 c.in_err-slot.ensures.is)

pub returns-in_err-slot-clause-relation : goal.returns-in_err-slot-clause-relation
returns-in_err-slot-clause-relation g c =
    let e : c.from_residual.result ≡ Err c.in_err-slot.field-0.0 = search rules in
    rw e (c.loop-slot.invariant.relation _ (refused _ _ _ c.in_err-slot.ensures.is))

pub returns-then-rest-eq0-clause-value : goal.returns-then-rest-eq0-clause-value
returns-then-rest-eq0-clause-value g c =
    found_here _ _ c.loop-slot.left c.loop-slot.invariant.value.0 _ _ _ c.in_ok-slot.rest c.args.address _
    c.loop-slot.invariant.value.1.0 c.loop-slot.invariant.value.1.1 c.in_ok-slot.ensures.is (inl c.if-rest-eq0.true)

pub returns-then-rest-eq0-clause-within : goal.returns-then-rest-eq0-clause-within
returns-then-rest-eq0-clause-within g c =
    c.in_ok-slot.ensures.within (g.S.CapStore.memory_bits c.args.store.now) c.loop-slot.invariant.lawful

pub returns-then-rest-eq0-clause-inside : goal.returns-then-rest-eq0-clause-inside
returns-then-rest-eq0-clause-inside g c =
    let value = found_here _ _ c.loop-slot.left c.loop-slot.invariant.value.0 _ _ _ c.in_ok-slot.rest c.args.address _
    c.loop-slot.invariant.value.1.0 c.loop-slot.invariant.value.1.1 c.in_ok-slot.ensures.is (inl c.if-rest-eq0.true) in
    lies_in_cnode _ _ _ c.args.bits c.args.address _ (sym value)

pub returns-then-rest-eq0-clause-relation : goal.returns-then-rest-eq0-clause-relation
returns-then-rest-eq0-clause-relation g c =
    c.loop-slot.invariant.relation _ (resolves_here _ _ _ _ _ c.in_ok-slot.rest c.args.address c.in_ok-slot.ensures.is (inl c.if-rest-eq0.true))

pub returns-in_default : goal.returns-in_default
returns-in_default g c =
    let other = rw c.get-next.ensures.cap at (no_cnode c.get-next.result c.in_default.not-CNode) in
    let value = found_here _ _ c.loop-slot.left c.loop-slot.invariant.value.0 _ _ _ c.in_ok-slot.rest c.args.address _
    c.loop-slot.invariant.value.1.0 c.loop-slot.invariant.value.1.1 c.in_ok-slot.ensures.is (inr other) in
    record {
      value = value;
      inside = lies_in_cnode _ _ _ c.args.bits c.args.address _ (sym value);
      within = c.in_ok-slot.ensures.within (g.S.CapStore.memory_bits c.args.store.now) c.loop-slot.invariant.lawful;
      relation = c.loop-slot.invariant.relation _ (resolves_here _ _ _ _ _ c.in_ok-slot.rest c.args.address c.in_ok-slot.ensures.is (inr other));
    }

pub loop-slot-preserved : goal.loop-slot-preserved
loop-slot-preserved g c =
    let node : is_cnode c.get-next.result ≡ true = ap is_cnode c.in-CNode.is in
    let node' = rw c.get-next.ensures.cap at node in
    record {
      lawful = c.get-next.ensures.lawful;
      within = search rules;
      value = rw c.get-next.ensures.cap
          (found_further _ _ c.loop-slot.left c.loop-slot.invariant.value.0 _ _ _ c.in_ok-slot.rest c.args.address _
          c.loop-slot.invariant.value.1.0 c.loop-slot.invariant.value.1.1 c.in_ok-slot.ensures.is c.if-rest-eq0.false c.in_ok-slot.ensures.less node');
      relation = λ r there. c.loop-slot.invariant.relation r
          (resolves_further _ _ _ _ _ c.in_ok-slot.rest c.args.address r c.in_ok-slot.ensures.is c.if-rest-eq0.false node' (rw c.get-next.ensures.cap at there));
    }
