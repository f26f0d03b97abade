-- The proof of `walk`: the goals that a search leaves open.
use Rattle.std.proofs.Common.{rules, ◌≡◌, inl, inr, ap, Err, true}
use Rattle.kernel_forest.specs.Entries.{cap_at}
use Rattle.cspace_core.specs.Resolution.{is_cnode}
use Rattle.cspace_core.proofs.Nodes.{no_cnode, lawful_in_words}
use Rattle.kernel_checks.proofs.Walks.{miss_here, found_here, found_further, all_within}
use Rattle.slot_core.specs.Places.{address_of}
use Rattle.kernel_checks.proofs.walk.walk.Goals as goal

pub loop-slot-init : goal.loop-slot-init
loop-slot-init g c =
    record {
      within = c.requires.bits;
      value = all_within g.P.Profile.profile (cap_at (g.S.CapStore.forest c.args.store.now)) (address_of g.P.Profile.profile c.args.root) c.args.bits c.args.address;
    }

pub choose-requires-clause-lawful : goal.choose-requires-clause-lawful
choose-requires-clause-lawful g c =
    lawful_in_words g.P.Profile.profile _ c.get-cap.result c.get-cap.ensures.lawful

pub returns-in_err-slot : goal.returns-in_err-slot
returns-in_err-slot g c =
    let e : c.from_residual.result ≡ Err c.in_err-slot.field-0.0 = search rules in
    rw e (miss_here _ (cap_at (g.S.CapStore.forest c.args.store.now)) c.loop-slot.left c.loop-slot.invariant.value.0 _ _ _ _
    c.loop-slot.invariant.value.1.0 c.loop-slot.invariant.value.1.1 (rw c.get-cap.ensures.cap at c.in_err-slot.ensures.is))

pub returns-then-rest-eq0 : goal.returns-then-rest-eq0
returns-then-rest-eq0 g c =
    found_here _ (cap_at (g.S.CapStore.forest c.args.store.now)) c.loop-slot.left c.loop-slot.invariant.value.0 _ _ _ c.in_ok-slot.rest c.args.address _
    c.loop-slot.invariant.value.1.0 c.loop-slot.invariant.value.1.1 (rw c.get-cap.ensures.cap at c.in_ok-slot.ensures.is) (inl c.if-rest-eq0.true)

pub returns-in_default : goal.returns-in_default
returns-in_default g c =
    let other = rw c.get-next.ensures.cap at (no_cnode c.get-next.result c.in_default.not-CNode) in
    found_here _ (cap_at (g.S.CapStore.forest c.args.store.now)) c.loop-slot.left c.loop-slot.invariant.value.0 _ _ _ c.in_ok-slot.rest c.args.address _
    c.loop-slot.invariant.value.1.0 c.loop-slot.invariant.value.1.1 (rw c.get-cap.ensures.cap at c.in_ok-slot.ensures.is) (inr other)

pub loop-slot-preserved : goal.loop-slot-preserved
loop-slot-preserved g c =
    let node : is_cnode c.get-next.result ≡ true = ap is_cnode c.in-CNode.is in
    let node' = rw c.get-next.ensures.cap at node in
    record {
      within = search rules;
      value = found_further _ (cap_at (g.S.CapStore.forest c.args.store.now)) c.loop-slot.left c.loop-slot.invariant.value.0 _ _ _ c.in_ok-slot.rest c.args.address _
          c.loop-slot.invariant.value.1.0 c.loop-slot.invariant.value.1.1 (rw c.get-cap.ensures.cap at c.in_ok-slot.ensures.is) c.if-rest-eq0.false c.in_ok-slot.ensures.less node';
    }
