-- One derivation more is listed where it stands below the part.
use Rattle.std.proofs.Common.{◌≡◌, ℕ, List, ◌∷◌, ◌++◌, [], sym, ap, ◌∙◌}
use Rattle.slot_core.specs.Calls.{derivation_view}
use Rattle.command_how_witness.specs.Private.{is_parent_above}
use Rattle.command_how_witness.proofs.Below.{put_listed, kept_listed}
use Rattle.command_how_witness.proofs.excluded.slots_below.Goals as goal
use Rattle.command_how_witness.proofs.excluded.slots_below.Goals.{then-is_parent_above+in_ok-push, else-is_parent_above}

pub loop-derivation-preserved : goal.loop-derivation-preserved
loop-derivation-preserved g c =
    let view = derivation_view g.P.Profile.profile in
    let memory = c.args.memory.now in
    let part = c.args.part in
    let ds = c.args.derivations.now in
    let i = c.loop-derivation.derivation-index in
    let d = c.derivation-item.result in
    let old = c.loop-derivation.below.items in
    let above : is_parent_above memory part old (view d).1 ≡ c.is_parent_above.result =
    ap (λ (l : List ℕ). is_parent_above memory part l (view d).1) (sym c.as_slice.ensures.value) ∙ sym c.is_parent_above.ensures in
    elim c.if-is_parent_above.branch [
      | then-is_parent_above+in_ok-push w ↦
          let items : c.if-is_parent_above.below.items ≡ old ++ w.address.result ∷ [] = rw w.below-is w.in_ok-push.ensures.items in
          put_listed memory part view ds i d old c.if-is_parent_above.below.items c.loop-derivation-test.true c.loop-derivation.invariant c.derivation-item.is
          (above ∙ w.if-is_parent_above.true) (items ∙ ap (λ (n : ℕ). old ++ n ∷ []) w.address.ensures)
      | else-is_parent_above w ↦
          kept_listed memory part view ds i d old c.if-is_parent_above.below.items c.loop-derivation-test.true c.loop-derivation.invariant c.derivation-item.is
          (above ∙ w.if-is_parent_above.false) (rw w.below-is)
    ]
