-- The proof of `set_root`: the goals that a search leaves open.
use Rattle.std.proofs.Common.{cond, ◌&&◌, sym, ◌∙◌}
use Rattle.kernel_forest.specs.Derivation.{derived}
use Rattle.kernel_core.specs.Private.Spaces.{space_placement}
use Rattle.kernel_abstract.proofs.Capabilities.PlacementSteps.{node_derived}
use Rattle.kernel_core.proofs.placements.set_root.Goals as goal

pub returns-then-is_filled-2-clause-forest : goal.returns-then-is_filled-2-clause-forest
returns-then-is_filled-2-clause-forest g c =
    let f = g.S.CapStore.forest c.args.store.now in
    let new = c.args.new in
    let source = sym c.is_filled.ensures ∙ c.if-is_filled.true in
    let invoked = sym c.is_filled-then-is_filled.ensures ∙ c.if-is_filled-2.true in
    c.derive_in.ensures.forest ∙ node_derived g.P.Profile.profile (space_placement new) f c.requires.node
    ∙ sym (λ i. cond (source i && invoked i) (derived new.source new.tcb new.cap f) f)
