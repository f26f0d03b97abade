use Rattle.std.proofs.Common.{◌≡◌, false, List, map, refl, subst, sym, ◌∙◌, Vec, Global, arith}
use Rattle.std.proofs.lemmas.Option.{slice_get_read}
use Rattle.query_reach.specs.declared.filled.FullSlot.{FullSlot}
use Rattle.query_reach.specs.Private.Layers.{layer_at, is_sought_in}
use Rattle.query_reach.proofs.Laid.{layer_shown, none_more}
use Rattle.query_reach.proofs.chains.chain.first_sought.Goals as goal

pub loop-depth-preserved : goal.loop-depth-preserved
loop-depth-preserved g c =
    let shows : Vec FullSlot Global → List FullSlot = λ v. v.items in
    let there : layer_at (map shows c.args.layers.now) c.loop-depth.depth ≡ c.as_slice.result.now =
    layer_shown shows c.args.layers.now c.loop-depth.depth c.index-layers-depth.result
    (slice_get_read c.args.layers.now _ c.loop-depth.depth c.index-layers-depth.result refl (omega arith) c.index-layers-depth.is)
    ∙ sym c.as_slice.ensures.value in
    λ k. none_more g.P.Profile.profile c.args.target.now (map shows c.args.layers.now) c.loop-depth.depth k c.loop-depth.invariant
    (subst (λ (l : List FullSlot). is_sought_in g.P.Profile.profile c.args.target.now l ≡ false) (sym there) c.in_default.ensures.none)
