-- The proof of `back_from`: the goals that a search leaves open.
use Rattle.std.proofs.Common.{◌≡◌, ◌-◌, List, [], ◌∷◌, ◌++◌, map, refl, sym, ap, ◌∙◌, Vec, Global, arith}
use Rattle.std.proofs.lemmas.Option.{slice_get_read}
use Rattle.query_reach.specs.declared.filled.FullSlot.{FullSlot}
use Rattle.query_reach.specs.Private.Layers.{layer_at}
use Rattle.query_reach.proofs.Laid.{layer_shown}
use Rattle.query_reach.proofs.Back.{back_begun, back_more, back_never, back_done}
use Rattle.query_reach.proofs.chains.chain.back_from.Goals as goal

pub unreachable-requires : goal.unreachable-requires
unreachable-requires g c =
    let shows : Vec FullSlot Global → List FullSlot = λ v. v.items in
    let place = c.args.depth - 1 - c.loop-k.k in
    let there : layer_at (map shows c.args.layers.now) place ≡ c.as_slice.result.now =
    layer_shown shows c.args.layers.now place c.index-layers-depth.result
    (slice_get_read c.args.layers.now _ place c.index-layers-depth.result refl (omega (arith, c.requires.within, c.loop-k-test.true)) c.index-layers-depth.is)
    ∙ sym c.as_slice.ensures.value in
    back_never g.P.Profile.profile (map shows c.args.layers.now) c.args.depth c.args.end c.loop-k.k c.loop-k.head c.loop-k.back.items c.loop-k.invariant
    c.loop-k-test.true c.as_slice.result.now there c.requires.stepped c.in_default.ensures.none

pub loop-k-init : goal.loop-k-init
loop-k-init g c =
    back_begun g.P.Profile.profile (map (λ (v : Vec FullSlot Global). v.items) c.args.layers.now) c.args.depth c.args.end c.push.new.self.items c.requires.in_layer
    (c.in_ok-push.ensures.items ∙ ap (λ (l : List FullSlot). l ++ c.args.end ∷ []) c.new-back.ensures.items)

pub loop-k-preserved : goal.loop-k-preserved
loop-k-preserved g c =
    let shows : Vec FullSlot Global → List FullSlot = λ v. v.items in
    let place = c.args.depth - 1 - c.loop-k.k in
    let there : layer_at (map shows c.args.layers.now) place ≡ c.as_slice.result.now =
    layer_shown shows c.args.layers.now place c.index-layers-depth.result
    (slice_get_read c.args.layers.now _ place c.index-layers-depth.result refl (omega (arith, c.requires.within, c.loop-k-test.true)) c.index-layers-depth.is)
    ∙ sym c.as_slice.ensures.value in
    back_more g.P.Profile.profile (map shows c.args.layers.now) c.args.depth c.args.end c.loop-k.k c.loop-k.head c.loop-k.back.items c.loop-k.invariant
    c.loop-k-test.true c.as_slice.result.now there c.in-Some.slot c.push-in-loop-k.new.self.items c.in-Some.ensures.some.0 c.in-Some.ensures.some.1
    c.in_ok-push-2.ensures.items

pub returns : goal.returns
returns g c =
    back_done g.P.Profile.profile (map (λ (v : Vec FullSlot Global). v.items) c.args.layers.now) c.args.depth c.args.end c.loop-k.k c.loop-k.head
    c.loop-k.back.items c.loop-k.invariant (omega (arith, c.loop-k-test.false, c.loop-k.auto.k-end))
