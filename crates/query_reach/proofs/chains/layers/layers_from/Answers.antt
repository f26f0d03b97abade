-- The proof of `layers_from`: the goals that a search leaves open.
use Rattle.std.proofs.Common.{◌≡◌, ◌<◌, List, length, refl, sym, Vec, Global, arith, vec_len}
use Rattle.std.proofs.lemmas.Bool.{eqb-true, eqb-false}
use Rattle.query_reach.specs.declared.filled.FullSlot.{FullSlot}
use Rattle.query_reach.specs.Private.Layers.{next_layer, others_of}
use Rattle.query_reach.proofs.Laid.{laid_more, laid_done, fewer_left, no_length}
use Rattle.query_reach.proofs.chains.layers.layers_from.Goals as goal

pub loop-alloc-preserved : goal.loop-alloc-preserved
loop-alloc-preserved g c =
    let shows : Vec FullSlot Global → List FullSlot = λ v. v.items in
    let next : c.in_ok-next.next.items ≡ next_layer g.P.Profile.profile c.loop-alloc.layer.items c.loop-alloc.rest.items =
    rw (c.as_slice.ensures.value, c.as_slice-in-loop-alloc.ensures.value) at c.in_ok-next.ensures in
    let others : c.in_ok-rest.rest.items ≡ others_of g.P.Profile.profile c.loop-alloc.layer.items c.loop-alloc.rest.items =
    rw (c.as_slice-in-loop-alloc-2.ensures.value, c.as_slice-in-loop-alloc-3.ensures.value) at c.in_ok-rest.ensures in
    λ more. laid_more g.P.Profile.profile shows c.args.first.items c.args.elsewhere.items c.loop-alloc.layer.items c.loop-alloc.rest.items
    c.in_ok-next.next.items c.in_ok-rest.rest.items c.loop-alloc.layers.items c.push.new.self.items c.loop-alloc.layer more c.loop-alloc.invariant refl
    c.in_ok-push.ensures.items next others

pub loop-alloc-smaller : goal.loop-alloc-smaller
loop-alloc-smaller g c =
    let next : c.in_ok-next.next.items ≡ next_layer g.P.Profile.profile c.loop-alloc.layer.items c.loop-alloc.rest.items =
    rw (c.as_slice.ensures.value, c.as_slice-in-loop-alloc.ensures.value) at c.in_ok-next.ensures in
    let others : c.in_ok-rest.rest.items ≡ others_of g.P.Profile.profile c.loop-alloc.layer.items c.loop-alloc.rest.items =
    rw (c.as_slice-in-loop-alloc-2.ensures.value, c.as_slice-in-loop-alloc-3.ensures.value) at c.in_ok-rest.ensures in
    let some : 0 < length c.loop-alloc.layer.items =
    omega (arith, eqb-false (vec_len c.loop-alloc.layer) 0 (sym c.loop-alloc-test.ensures), c.loop-alloc.layer.ok.0) in
    fewer_left g.P.Profile.profile c.loop-alloc.layer.items c.loop-alloc.rest.items c.in_ok-next.next.items c.in_ok-rest.rest.items next others some

pub returns : goal.returns
returns g c =
    let shows : Vec FullSlot Global → List FullSlot = λ v. v.items in
    let none : length c.loop-alloc.layer.items ≡ 0 =
    omega (arith, eqb-true (vec_len c.loop-alloc.layer) 0 (sym c.loop-alloc-test.ensures), c.loop-alloc.layer.ok.0) in
    laid_done g.P.Profile.profile shows c.args.first.items c.args.elsewhere.items c.loop-alloc.layer.items c.loop-alloc.rest.items c.loop-alloc.layers.items
    c.loop-alloc.invariant (no_length c.loop-alloc.layer.items none)
