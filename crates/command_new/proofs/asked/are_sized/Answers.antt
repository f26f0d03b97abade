-- One region more lies within the profile; at the end, all of them.
use Rattle.std.proofs.Common.{All, arith, refl, subst}
use Rattle.std.proofs.lemmas.List.{take_all}
use Rattle.std.proofs.lemmas.List.Elements.{All-more}
use Rattle.kernel_abstract.specs.Plan.{IsUntypedSize}
use Rattle.command_new.proofs.asked.are_sized.Goals as goal

pub loop-region-preserved : goal.loop-region-preserved
loop-region-preserved g c =
    All-more (IsUntypedSize g.P.Profile.profile) c.args.untypeds.now c.loop-region.region-index (0, 0) c.loop-region-test.true c.loop-region.invariant
    (record {
      least = omega (arith, g.met.P.Profile.min_untyped_bits_is, c.MIN_UNTYPED_BITS.ensures);
      most = omega (arith, g.met.P.Profile.max_object_bits_is, c.MAX_OBJECT_BITS.ensures);
    })

pub returns : goal.returns
returns g c =
    let whole = take_all c.loop-region.region-index c.args.untypeds.now c.loop-region-test.false in
    let all : All (IsUntypedSize g.P.Profile.profile) c.args.untypeds.now =
    subst (All (IsUntypedSize g.P.Profile.profile)) whole c.loop-region.invariant in
    (λ _. all, λ _. refl)
