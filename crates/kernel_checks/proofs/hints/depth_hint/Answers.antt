-- The proof of `depth_hint`: the goals that a search leaves open.
use Rattle.std.proofs.Common.{◌+◌, ◌<◌, arith}
use Rattle.cap_core.specs.Numbers.{word_bits}
use Rattle.kernel_forest.specs.Entries.{cap_at}
use Rattle.slot_core.specs.Places.{address_of}
use Rattle.kernel_checks.proofs.Depths.{depth_found, depth_missed, depths_end, none_there}
use Rattle.kernel_checks.proofs.hints.depth_hint.Goals as goal

pub returns-in-Some : goal.returns-in-Some
returns-in-Some g c =
    let more : c.loop-depth.depth < word_bits g.P.Profile.profile + 1 = omega arith in
    depth_found g.P.Profile.profile (cap_at (g.S.CapStore.forest c.args.store.now)) (address_of g.P.Profile.profile c.args.root) c.args.index c.loop-depth.depth (word_bits g.P.Profile.profile + 1) c.in-Some.slot _
    more c.loop-depth.invariant.value c.in-Some.ensures

pub loop-depth-preserved : goal.loop-depth-preserved
loop-depth-preserved g c =
    let more : c.loop-depth.depth < word_bits g.P.Profile.profile + 1 = omega arith in
    record {
      within = omega (arith, more);
      value = depth_missed g.P.Profile.profile (cap_at (g.S.CapStore.forest c.args.store.now)) (address_of g.P.Profile.profile c.args.root) c.args.index c.loop-depth.depth (word_bits g.P.Profile.profile + 1) _
          more c.loop-depth.invariant.value (none_there c.slot_at_depth.result _ c.in_default.not-Some c.slot_at_depth.ensures);
    }

pub returns : goal.returns
returns g c =
    depths_end g.P.Profile.profile (cap_at (g.S.CapStore.forest c.args.store.now)) (address_of g.P.Profile.profile c.args.root) c.args.index c.loop-depth.depth (word_bits g.P.Profile.profile + 1) _
    (omega arith) c.loop-depth.invariant.value
