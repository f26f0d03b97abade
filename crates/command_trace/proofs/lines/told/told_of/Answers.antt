use Rattle.std.proofs.Common.{map, ap, ◌∙◌}
use Rattle.slot_core.specs.Calls.{derivation_view}
use Rattle.command_trace.proofs.Kept.{walk_is}
use Rattle.command_trace.proofs.lines.told.told_of.Goals as goal

pub returns : goal.returns
returns g c =
    let there = ap (map (derivation_view g.P.Profile.profile)) c.as_slice.ensures.value ∙ c.requires.list in
    record {
      view = c.in_ok-view.ensures;
      siblings = walk_is g.P.Profile.profile c.as_slice.result.now c.in_ok-siblings.siblings.items c.args.kernel.now.derivations c.in_ok-siblings.ensures there c.requires.apart;
    }
