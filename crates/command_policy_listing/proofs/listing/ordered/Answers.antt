-- The proof of `ordered`: the goals that a search leaves open.
use Rattle.std.proofs.Common.{◌∙◌, ap}
use Rattle.command_policy_text.proofs.Ordered.{put_one}
use Rattle.command_policy_listing.proofs.listing.ordered.Goals as goal

pub loop-item-preserved : goal.loop-item-preserved
loop-item-preserved g c =
    put_one (g.L.Tells.told c.args.teller.now) c.args.items.now c.loop-item.item-index c.item-item.result c.loop-item.lines.keys _ _ c.loop-item-test.true
    c.loop-item.invariant (c.in_ok-line.ensures ∙ ap (g.L.Tells.told c.args.teller.now) c.item-item.is) c.in_ok-insert.ensures.keys
