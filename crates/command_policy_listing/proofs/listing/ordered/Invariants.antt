use Rattle.std.proofs.Common.{◌≡◌, take, map, string_bytes}
use Rattle.command_policy_text.specs.Order.{in_order}
use Rattle.command_policy_listing.proofs.listing.ordered.Given as goal

abbrev pub invariant-loop-item : goal.invariant-loop-item
invariant-loop-item g l = map string_bytes l.lines.keys ≡ in_order (map (g.L.Tells.told l.teller) (take l.item-index l.items))
