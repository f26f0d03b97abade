use Rattle.std.proofs.Common.{map, List, Option}
use Rattle.query_reach.specs.declared.paths.Path.{Path}
use Rattle.query_reach.proofs.FullSlots.{all_lawful}
use Rattle.query_reach.proofs.HeldSlots.{IsSearched, are_held, same_slot}
use Rattle.query_reach.proofs.held.held_slots.Goals as goal

pub returns : goal.returns
returns g c f thread are reach =
    let first : List (List (Option Path)) = map (λ r. r.items) c.in_ok-rows.rows.items in
    let rows : List (List (Option Path)) = map (λ r. r.items) c.explore.new.rows.items in
    let s : IsSearched g.P.Profile.profile f thread c.args.filled.now c.args.reached.now first rows = record {
      lawful = all_lawful g.P.Profile.profile f c.args.filled.now are c.requires.lawful;
      are = are;
      up = c.requires.rising;
      reach = reach;
      starts = c.in_ok-rows.ensures.of;
      front = c.in_ok-explore.ensures.front;
      high = c.in_ok-explore.ensures.wide.high;
      bits = c.in_ok-explore.ensures.bits;
      explored = c.in_ok-explore.ensures.explored f are;
    } in
    are_held g.P.Profile.profile f thread c.args.filled.now c.args.reached.now first rows c.in_ok-list.list.items c.put_in_order.new.list.items s
    (rw c.as_slice.ensures.value at c.in_ok-list.ensures.only) (rw c.as_slice.ensures.value at c.in_ok-list.ensures.all)
    (λ h in'. same_slot h c.put_in_order.new.list.items (c.in_ok-put_in_order.ensures.kept h in')) c.in_ok-put_in_order.ensures.only c.in_ok-put_in_order.ensures.order
