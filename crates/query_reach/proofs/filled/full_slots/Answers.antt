use Rattle.query_reach.proofs.FullSlots.{are_full_slots, are_lawful, full_in_order, lawful_in_order, rising_in_order}
use Rattle.query_reach.proofs.filled.full_slots.Goals as goal

pub returns-clause-slots : goal.returns-clause-slots
returns-clause-slots g c f told distinct =
    full_in_order f c.in_ok-filled.filled.items c.put_in_order.new.filled.items c.in_ok-put_in_order.ensures.only c.in_ok-put_in_order.ensures.all
    (are_full_slots g.P.Profile.profile f c.args.derivations.now c.in_ok-filled.filled.items c.in_ok-filled.ensures told distinct)

pub returns-clause-lawful : goal.returns-clause-lawful
returns-clause-lawful g c memory f told lawful =
    lawful_in_order g.P.Profile.profile c.in_ok-filled.filled.items c.put_in_order.new.filled.items c.in_ok-put_in_order.ensures.only
    (are_lawful g.P.Profile.profile memory f c.args.derivations.now c.in_ok-filled.filled.items c.in_ok-filled.ensures told lawful)

pub returns-clause-rising : goal.returns-clause-rising
returns-clause-rising g c = rising_in_order c.put_in_order.new.filled.items c.in_ok-put_in_order.ensures.rising
