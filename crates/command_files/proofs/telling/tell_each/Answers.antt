-- Each file adds its line, and is counted.
use Rattle.command_files.proofs.Sequences.{more, none}
use Rattle.command_files.proofs.telling.tell_each.Goals as goal

pub loop-name-init : goal.loop-name-init
loop-name-init g c =
    rw (c.new-tally.ensures (g.T.Telling.verdict c.args.telling.now)) (none (g.T.Telling.verdict c.args.telling.now) (g.T.Telling.head c.args.telling.now) (g.T.Telling.line c.args.telling.now) _ c.new-out.result.items c.add_head.new.out.items c.new-out.ensures.items c.in_ok-add_head.ensures)

pub loop-name-preserved : goal.loop-name-preserved
loop-name-preserved g c =
    let found = c.in_ok-found.ensures in
    more (g.T.Telling.verdict c.args.telling.now) (g.T.Telling.head c.args.telling.now) (g.T.Telling.line c.args.telling.now) _ (g.T.Telling.is_made c.args.telling.now)
    c.args.names.now c.loop-name.name-index _ c.loop-name.out.items c.add_line.new.out.items c.loop-name.tally c.count.new.self
    found.0 c.in_ok-found.found _ _ c.told_in.ensures c.verdict_found.ensures c.loop-name-test.true c.loop-name.invariant found.1 found.2
    c.in_ok-add_line.ensures c.count.ensures
