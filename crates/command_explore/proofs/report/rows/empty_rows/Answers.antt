use Rattle.command_explore.proofs.CallAnswers.{empty_none, empty_more}
use Rattle.command_explore.proofs.report.rows.empty_rows.Goals as goal

pub loop-i-init : goal.loop-i-init
loop-i-init c = empty_none c.new-rows.result.items c.new-rows.ensures.items

pub loop-i-preserved : goal.loop-i-preserved
loop-i-preserved c = empty_more c.loop-i.rows.items c.push.new.self.items c.new.result c.loop-i.invariant c.new.ensures.items c.in_ok-push.ensures.items
