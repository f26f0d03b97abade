use Rattle.std.specs.Map.Iter.{deref}
use Rattle.command_trace.specs.Lines.{line_at, endpoint_text_at}
use Rattle.command_trace.proofs.Listed.{told_more}
use Rattle.command_trace.proofs.lines.messages.endpoint_rows.Goals as goal

pub loop-endpoint-preserved : goal.loop-endpoint-preserved
loop-endpoint-preserved g c texts =
    told_more (line_at (endpoint_text_at texts c.args.kernel.now)) deref c.loop-endpoint.yielded c.in-Some.endpoint _ _ (c.loop-endpoint.invariant texts) (c.in_ok-add_endpoint.ensures texts)
