use Rattle.setup_report.specs.Naming.{naming_view}
use Rattle.command_trace.proofs.lines.state.view_of.Goals as goal

pub returns : goal.returns
returns g c =
    let memory = c.in_ok-memory.ensures c.args.kernel.now c.requires.list c.requires.apart in
    record { memory = memory; messages = c.in_ok-messages.ensures (naming_view c.args.naming.now) memory }
