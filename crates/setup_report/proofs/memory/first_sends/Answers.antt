use Rattle.std.proofs.Common.{sym, ap, ◌∙◌}
use Rattle.kernel_abstract.specs.Shown.{waiting_at}
use Rattle.setup_report.specs.Private.Roles.{is_sending}
use Rattle.setup_report.proofs.Sequences.Fronts.{sends_first, nobody_sends}
use Rattle.setup_report.proofs.memory.first_sends.Goals as goal

pub returns-in-Some : goal.returns-in-Some
returns-in-Some g c =
    let v = c.args.kernel.now in
    let e = c.args.endpoint in
    c.is_sending.ensures ∙ ap is_sending c.thread_state.ensures
    ∙ sends_first v e (waiting_at v e) c.in-Some.first (c.waiting.ensures.agree.listed e) (sym c.waiting.ensures.thread ∙ c.in-Some.is)

pub returns-in-None : goal.returns-in-None
returns-in-None g c =
    let v = c.args.kernel.now in
    sym (nobody_sends (waiting_at v c.args.endpoint) (sym c.waiting.ensures.thread ∙ c.in-None.is))
