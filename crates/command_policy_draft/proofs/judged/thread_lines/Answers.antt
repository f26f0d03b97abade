-- Each thread is told of, in the order that they have.
use Rattle.std.proofs.Common.{ap, map, ◌∙◌, take_all}
use Rattle.command_policy_text.specs.Told.{line_told}
use Rattle.command_policy_draft.proofs.Lines.{threads_told}
use Rattle.command_policy_draft.proofs.judged.thread_lines.Goals as goal

pub returns : goal.returns
returns c =
    let h = c.held-held.result in
    let of = c.held-held.ensures in
    c.loop-told.invariant
    ∙ (ap (map (line_told h.policy.now h.layout.now h.labels.now h.homes.now))
    (take_all c.loop-told.told-index c.deref-told-items.result.now c.loop-told-test.false ∙ (c.deref-told-items.ensures.value ∙ c.in_ok-threads.ensures))
    ∙ threads_told c.args.judged.now h.policy.now h.layout.now h.labels.now h.homes.now of.policy of.layout of.labels of.homes)
