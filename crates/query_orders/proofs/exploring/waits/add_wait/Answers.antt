use Rattle.std.proofs.Common.{nat_lt, List, length, ap, ◌∙◌}
use Rattle.std.specs.Prelude.{insert, position, unwrap_or}
use Rattle.query_orders.specs.declared.answer.WaitingCall.{WaitingCall}
use Rattle.query_orders.proofs.exploring.waits.add_wait.Goals as goal

pub returns : goal.returns
returns c =
    c.in_ok-insert.ensures.items
    ∙ ap (λ at. insert c.args.waits.now.items at c.args.new)
    (c.place_among-at.ensures.place ∙ ap (λ (l : List WaitingCall). unwrap_or (position (λ (call : WaitingCall). nat_lt c.args.new.thread call.thread) l) (length l)) c.as_slice.ensures.value)
