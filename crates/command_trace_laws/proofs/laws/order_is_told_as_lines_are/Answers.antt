-- The proof of `order_is_told_as_lines_are`: the goals that a search leaves open.
use Rattle.kernel_abstract.specs.declared.call.Reply.TheVariants.{Dropped, Empty, Refused}
use Rattle.command_trace_laws.proofs.Orders.{order_applied, order_back, order_replayed, same_told_whole}
use Rattle.command_trace_laws.proofs.Replays.{reply_says}
use Rattle.command_trace_laws.proofs.laws.order_is_told_as_lines_are.Goals as goal

pub returns : goal.returns
returns c =
    record {
      applied = order_applied;
      back = order_back;
      replayed = order_replayed;
      refused = λ texts p A call refusal is. same_told_whole texts p A call (reply_says p A call (Refused refusal) is);
      dropped = λ texts p A call is. same_told_whole texts p A call (reply_says p A call Dropped is);
      empty = λ texts p A call is. same_told_whole texts p A call (reply_says p A call Empty is);
    }
