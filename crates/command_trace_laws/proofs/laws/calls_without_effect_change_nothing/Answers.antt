-- The proof of `calls_without_effect_change_nothing`: the goals that a search leaves open.
use Rattle.kernel_abstract.specs.declared.call.Reply.TheVariants.{Dropped, Empty, Refused}
use Rattle.command_trace_laws.proofs.Replays.{same_told, reply_says}
use Rattle.command_trace_laws.proofs.laws.calls_without_effect_change_nothing.Goals as goal

pub returns : goal.returns
returns c =
    record {
      refused = λ texts p A call refusal is. same_told texts p A call (reply_says p A call (Refused refusal) is);
      dropped = λ texts p A call is. same_told texts p A call (reply_says p A call Dropped is);
      empty = λ texts p A call is. same_told texts p A call (reply_says p A call Empty is);
    }
