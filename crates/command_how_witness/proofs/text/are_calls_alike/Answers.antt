-- Equal lists of calls are the same.
use Rattle.std.proofs.Common.{sym, ◌∙◌}
use Rattle.command_how_witness.proofs.SameCalls.{same_calls}
use Rattle.command_how_witness.proofs.text.are_calls_alike.Goals as goal

pub returns : goal.returns
returns c = λ is. same_calls c.args.some.now c.args.others.now (sym c.eq.ensures ∙ is)
