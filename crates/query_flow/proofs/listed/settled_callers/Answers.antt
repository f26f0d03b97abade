-- The proof of `settled_callers`: the goals that a search leaves open.
use Rattle.std.proofs.Common.{◌∙◌}
use Rattle.query_flow.proofs.listed.settled_callers.Goals as goal

pub verdict_by-verdict-requires : goal.verdict_by-verdict-requires
verdict_by-verdict-requires g c = (c.loop-caller.caller-index, c.as_slice.ensures.value ∙ c.loop-caller.invariant.known)
