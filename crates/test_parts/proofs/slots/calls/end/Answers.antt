use Rattle.test_parts.proofs.KeptForests.{range_small}
use Rattle.std.proofs.Common.{sym, ◌∙◌}
use Rattle.test_parts.proofs.slots.calls.end.Goals as goal

pub overflow_shl-result : goal.overflow_shl-result
overflow_shl-result g c = range_small g.P.Profile.profile c.args.cap c.in-Some.range c.requires (sym c.range_of.ensures ∙ c.in-Some.is)
