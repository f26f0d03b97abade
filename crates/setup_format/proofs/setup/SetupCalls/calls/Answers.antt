use Rattle.std.proofs.Common.{sym}
use Rattle.setup_format.proofs.Grammar.Beside.{calls_seen}
use Rattle.setup_format.proofs.setup.SetupCalls.calls.Goals as goal

pub returns : goal.returns
returns c = rw (c.as_slice.ensures.value, ← c.self.view_is) (sym (calls_seen c.self.inside.calls.items c.self.inside.callers.items c.self.invariant))
