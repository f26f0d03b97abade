use Rattle.std.proofs.Common.{◌≡◌, length, sym, ◌∙◌, rules}
use Rattle.setup_format.proofs.Grammar.Beside.{length-call_views}
use Rattle.setup_format.proofs.setup.SetupCalls.len.Goals as goal

pub returns : goal.returns
returns c =
    let count : c.len.result ≡ length c.self.inside.calls.items = search rules in
    rw (← c.self.view_is) (count ∙ sym (length-call_views c.self.inside.calls.items c.self.inside.callers.items c.self.invariant))
