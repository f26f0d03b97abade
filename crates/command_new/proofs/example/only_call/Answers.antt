-- The calls of the set-up are the one that was found.
use Rattle.std.proofs.Common.{sym, ◌∙◌}
use Rattle.command_new.proofs.OneCall.{only_call}
use Rattle.command_new.proofs.example.only_call.Goals as goal

pub returns : goal.returns
returns c =
    only_call c.args.setup.now.calls c.calls.result.now _ c.client_of.result c.expect.result c.calls.ensures c.in-len1.len_at_least c.in-len1.len_below
    c.client_of.ensures c.if-client_of-ne0.false c.expect.ensures (sym c.is_some.ensures ∙ c.if-is_some.false)
