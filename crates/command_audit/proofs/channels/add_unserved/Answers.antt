use Rattle.std.proofs.Common.{◌∙◌, ap, ◌++◌, string_bytes}
use Rattle.std.specs.Map.Iter.{deref}
use Rattle.setup_report.specs.Naming.{naming_view}
use Rattle.command_audit.specs.Channels.{unserved_lines}
use Rattle.command_audit.proofs.Joined.{flat_yielded}
use Rattle.command_audit.proofs.Lines.{unserved_at}
use Rattle.command_audit.proofs.channels.add_unserved.Goals as goal

pub loop-endpoint-preserved : goal.loop-endpoint-preserved
loop-endpoint-preserved c =
    let own = unserved_at (naming_view c.args.naming.now) c.args.words.now _ _ _ c.words_at-own.ensures c.in_ok-receivers.ensures in
    flat_yielded (unserved_lines (naming_view c.args.naming.now) c.args.words.now) deref c.loop-endpoint.yielded c.in-Some.endpoint (string_bytes c.args.out.now) _ _ c.loop-endpoint.invariant
    (rw c.as_slice.ensures.value at c.in_ok-add_receivers.ensures ∙ ap (λ l. string_bytes c.loop-endpoint.out ++ l) own)
