use Rattle.std.proofs.Common.{◌≡◌, ◌++◌, string_bytes}
use Rattle.std.specs.List.{flat_map}
use Rattle.std.proofs.lemmas.Result.{on_ok_weaker}
use Rattle.setup_report.specs.Naming.{naming_view}
use Rattle.command_audit.specs.Channels.{unserved_lines}
use Rattle.command_audit.proofs.Lines.{all_channels}
use Rattle.command_audit.proofs.channels.add_channels.Goals as goal

pub returns : goal.returns
returns c =
    let names = naming_view c.args.naming.now in
    let keys = c.args.endpoints.now.keys in
    on_ok_weaker _
    (λ (told : string_bytes c.add_unserved.new.out ≡ string_bytes c.add_senders.new.out ++ flat_map (unserved_lines names c.as_slice-2.result.now) keys).
    all_channels names c.args.words.now _ _ keys (string_bytes c.args.out.now) _ _ c.in_ok-list.ensures c.in_ok-words.ensures.same
    (rw c.as_slice.ensures.value at c.in_ok-add_senders.ensures) (rw c.as_slice-2.ensures.value at told))
    c.add_unserved.ensures
