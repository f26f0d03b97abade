use Rattle.std.proofs.Common.{◌++◌, string_bytes, ap, ◌∙◌}
use Rattle.setup_report.specs.Naming.{naming_view}
use Rattle.command_trace.proofs.Kept.{messages_apart, messages_told, still_shows, still_told}
use Rattle.command_trace.proofs.lines.told.tell_messages.Goals as goal

pub add_message_changes-requires : goal.add_message_changes-requires
add_message_changes-requires g c =
    let texts = naming_view c.args.naming.now in
    let p = g.P.Profile.profile in
    let v = c.requires.0 in
    let w = c.args.kernel.now in
    record {
      old = messages_apart texts p v c.args.old.view.messages c.requires.1.view.messages;
      new = messages_apart texts p w c.in_ok-new.new (c.in_ok-new.ensures texts (still_shows texts p v w c.args.old.view.memory c.requires.2 c.requires.1.view.memory));
    }

pub returns-clause-text : goal.returns-clause-text
returns-clause-text g c =
    let texts = naming_view c.args.naming.now in
    let p = g.P.Profile.profile in
    let w = c.args.kernel.now in
    λ v told same.
    c.in_ok-add_message_changes.ensures
    ∙ ap (λ t. string_bytes c.args.out.now ++ t)
    (messages_told texts p v w c.args.old c.in_ok-new.new same told (c.in_ok-new.ensures texts (still_shows texts p v w c.args.old.view.memory same told.view.memory)))

pub returns-clause-told : goal.returns-clause-told
returns-clause-told g c =
    let texts = naming_view c.args.naming.now in
    let p = g.P.Profile.profile in
    let v = c.requires.0 in
    let w = c.args.kernel.now in
    still_told texts p v w c.args.old c.in_ok-new.new c.requires.2 c.requires.1 (c.in_ok-new.ensures texts (still_shows texts p v w c.args.old.view.memory c.requires.2 c.requires.1.view.memory))
