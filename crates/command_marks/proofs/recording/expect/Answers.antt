use Rattle.toml.proofs.Views.{view-String}
use Rattle.command_marks.proofs.Recordings.{expected}
use Rattle.command_marks.proofs.recording.expect.Goals as goal

pub returns : goal.returns
returns c =
    expected c.args.call.now.entries c.insert.new.self.entries c.in_ok-from_str.field-0 c.in_ok-text.text _ c.args.reply c.in_ok-insert.ensures.entries c.in_ok-from_str.ensures.ok (view-String _) c.in_ok-text.ensures
