use Rattle.std.proofs.Common.{◌≡◌, option_map}
use Rattle.toml.specs.Data.{get_item}
use Rattle.toml.specs.View.{view, items_view}
use Rattle.command_marks.proofs.Recordings.{view_at, added, none_added}
use Rattle.command_marks.proofs.recording.add_expecting.Goals as goal

pub returns-in_ok-push : goal.returns-in_ok-push
returns-in_ok-push c =
    let found = c.get.ensures.lookup in
    added (items_view c.args.calls.now) c.args.place c.args.reply c.get.result c.in-Some.call c.args.made.now.items c.push.new.self.items c.in_ok-expecting.field-0
    (view_at c.get.result c.args.calls.now c.args.place found.1 found.3) c.in-Some.is c.in_ok-expecting.ensures c.in_ok-push.ensures.items

pub returns-in_default : goal.returns-in_default
returns-in_default c =
    let found = c.get.ensures.lookup in
    none_added (items_view c.args.calls.now) c.args.place c.args.reply c.get.result c.args.made.now.items
    (view_at c.get.result c.args.calls.now c.args.place found.1 found.3) c.in_default.is
