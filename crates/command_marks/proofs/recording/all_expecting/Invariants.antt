-- The calls of the replies so far, and those to come.
use Rattle.std.proofs.Common.{◌≡◌, ◌++◌, drop, map}
use Rattle.toml.specs.View.{view, items_view}
use Rattle.command_marks.specs.Recorded.{all_expecting}
use Rattle.command_marks.proofs.recording.all_expecting.Given as goal

abbrev pub invariant-loop-place : goal.invariant-loop-place
invariant-loop-place l =
    map view l.made.items ++ all_expecting (items_view l.calls) l.place (drop l.place l.replies) ≡ all_expecting (items_view l.calls) 0 l.replies
