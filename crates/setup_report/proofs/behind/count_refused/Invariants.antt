use Rattle.std.proofs.Common.{◌≡◌, take}
use Rattle.std.specs.List.{count_by}
use Rattle.setup_report.specs.Behind.{is_refused_reply}
use Rattle.setup_report.proofs.behind.count_refused.Given as goal

abbrev pub invariant-loop-reply : goal.invariant-loop-reply
invariant-loop-reply l = l.count ≡ count_by is_refused_reply (take l.reply-index l.replies)
