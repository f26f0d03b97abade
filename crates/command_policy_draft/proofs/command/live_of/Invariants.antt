use Rattle.std.proofs.Common.{◌≡◌, take}
use Rattle.command_policy_draft.specs.Drafts.{live_of}
use Rattle.command_policy_draft.proofs.command.live_of.Given as goal

abbrev pub invariant-loop-thread : goal.invariant-loop-thread
invariant-loop-thread l = l.left.items ≡ live_of (take l.thread-index l.threads) l.live l.others
