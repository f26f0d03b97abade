use Rattle.std.proofs.Common.{◌≡◌, false, take}
use Rattle.setup_policy_meaning.specs.Policies.{is_member}
use Rattle.setup_policy_meaning.proofs.resolve.has_thread.Given as goal

abbrev pub invariant-loop-member : goal.invariant-loop-member
invariant-loop-member l = is_member l.thread (take l.member-index l.members) ≡ false
