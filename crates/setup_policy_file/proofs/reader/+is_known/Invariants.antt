use Rattle.std.proofs.Common.{length}
use Rattle.setup_policy_file.proofs.reader.+is_known.Given as goal

abbrev pub decreases-is_known : goal.decreases-is_known
decreases-is_known l = length l.known.now
