use Rattle.std.proofs.Common.{◌≡◌, drop, map}
use Rattle.command_policy_breaches.specs.Joins.{all_joined, single_block}
use Rattle.command_policy_breaches.proofs.joining.blocks.Given as goal

abbrev pub invariant-loop-join : goal.invariant-loop-join
invariant-loop-join l = all_joined l.blocks.items (drop l.join-index l.joins) ≡ all_joined (map single_block l.parts) l.joins
