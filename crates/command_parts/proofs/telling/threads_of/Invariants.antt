use Rattle.std.proofs.Common.{◌≡◌, take}
use Rattle.command_parts.specs.Telling.{threads_at_home}
use Rattle.command_parts.proofs.telling.threads_of.Given as goal

abbrev pub invariant-loop-home : goal.invariant-loop-home
invariant-loop-home l = l.threads.items ≡ threads_at_home (take l.home-index l.homes) l.part
