use Rattle.std.proofs.Common.{◌≡◌, ◌++◌, drop}
use Rattle.std.specs.List.{filter_map}
use Rattle.command_parts.specs.Telling.{home_of}
use Rattle.command_parts.proofs.telling.homes.Given as goal

abbrev pub invariant-loop-thread : goal.invariant-loop-thread
invariant-loop-thread l = l.homes.items ++ filter_map (home_of l.memory) (drop l.thread-index l.threads) ≡ filter_map (home_of l.memory) l.threads
