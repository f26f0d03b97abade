use Rattle.std.proofs.Common.{◌≡◌, drop, map, string_bytes}
use Rattle.setup_policy_file.specs.Files.{alone_of, group_view}
use Rattle.setup_policy_file.specs.Values.{all_of}
use Rattle.setup_policy_file.proofs.Loops.{with_front}
use Rattle.setup_policy_file.proofs.reading.alone_groups.Given as goal

abbrev pub invariant-loop-i : goal.invariant-loop-i
invariant-loop-i l = with_front (map group_view l.groups.items) (all_of alone_of (map string_bytes (drop l.i l.names))) ≡ all_of alone_of (map string_bytes l.names)
