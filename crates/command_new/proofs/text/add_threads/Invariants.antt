use Rattle.std.proofs.Common.{◌≡◌, ◌++◌, string_bytes}
use Rattle.std.specs.List.{flat_map, range_with_len}
use Rattle.command_new.specs.Text.{thread_names}
use Rattle.command_new.proofs.text.add_threads.Given as goal

abbrev pub invariant-loop-thread : goal.invariant-loop-thread
invariant-loop-thread g l =
    string_bytes l.out ≡ string_bytes l.initial.out ++ flat_map (thread_names g.P.Profile.profile l.plan) (range_with_len 0 l.thread)
