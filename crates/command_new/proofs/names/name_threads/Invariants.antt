use Rattle.std.proofs.Common.{◌≡◌, ◌<◌, ◌++◌, ℕ, codes, Some}
use Rattle.std.specs.Fmt.{decimal}
use Rattle.kernel_abstract.specs.Plan.{tcb_place}
use Rattle.setup_values.specs.Names.{names_view, word_named}
use Rattle.command_new.proofs.names.name_threads.Given as goal

-- the names so far stand for the threads' addresses
abbrev pub invariant-loop-thread : goal.invariant-loop-thread
invariant-loop-thread g l =
    (i : ℕ) → i < l.thread-counter → word_named (names_view l.known) (codes "thread_" ++ decimal i) ≡ Some (tcb_place g.P.Profile.profile l.plan i)
