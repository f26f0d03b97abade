-- The proof of `run`: what holds at each turn of its loop.
use Rattle.std.proofs.Common.{◌≡◌, ℕ, ◌+◌, ◌≤◌, ◌-◌, ◌++◌, length, take, vec_len, vec_capacity}
use Rattle.kernel_abstract.specs.State.{State, shown}
use Rattle.kernel_abstract.specs.Step.{replies_of, state_after}
use Rattle.kernel_abstract.specs.Reached.{IsReached}
use Rattle.kernel_abstract.specs.Memory.{IsInMemory}
use Rattle.kernel_core.proofs.kernel.Kernel.run.Given as goal

abbrev pub invariant-loop-call : goal.invariant-loop-call
invariant-loop-call g l =
    record {
      room : vec_len l.replies + (length l.calls - l.call-index) ≤ vec_capacity l.replies;
      so_far : (A : State) → IsReached g.P.Profile.profile A → l.fn.self ≡ shown A → l.replies.items ≡ l.fn.replies.items ++ replies_of g.P.Profile.profile A (take l.call-index l.calls);
      stands : (A : State) → IsReached g.P.Profile.profile A → l.fn.self ≡ shown A → l.self ≡ shown (state_after g.P.Profile.profile A (take l.call-index l.calls));
      within : (memory : ℕ) → IsInMemory g.P.Profile.profile memory l.fn.self → IsInMemory g.P.Profile.profile memory l.self;
    }
