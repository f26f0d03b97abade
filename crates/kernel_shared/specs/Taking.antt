-- The history after a request.
use Rattle.std.specs.Prelude.{ℕ, ◌==◌, cond, List, [], ◌∷◌, ◌++◌, length}
use Rattle.cap_core.specs.declared.profile.ProfileName.{ProfileName}
use Rattle.kernel_abstract.specs.State.{State}
use Rattle.kernel_abstract.specs.Step.{step, state_after}
use Rattle.kernel_shared.specs.declared.entry.Entry.{Entry}
use Rattle.kernel_shared.specs.Laws.{client_entry, entry_calls, count_of}
use Rattle.kernel_shared.specs.declared.request.Request.{Request}

-- the entry that a request adds: the reply is the step's, in the state after the history
abbrev pub taken_entry : ProfileName → State → List Entry → Request → Entry
taken_entry p start h r = client_entry r.client r.number r.call (step p (state_after p start (entry_calls h)) r.call).reply

-- a history that is full, or has another count of the client's entries than the number, stays
abbrev pub taken : ProfileName → State → ℕ → List Entry → Request → List Entry
taken p start limit h r =
    cond (length h == limit) h (cond (r.number == count_of r.client h) (h ++ taken_entry p start h r ∷ []) h)
