-- What is excluded between two threads, whatever calls the threads make that are not trusted.
use Rattle.std.specs.Prelude.{◌≡◌, ◌≢◌, ◌==◌, ◌⊎◌, ⊤, ℕ, Bool, true, false, List, Ok}
use Rattle.std.specs.List.{list_any, AllByRecursion as Each}
use Rattle.cap_core.specs.declared.profile.ProfileName.{ProfileName}
use Rattle.cap_core.specs.declared.capability.Cap.TheVariants.{Tcb}
use Rattle.kernel_forest.specs.Forest.{Forest}
use Rattle.kernel_forest.specs.Entries.{Entry, cap_at}
use Rattle.kernel_abstract.specs.declared.call.Call.{Call}
use Rattle.kernel_abstract.specs.declared.call.Reply.{Reply}
use Rattle.kernel_abstract.specs.declared.call.Reply.TheVariants.{Delivered}
use Rattle.kernel_abstract.specs.Lookups.{slot_named}
use Rattle.kernel_abstract.specs.Shown.{Shown}
use Rattle.kernel_abstract.specs.State.{State, shown}
use Rattle.kernel_abstract.specs.Step.{step, state_after, replies_of}
use Rattle.kernel_abstract.specs.Reached.{IsReached}
use Rattle.query_parts.specs.Laws.{OnlyPasses}

-- a number is listed
abbrev pub is_number_listed : List ℕ → ℕ → Bool
is_number_listed numbers n = list_any (λ k. n == k) numbers

-- a call of a thread that is not trusted, or a send or a receive
abbrev pub IsOfOthers : List ℕ → Call → Type 0
IsOfOthers trusted call = (is_number_listed trusted call.thread ≡ false) ⊎ OnlyPasses call.op

-- what holds of each state that is shown, and of each list of calls of threads that are not trusted, with sends and receives of others
abbrev pub IsSoEver : ProfileName → List ℕ → Shown → (State → List Call → Type 0) → Type 0
IsSoEver p trusted v Holds =
    (A : State) → IsReached p A → v ≡ shown A → (calls : List Call) → Each (IsOfOthers trusted) calls → Holds A calls

-- a reply shows no delivery from the one thread to the other, but by an endpoint that is named
abbrev pub TellsNone : List ℕ → ℕ → ℕ → Reply → Type 0
TellsNone by from to (Delivered endpoint sender receiver badge message) = sender ≡ from → receiver ≡ to → is_number_listed by endpoint ≡ true
TellsNone by from to reply = ⊤

-- whatever calls threads make that are not trusted, no message of the one thread is delivered to the other, but by the endpoints that are
-- named
abbrev pub PassesNoneEver : ProfileName → List ℕ → Shown → List ℕ → ℕ → ℕ → Type 0
PassesNoneEver p trusted v by from to = IsSoEver p trusted v (λ A calls. Each (TellsNone by from to) (replies_of p A calls))

-- no word of the one thread leads to a capability to the other's control block
abbrev pub NamesNone : ProfileName → Forest Entry → ℕ → ℕ → Type 0
NamesNone p f from to = (word slot : ℕ) → slot_named p f (cap_at f from) word ≡ Ok slot → cap_at f slot ≢ Tcb to

-- whatever calls threads make that are not trusted, no word of the one thread leads to a capability to the other's control block
abbrev pub NamesNoneEver : ProfileName → List ℕ → Shown → ℕ → ℕ → Type 0
NamesNoneEver p trusted v from to = IsSoEver p trusted v (λ A calls. NamesNone p (state_after p A calls).derivations from to)

-- no call of the thread changes a slot
abbrev pub ChangesNone : ProfileName → State → ℕ → Type 0
ChangesNone p A from = (call : Call) → call.thread ≡ from → (step p A call).state.derivations ≡ A.derivations

-- whatever calls threads make that are not trusted, no call of the one thread changes a slot
abbrev pub ChangesNoneEver : ProfileName → List ℕ → Shown → ℕ → Type 0
ChangesNoneEver p trusted v from = IsSoEver p trusted v (λ A calls. ChangesNone p (state_after p A calls) from)
