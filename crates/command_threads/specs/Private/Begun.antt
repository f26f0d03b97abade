-- What is known of a kernel after the first calls of a set-up, of the calls that clients make of it from there on, and of the
-- history of all of them.
use Rattle.std.specs.Prelude.{◌≡◌, ℕ, ◌<◌, ◌≤◌, ◌⊎◌, true, List, [], ◌++◌, map, length}
use Rattle.cap_core.specs.declared.profile.ProfileName.{ProfileName}
use Rattle.kernel_abstract.specs.declared.call.Call.{Call}
use Rattle.kernel_abstract.specs.declared.call.Reply.{Reply}
use Rattle.kernel_abstract.specs.Boot.{boot}
use Rattle.kernel_abstract.specs.Shown.{Shown}
use Rattle.kernel_abstract.specs.State.{State, shown}
use Rattle.kernel_abstract.specs.Step.{replies_of, state_after}
use Rattle.kernel_shared.specs.declared.entry.Entry.{Entry}
use Rattle.kernel_shared.specs.Laws.{entry_calls, replies_in, are_entries_numbered}
use Rattle.setup_format.specs.Views.{SetupView, CallView}
use Rattle.command_threads.specs.SharedRuns.{IsBeginning, call_asked, call_made, calls_by, client_calls, first_calls}

abbrev pub calls_in : List CallView → List Call
calls_in calls = map (λ (c : CallView). c.call) calls

-- the state after the first calls
abbrev pub state_begun : ProfileName → SetupView → ℕ → State
state_begun p setup first = state_after p (boot p setup.plan) (calls_in (first_calls first setup))

-- the replies to the first calls, and a kernel after them
pub record IsBegunKernel (p : ProfileName) (setup : SetupView) (first : ℕ) (replies : List Reply) (kernel : Shown) : Type 0 where
  pub answered : replies ≡ replies_of p (boot p setup.plan) (calls_in (first_calls first setup))
  pub stands : kernel ≡ shown (state_begun p setup first)

-- A history that clients can make of a kernel that they share, from a state on: of these calls, each its own, in a history of so
-- many entries at the most.
pub record IsSharedFrom (ends : ℕ → ℕ → Type 0) (p : ProfileName) (start : State) (calls : List CallView) (limit : ℕ) (history : List Entry) : Type 0 where
  pub replies : replies_in history ≡ replies_of p start (entry_calls history)
  pub within : length history ≤ limit
  pub beginnings : (client : ℕ) → IsBeginning (calls_by client history) (client_calls client calls)
  pub unless_full : length history < limit → (client : ℕ)
      → (calls_by client history ≡ client_calls client calls) ⊎ ends client (length (calls_by client history))
  pub whole : length history ≡ length calls → (client : ℕ) → calls_by client history ≡ client_calls client calls

-- entries with the same clients, calls and replies as others
pub record AreSameCalls (entries others : List Entry) : Type 0 where
  pub same : map call_made entries ≡ map call_made others
  pub replies : replies_in entries ≡ replies_in others

-- entries of these calls, with these replies
pub record AreEntriesOf (calls : List CallView) (replies : List Reply) (entries : List Entry) : Type 0 where
  pub calls_are : map call_made entries ≡ map call_asked calls
  pub replies_are : replies_in entries ≡ replies

-- the same calls as those of others, after these entries
pub record AreBehind (old others new : List Entry) : Type 0 where
  pub behind : List Entry
  pub is : new ≡ old ++ behind
  pub same : AreSameCalls behind others

-- a history of calls with their replies, and then of the calls of another history, each client's numbered anew
pub record IsWhole (calls : List CallView) (replies : List Reply) (later history : List Entry) : Type 0 where
  pub before : List Entry
  pub first : AreEntriesOf calls replies before
  pub then : AreBehind before later history
  pub numbered : are_entries_numbered [] history ≡ true
