-- When a history is lawful, and what a kernel stands for after it.
use Rattle.std.specs.Prelude.{◌≡◌, ℕ, ◌<◌, ◌==◌, ◌&&◌, Bool, true, List, [], ◌∷◌, ◌++◌, map, count_by, slice_index}
use Rattle.cap_core.specs.declared.profile.ProfileName.{ProfileName}
use Rattle.cap_core.specs.Limits.{max_clients}
use Rattle.kernel_abstract.specs.declared.call.Call.{Call}
use Rattle.kernel_abstract.specs.declared.call.Reply.{Reply}
use Rattle.kernel_abstract.specs.State.{State, shown}
use Rattle.kernel_abstract.specs.Shown.{Shown}
use Rattle.kernel_abstract.specs.Step.{state_after, replies_of}
use Rattle.kernel_abstract.specs.Reached.{IsReached}
use Rattle.kernel_shared.specs.declared.entry.Entry.{Entry}

-- an entry of a history: a client's call with its number and its reply
abbrev pub client_entry : ℕ → ℕ → Call → Reply → Entry
client_entry client number call reply = record { client = client; number = number; call = call; reply = reply }

abbrev pub entry_calls : List Entry → List Call
entry_calls h = map (λ (e : Entry). e.call) h

abbrev pub replies_in : List Entry → List Reply
replies_in h = map (λ (e : Entry). e.reply) h

-- how many entries a client has
abbrev pub count_of : ℕ → List Entry → ℕ
count_of client h = count_by (λ (e : Entry). e.client == client) h

-- past these entries, each entry's number is how many its client had before
unfoldable pub are_entries_numbered : List Entry → List Entry → Bool
are_entries_numbered past [] = true
are_entries_numbered past (e ∷ es) = (e.number == count_of e.client past) && are_entries_numbered (past ++ e ∷ []) es

-- The replies are those of a run from any state that the opening stands for, and each client's entries are numbered in order.
pub record Lawful (p : ProfileName) (opening : Shown) (h : List Entry) : Type 0 where
  pub answered : (A : State) → IsReached p A → opening ≡ shown A → replies_in h ≡ replies_of p A (entry_calls h)
  pub numbered : are_entries_numbered [] h ≡ true

-- the kernel stands for the state after the history
pub record StandsAfter (p : ProfileName) (opening : Shown) (h : List Entry) (k : Shown) : Type 0 where
  pub stands : (A : State) → IsReached p A → opening ≡ shown A → k ≡ shown (state_after p A (entry_calls h))

-- a reached state that shows what the opening of a history shows
pub record Begins (p : ProfileName) (start : State) (opening : Shown) : Type 0 where
  pub reached : IsReached p start
  pub shows : opening ≡ shown start

-- a table of the counts of the first clients
abbrev pub AreCounts : List ℕ → List Entry → Type 0
AreCounts counts h = (client : ℕ) → client < max_clients → slice_index counts client ≡ count_of client h
