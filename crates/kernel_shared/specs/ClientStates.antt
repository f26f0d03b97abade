-- What contracts see of a client.
use Rattle.std.specs.Prelude.{◌≡◌, ℕ, ◌+◌, ◌≤◌, ◌<◌, ◌^◌, ◌==◌, ◌&&◌, nat_lt, Bool, List, [], ◌∷◌, ◌++◌, length, take, filter, count_by, slice_get, Option, Some, None}
use Rattle.cap_core.specs.declared.profile.ProfileName.{ProfileName}
use Rattle.kernel_abstract.specs.declared.call.Call.{Call}
use Rattle.kernel_abstract.specs.declared.call.Reply.{Reply}
use Rattle.kernel_abstract.specs.Shown.{Shown}
use Rattle.kernel_shared.specs.declared.entry.Entry.{Entry}
use Rattle.kernel_shared.specs.Laws.{Lawful, client_entry, entry_calls, count_of}
use Rattle.kernel_shared.specs.declared.client.Stray.{Stray}
use Rattle.kernel_shared.specs.Fronts.{StartsWith}

-- a call that was published and not found afterwards, and the front that was answered
pub record Lost : Type 0 where
  pub call : Call
  pub front : List Entry

-- its number, how many of its calls were answered, the front that it saw last, and the call that was lost
pub record ClientState : Type 0 where
  pub id : ℕ
  pub done : ℕ
  pub front : List Entry
  pub stray : Option Lost

-- a call that was lost, with what its client had seen of the history
abbrev pub lost : Call → List Entry → Lost
lost call front = record { call = call; front = front }

-- a client: its number, how many calls it has made, how much of the history it has seen, and a call that was lost
abbrev pub client_state : ℕ → ℕ → List Entry → Option Lost → ClientState
client_state id done front stray = record { id = id; done = done; front = front; stray = stray }

-- a client's entry with a number below this one
abbrev pub is_earlier_entry : ℕ → ℕ → Entry → Bool
is_earlier_entry id number e = e.client == id && nat_lt e.number number

-- a client's entry with this number
abbrev pub is_numbered_as : ℕ → ℕ → Entry → Bool
is_numbered_as id number e = e.client == id && e.number == number

-- the call that was lost, if any
abbrev pub lost_calls : Option Lost → List Call
lost_calls None = []
lost_calls (Some l) = l.call ∷ []

-- the calls that the client made: those of its entries that were answered, in order, and then the one that was lost
abbrev pub client_calls_made : ClientState → List Call
client_calls_made t = entry_calls (filter (is_earlier_entry t.id t.done) t.front) ++ lost_calls t.stray

-- how many it made: its share of the ledger
abbrev pub made : ClientState → ℕ
made t = t.done + length (lost_calls t.stray)

-- the call that was lost since
abbrev pub newly_lost : Option Lost → Option Lost → List Call
newly_lost None stray = lost_calls stray
newly_lost (Some l) stray = []

-- the front has no entry of the client with this number
abbrev pub holds_not : ℕ → ℕ → List Entry → Type 0
holds_not id number front = count_by (is_numbered_as id number) front ≡ 0

-- the lost call with as much of what is seen as was seen when it was missed
abbrev pub lost_of : Option Stray → List Entry → Option Lost
lost_of None seen = None
lost_of (Some s) seen = Some (lost s.call (take s.seen seen))

-- the front of the lost call has just the entries of the calls that were answered
abbrev pub stray_fits : ℕ → ℕ → Option Stray → List Entry → Type 0
stray_fits id done None seen = Unit {0}
stray_fits id done (Some s) seen = (s.seen ≤ length seen) × (count_of id (take s.seen seen) ≡ done)

abbrev pub strays : Option Stray → ℕ
strays None = 0
strays (Some s) = 1

-- What a client keeps of its parts: one part of the ledger, which counts its calls; its front lies within what its reader
-- saw, which is lawful, and has the entries of the calls that were answered.
pub record IsClient (p : ProfileName) (opening : Shown) (id done parts amount seen : ℕ) (stray : Option Stray) (view : List Entry) : Type 0 where
  pub one_part : parts ≡ 1
  pub counted : amount ≡ done + strays stray
  pub within : seen ≤ length view
  pub lawful : ∥ Lawful p opening view ∥₁
  pub has_done : done ≤ count_of id (take seen view)
  pub fits : stray_fits id done stray view
  pub small : amount < 2 ^ 32

-- A call was answered. The front then begins with all that was seen; past that stands the call with its reply, once; and of
-- the client's entries the front has just those of the calls that it made.
pub record IsAnswered (old : ClientState) (call : Call) (reply : Reply) (new : ClientState) : Type 0 where
  pub later : StartsWith new.front old.front
  pub place : ℕ
  pub past : length old.front ≤ place
  pub stands : slice_get new.front place ≡ Some (client_entry old.id old.done call reply)
  pub once : count_by (is_numbered_as old.id old.done) new.front ≡ 1
  pub just : count_of old.id new.front ≡ new.done
  pub counted : new.done ≡ old.done + 1
  pub whole : (old.stray ≡ None) × (new.stray ≡ None)

-- the front of each client begins the history
abbrev pub EachBegins : List Entry → List ClientState → Type 0
EachBegins h clients = (place : ℕ) (c : ClientState) → slice_get clients place ≡ Some c → StartsWith h c.front
