-- A row for each thread and a row for each endpoint: the queues that lie in them.
use Rattle.std.specs.Prelude.{◌≡◌, ℕ, ◌==◌, ◌%◌, ◌/◌, ◌<◌, cond, true, List, [], ◌∷◌, map, length, get_or, Option, Some, None, option_map}
use Rattle.std.specs.List.{AllByRecursion as Each}
use Rattle.cap_core.specs.declared.profile.ProfileName.{ProfileName}
use Rattle.cap_core.specs.declared.message.Message.{Message}
use Rattle.cap_core.specs.declared.capability.Badge.{Badge}
use Rattle.cap_core.specs.Numbers.{tcb_size, endpoint_size}
use Rattle.ipc_core.specs.declared.waiter.Waiter.{Waiter}
use Rattle.ipc_core.specs.declared.waiter.Waiter.TheVariants.{Sender, Receiver}
use Rattle.ipc_core.specs.declared.waiter.Role.{Role}
use Rattle.ipc_core.specs.declared.waiter.Role.TheVariants.{Sending, Receiving}
use Rattle.ipc_core.specs.declared.tables.QueueRow.{QueueRow}
use Rattle.ipc_core.specs.declared.tables.EndpointRow.{EndpointRow}
use Rattle.ipc_core.specs.declared.tables.Tables.{Tables}
use Rattle.ipc_core.specs.Waits.{Waits, Offer, changed, endpoint_of}
use Rattle.ipc_core.specs.Representation.Chains.{IsChain, IsApart, has, walk}

-- the row of a thread that waits nowhere, and of an endpoint on which nobody waits
abbrev pub free_row : QueueRow
free_row =
    record {
      role = None;
      badge = record { 0 = 0 };
      message = record { label = 0; words = 0 ∷ 0 ∷ 0 ∷ 0 ∷ []; count = 0 };
      previous = None;
      next = None;
    }

abbrev pub idle_row : EndpointRow
idle_row = record { first = None; last = None }

-- rows of a thread that waits, before its links are set
abbrev pub sending_row : ℕ → Badge → Message → QueueRow
sending_row e badge message =
    record { role = Some (Sending e); badge = badge; message = message; previous = None; next = None }

abbrev pub receiving_row : ℕ → QueueRow
receiving_row e =
    record { role = Some (Receiving e); badge = free_row.badge; message = free_row.message; previous = None; next = None }

-- rows of objects of one size, by the address of the object; a default elsewhere
abbrev pub row_at : {X : Type 0} → ℕ → X → List X → ℕ → X
row_at size other rows address = cond (address % size == 0) (get_or rows (address / size) other) other

-- an address has a row
pub record HasRow {X : Type 0} (size : ℕ) (rows : List X) (address : ℕ) : Type 0 where
  pub aligned : address % size ≡ 0
  pub within : address / size < length rows

-- the rows as functions of addresses
pub record Links : Type 0 where
  pub thread : ℕ → QueueRow
  pub endpoint : ℕ → EndpointRow

abbrev pub links_of : ProfileName → Tables → Links
links_of p tables =
    record {
      thread = row_at (tcb_size p) free_row tables.threads.items;
      endpoint = row_at (endpoint_size p) idle_row tables.endpoints.items;
    }

-- what waits, by a thread's row
abbrev pub waiter_in : ℕ → Badge → Message → Option Role → Waiter
waiter_in thread badge message None = Receiver thread
waiter_in thread badge message (Some (Receiving e)) = Receiver thread
waiter_in thread badge message (Some (Sending e)) = Sender thread badge message

abbrev pub waiter_of : QueueRow → ℕ → Waiter
waiter_of row thread = waiter_in thread row.badge row.message row.role

abbrev pub receiver_by : ℕ → Option Role → Option ℕ
receiver_by thread None = None
receiver_by thread (Some (Receiving e)) = Some thread
receiver_by thread (Some (Sending e)) = None

abbrev pub offer_by : ℕ → Badge → Message → Option Role → Option Offer
offer_by thread badge message None = None
offer_by thread badge message (Some (Receiving e)) = None
offer_by thread badge message (Some (Sending e)) = Some (record { thread = thread; badge = badge; message = message })

-- the thread, if it receives; what it sends, if it sends
abbrev pub receiver_in : ℕ → QueueRow → Option ℕ
receiver_in thread row = receiver_by thread row.role

abbrev pub offer_in : ℕ → QueueRow → Option Offer
offer_in thread row = offer_by thread row.badge row.message row.role

-- the threads that wait on an endpoint, by the links
abbrev pub order_of : ℕ → Links → ℕ → List ℕ
order_of n l e = walk (λ t. (l.thread t).next) n (l.endpoint e).first

-- who waits where, given who waits on each endpoint
abbrev pub waits_by : Links → (ℕ → List ℕ) → Waits
waits_by l orders =
    record { queue = λ e. map (λ t. waiter_of (l.thread t) t) (orders e); role = λ t. (l.thread t).role }

-- the links are those of these queues: each thread that waits is in the queue of its endpoint, once, and in no other
pub record AreLinked (size n : ℕ) (l : Links) (orders : ℕ → List ℕ) : Type 0 where
  pub chain : (e : ℕ) → IsChain (λ t. (l.thread t).next) (λ t. (l.thread t).previous) None (l.endpoint e).first (orders e) (l.endpoint e).last
  pub apart : (e : ℕ) → IsApart (orders e)
  pub members : (e : ℕ) → Each (λ t. option_map endpoint_of (l.thread t).role ≡ Some e) (orders e)
  pub found : (t : ℕ) (r : Role) → (l.thread t).role ≡ Some r → has t (orders (endpoint_of r)) ≡ true
  pub placed : (t : ℕ) (r : Role) → (l.thread t).role ≡ Some r → (t % size ≡ 0) × (t / size < n)

-- what tables stand for, and that they do
abbrev pub orders_in : ProfileName → Tables → ℕ → List ℕ
orders_in p tables = order_of (length tables.threads.items) (links_of p tables)

-- who waits where, by the linked tables
abbrev pub waits_in : ProfileName → Tables → Waits
waits_in p tables = waits_by (links_of p tables) (orders_in p tables)

abbrev pub IsLinked : ProfileName → Tables → Type 0
IsLinked p tables = AreLinked (tcb_size p) (length tables.threads.items) (links_of p tables) (orders_in p tables)

-- a row with one link changed
abbrev pub with_next : Option ℕ → QueueRow → QueueRow
with_next next row =
    record { role = row.role; badge = row.badge; message = row.message; previous = row.previous; next = next }

abbrev pub with_previous : Option ℕ → QueueRow → QueueRow
with_previous previous row =
    record { role = row.role; badge = row.badge; message = row.message; previous = previous; next = row.next }

-- a row of a thread that waits no more; its links are stale
abbrev pub with_role : Option Role → QueueRow → QueueRow
with_role role row =
    record { role = role; badge = row.badge; message = row.message; previous = row.previous; next = row.next }

-- one row is changed
abbrev pub set_row : ℕ → (QueueRow → QueueRow) → Links → Links
set_row t change l = record { thread = changed l.thread t (change (l.thread t)); endpoint = l.endpoint }

abbrev pub set_endpoint_row : ℕ → EndpointRow → Links → Links
set_endpoint_row e row l = record { thread = l.thread; endpoint = changed l.endpoint e row }

-- what stands before is led to what comes next, and the other way round
abbrev pub led : ℕ → Option ℕ → Option ℕ → Links → Links
led e None next l = set_endpoint_row e (record { first = next; last = (l.endpoint e).last }) l
led e (Some p) next l = set_row p (with_next next) l

abbrev pub led_back : ℕ → Option ℕ → Option ℕ → Links → Links
led_back e None previous l = set_endpoint_row e (record { first = (l.endpoint e).first; last = previous }) l
led_back e (Some n) previous l = set_row n (with_previous previous) l
