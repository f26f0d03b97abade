-- Whether one thread's part is kept from another's: that it can never get a capability to an object that has bytes in that
-- part's memory, and that no message of it is ever delivered there, but by the endpoints that are named.
use Rattle.std.specs.Prelude.{ℕ, ◌+◌, ◌==◌, ◌&&◌, ◌||◌, nat_le, nat_lt, Bool, not, cond, List, filter, map, ◌++◌, Option, Some, None}
use Rattle.std.specs.List.{list_any}
use Rattle.cap_core.specs.declared.profile.ProfileName.{ProfileName}
use Rattle.cap_core.specs.Numbers.{endpoint_size}
use Rattle.cap_core.specs.Rights.{write_bit, read_bit}
use Rattle.query_parts.specs.declared.listed.PartMemory.{PartMemory}
use Rattle.query_parts.specs.declared.listed.PartUse.{PartUse}
use Rattle.query_parts.specs.Listed.{part_at}
use Rattle.setup_report.specs.State.{is_in, rising}
use Rattle.command_never.specs.declared.parts_kept.waits.Wait.{Wait}
use Rattle.command_never.specs.declared.parts_kept.never.Never.{Never}
use Rattle.command_never.specs.declared.parts_kept.never.Never.TheVariants.{Excluded, Possible}
use Rattle.command_parts.specs.Text.{is_part, is_use}

-- ---- an endpoint, and what a part has of it

-- a stretch of the part has one of so many bytes
abbrev pub has_some : ℕ → ℕ → ℕ → PartMemory → Bool
has_some part first size m = m.part == part && (nat_lt m.first (first + size) && nat_le first m.last)

-- some byte of the endpoint is memory of the part, as all are if the part owns it
abbrev pub has_bytes : ProfileName → List PartMemory → ℕ → ℕ → Bool
has_bytes p memory part endpoint = list_any (has_some part endpoint (endpoint_size p)) memory

-- a use of the part, of the endpoint
abbrev pub is_use_of : ℕ → ℕ → PartUse → Bool
is_use_of part endpoint u = u.part == part && u.endpoint == endpoint

-- a thread of the part waits on the endpoint to send; or to receive
abbrev pub is_waiting_sender : List PartMemory → ℕ → ℕ → Wait → Bool
is_waiting_sender memory part endpoint w = w.sends && (w.endpoint == endpoint && is_part part (part_at memory w.thread))

abbrev pub is_waiting_receiver : List PartMemory → ℕ → ℕ → Wait → Bool
is_waiting_receiver memory part endpoint w = not w.sends && (w.endpoint == endpoint && is_part part (part_at memory w.thread))

-- the part may send to the endpoint: it has bytes of it, or a use with Write, or one of its threads waits there to send
abbrev pub may_send_to : ProfileName → List PartMemory → List PartUse → List Wait → ℕ → ℕ → Bool
may_send_to p memory uses waits part endpoint =
    has_bytes p memory part endpoint
    || (list_any (is_use write_bit part endpoint) uses || list_any (is_waiting_sender memory part endpoint) waits)

-- the part may receive on it: it has bytes of it, or a use with Read, or one of its threads waits there to receive
abbrev pub may_receive_on : ProfileName → List PartMemory → List PartUse → List Wait → ℕ → ℕ → Bool
may_receive_on p memory uses waits part endpoint =
    has_bytes p memory part endpoint
    || (list_any (is_use read_bit part endpoint) uses || list_any (is_waiting_receiver memory part endpoint) waits)

-- ---- what is open from part i to part j

-- an endpoint that is not named is open: part i has a use of it, and part j has bytes of it; or part i may send to it, and
-- part j may receive on it
abbrev pub is_open : ProfileName → List PartMemory → List PartUse → List Wait → List ℕ → ℕ → ℕ → ℕ → Bool
is_open p memory uses waits by i j endpoint =
    not (is_in endpoint by)
    && ((list_any (is_use_of i endpoint) uses && has_bytes p memory j endpoint)
    || (may_send_to p memory uses waits i endpoint && may_receive_on p memory uses waits j endpoint))

-- the endpoints of which a part has a use, and those on which a thread waits: no other is open between two parts
abbrev pub endpoints_met : List PartUse → List Wait → List ℕ
endpoints_met uses waits = rising (map (λ (u : PartUse). u.endpoint) uses ++ map (λ (w : Wait). w.endpoint) waits)

-- those that are open
abbrev pub open_endpoints : ProfileName → List PartMemory → List PartUse → List Wait → List ℕ → ℕ → ℕ → List ℕ
open_endpoints p memory uses waits by i j = filter (is_open p memory uses waits by i j) (endpoints_met uses waits)

-- they are one part, or an endpoint is open
abbrev pub are_open : ProfileName → List PartMemory → List PartUse → List Wait → List ℕ → ℕ → ℕ → Bool
are_open p memory uses waits by i j = i == j || list_any (is_open p memory uses waits by i j) (endpoints_met uses waits)

-- ---- the answer

-- a thread that lies in no part is not bound by parts
abbrev pub never_between : ProfileName → List PartMemory → List PartUse → List Wait → List ℕ → Option ℕ → Option ℕ → Never
never_between p memory uses waits by None to = Possible
never_between p memory uses waits by (Some i) None = Possible
never_between p memory uses waits by (Some i) (Some j) = cond (are_open p memory uses waits by i j) Possible Excluded

-- for the parts of two threads
abbrev pub never : ProfileName → List PartMemory → List PartUse → List Wait → List ℕ → ℕ → ℕ → Never
never p memory uses waits by from to = never_between p memory uses waits by (part_at memory from) (part_at memory to)
