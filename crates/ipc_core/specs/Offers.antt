-- What a thread sends that waits to send.
use Rattle.std.specs.Prelude.{ℕ, ◌==◌, cond, List, [], ◌∷◌, Option, Some, None}
use Rattle.std.specs.Option.{option_or}
use Rattle.ipc_core.specs.declared.waiter.Waiter.{Waiter}
use Rattle.ipc_core.specs.declared.waiter.Waiter.TheVariants.{Sender, Receiver}
use Rattle.ipc_core.specs.declared.waiter.Offer.{Offer}
use Rattle.ipc_core.specs.declared.waiter.Role.{Role}
use Rattle.ipc_core.specs.declared.waiter.Role.TheVariants.{Sending, Receiving}
use Rattle.ipc_core.specs.Waits.{Waits, thread_of}

-- what a waiter sends, if it sends
abbrev pub offer_by : Waiter → Option Offer
offer_by (Sender thread badge message) = Some (record { thread = thread; badge = badge; message = message })
offer_by (Receiver thread) = None

-- what a thread sends that is in a waiting list
abbrev pub offer_in : ℕ → List Waiter → Option Offer
offer_in t [] = None
offer_in t (x ∷ list) = option_or (cond (thread_of x == t) (offer_by x) None) (offer_in t list)

-- what a thread sends that waits in this role, and none does if it waits nowhere
abbrev pub offer_as : Option Role → ℕ → Waits → Option Offer
offer_as None t w = None
offer_as (Some (Receiving e)) t w = None
offer_as (Some (Sending e)) t w = offer_in t (w.queue e)

-- what a thread sends that waits to send, and with which badge
abbrev pub offer_of : Waits → ℕ → Option Offer
offer_of w t = offer_as (w.role t) t w
