-- Calls on endpoints, one after another: what an endpoint delivers, and what stands on it.
use Rattle.std.specs.Prelude.{ℕ, Bool, true, false, cond, ◌==◌, List, [], ◌∷◌, ◌++◌}
use Rattle.cap_core.specs.declared.message.Message.{Message}
use Rattle.cap_core.specs.declared.capability.Badge.{Badge}
use Rattle.ipc_core.specs.declared.waiter.Sent.{Sent}
use Rattle.ipc_core.specs.declared.waiter.Sent.TheVariants as S
use Rattle.ipc_core.specs.declared.waiter.Received.{Received}
use Rattle.ipc_core.specs.declared.waiter.Received.TheVariants as R
use Rattle.ipc_core.specs.Records.{SendRecord, ReceiveRecord}
use Rattle.ipc_core.specs.Waits.{Waits, sent, after_send, received, after_receive}
use Rattle.ipc_core.specs.Pairing.{sends_with, receives_with}
use Rattle.ipc_core.specs.Cancelled.{after_cancel_thread, after_cancel_badge, after_cancel_endpoint, sends_less, receives_less, is_sent_by, is_received_by, is_sent_with}

-- a send or a receive on the endpoint of its record, and whether it waits if it meets none; and the calls that cancel
pub data Request : Type 0 where
  Sends : (block : Bool) (s : SendRecord) → Request
  Receives : (block : Bool) (a : ReceiveRecord) → Request
  CancelsThread : (thread : ℕ) → Request
  CancelsBadge : (endpoint : ℕ) (badge : Badge) → Request
  CancelsEndpoint : (endpoint : ℕ) → Request

-- a message that came from a thread to a thread, with its badge
pub record Delivery : Type 0 where
  pub from : ℕ
  pub badge : Badge
  pub message : Message
  pub to : ℕ

-- what a send and a receive that are paired deliver
abbrev pub delivery_of_pair : SendRecord × ReceiveRecord → Delivery
delivery_of_pair pair =
    record { from = pair.0.thread.base; badge = pair.0.badge; message = pair.0.message; to = pair.1.thread.base }

-- what was delivered, if a send or a receive was answered so
abbrev pub delivered_by : SendRecord → Sent → List Delivery
delivered_by s (S.Delivered to) =
    record { from = s.thread.base; badge = s.badge; message = s.message; to = to } ∷ []
delivered_by s S.Waiting = []
delivered_by s S.Dropped = []

abbrev pub delivered_to : ReceiveRecord → Received → List Delivery
delivered_to a (R.Delivered from badge message) =
    record { from = from; badge = badge; message = message; to = a.thread.base } ∷ []
delivered_to a R.Waiting = []
delivered_to a R.Empty = []

-- who waits after a request
abbrev pub after_request : Waits → Request → Waits
after_request w (Sends block s) = after_send block s.endpoint.base s.thread.base s.badge s.message w
after_request w (Receives block a) = after_receive block a.endpoint.base a.thread.base w
after_request w (CancelsThread thread) = after_cancel_thread thread w
after_request w (CancelsBadge endpoint badge) = after_cancel_badge endpoint badge w
after_request w (CancelsEndpoint endpoint) = after_cancel_endpoint endpoint w

-- what an endpoint delivers by a request
abbrev pub delivered_on : ℕ → Waits → Request → List Delivery
delivered_on e w (Sends block s) = cond (s.endpoint.base == e) (delivered_by s (sent block s.endpoint.base w)) []
delivered_on e w (Receives block a) = cond (a.endpoint.base == e) (delivered_to a (received block a.endpoint.base w)) []
delivered_on e w (CancelsThread thread) = []
delivered_on e w (CancelsBadge endpoint badge) = []
delivered_on e w (CancelsEndpoint endpoint) = []

-- all that an endpoint delivers by requests, in order
abbrev pub deliveries : ℕ → Waits → List Request → List Delivery
deliveries e w [] = []
deliveries e w (request ∷ requests) = delivered_on e w request ++ deliveries e (after_request w request) requests

-- the sends and the receives that stand on an endpoint
pub record History : Type 0 where
  pub sends : List SendRecord
  pub receives : List ReceiveRecord

abbrev pub no_history : History
no_history = record { sends = []; receives = [] }

-- what is cancelled of a history: those that wait and that the tests name
abbrev pub history_less : (SendRecord → Bool) → (ReceiveRecord → Bool) → History → History
history_less of_sends of_receives h =
    record { sends = sends_less of_sends h.sends h.receives; receives = receives_less of_receives h.sends h.receives }

-- the history of an endpoint after a request
abbrev pub grown : ℕ → History → Request → History
grown e h (Sends block s) =
    cond (s.endpoint.base == e) (record { sends = sends_with block s h.sends h.receives; receives = h.receives }) h
grown e h (Receives block a) =
    cond (a.endpoint.base == e) (record { sends = h.sends; receives = receives_with block a h.sends h.receives }) h
grown e h (CancelsThread thread) = history_less (is_sent_by thread) (is_received_by thread) h
grown e h (CancelsBadge endpoint badge) = cond (endpoint == e) (history_less (is_sent_with badge) (λ _. false) h) h
grown e h (CancelsEndpoint endpoint) = cond (endpoint == e) (history_less (λ _. true) (λ _. true) h) h

-- what an endpoint has after requests: those that were accepted and not cancelled
abbrev pub standing : ℕ → History → List Request → History
standing e h [] = h
standing e h (request ∷ requests) = standing e (grown e h request) requests
