-- What a send and a receive do, by the histories of an endpoint: pairs by place, and acceptance.
use Rattle.std.specs.Prelude.{◌≡◌, Bool, cond, ◌||◌, nat_lt, List, [], ◌∷◌, ◌++◌, length, slice_get, Option, Some, None}
use Rattle.ipc_core.specs.declared.waiter.Waiter.{Waiter}
use Rattle.ipc_core.specs.declared.waiter.Sent.{Sent}
use Rattle.ipc_core.specs.declared.waiter.Sent.TheVariants as S
use Rattle.ipc_core.specs.declared.waiter.Received.{Received}
use Rattle.ipc_core.specs.declared.waiter.Received.TheVariants as R
use Rattle.ipc_core.specs.Records.{SendRecord, ReceiveRecord, waiting_list}

-- a send is accepted if it waits or if more receives than sends stand; a receive likewise
abbrev pub is_send_accepted : Bool → List SendRecord → List ReceiveRecord → Bool
is_send_accepted block sends receives = block || nat_lt (length sends) (length receives)

abbrev pub is_receive_accepted : Bool → List SendRecord → List ReceiveRecord → Bool
is_receive_accepted block sends receives = block || nat_lt (length receives) (length sends)

-- the sends, with one more if it is accepted; the receives likewise
abbrev pub sends_with : Bool → SendRecord → List SendRecord → List ReceiveRecord → List SendRecord
sends_with block s sends receives = cond (is_send_accepted block sends receives) (sends ++ s ∷ []) sends

abbrev pub receives_with : Bool → ReceiveRecord → List SendRecord → List ReceiveRecord → List ReceiveRecord
receives_with block a sends receives = cond (is_receive_accepted block sends receives) (receives ++ a ∷ []) receives

-- the receive that a new send would meet: the one at its place
abbrev pub answer_to_send : Bool → Option ReceiveRecord → Sent
answer_to_send block (Some a) = S.Delivered a.thread.base
answer_to_send block None = cond block S.Waiting S.Dropped

-- the send that a new receive would meet: the one at its place
abbrev pub answer_to_receive : Bool → Option SendRecord → Received
answer_to_receive block (Some s) = R.Delivered s.thread.base s.badge s.message
answer_to_receive block None = cond block R.Waiting R.Empty

-- the answer is that of the histories, and the waiting list is that of the histories with the send
pub record SendsBy (block : Bool) (s : SendRecord) (sends : List SendRecord) (receives : List ReceiveRecord) (answer : Sent) (after : List Waiter) : Type 0 where
  pub answer_is : answer ≡ answer_to_send block (slice_get receives (length sends))
  pub after_is : after ≡ waiting_list (sends_with block s sends receives) receives

-- the answer is that of the histories, and the waiting list is that of the histories with the receive
pub record ReceivesBy (block : Bool) (a : ReceiveRecord) (sends : List SendRecord) (receives : List ReceiveRecord) (answer : Received) (after : List Waiter) : Type 0 where
  pub answer_is : answer ≡ answer_to_receive block (slice_get sends (length receives))
  pub after_is : after ≡ waiting_list sends (receives_with block a sends receives)
