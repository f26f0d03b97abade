-- What an endpoint delivers, by the replies to calls.
use Rattle.std.specs.Prelude.{◌≡◌, ◌++◌, map, ℕ, Bool, false, cond, ◌==◌, ◌&&◌, List, [], ◌∷◌}
use Rattle.cap_core.specs.declared.profile.ProfileName.{ProfileName}
use Rattle.ipc_core.specs.Records.{Instance, SendRecord, ReceiveRecord}
use Rattle.kernel_abstract.specs.declared.call.Call.{Call}
use Rattle.kernel_abstract.specs.declared.call.Reply.{Reply}
use Rattle.kernel_abstract.specs.declared.call.Reply.TheVariants.{Delivered}
use Rattle.kernel_abstract.specs.Cancelling.{is_endpoint_live}
use Rattle.kernel_abstract.specs.State.{State, pairs, sends_to, receives_of}
use Rattle.kernel_abstract.specs.Step.{step, state_after}

-- an endpoint is live if its object is live and was not made anew
abbrev pub is_live : State → Instance → Bool
is_live A e = is_endpoint_live A A.derivations e

-- a reply that shows a delivery by the endpoint at an address
abbrev pub is_delivery : ℕ → Reply → Bool
is_delivery base (Delivered endpoint from to badge message) = endpoint == base
is_delivery base reply = false

-- the reply that shows the delivery of a pair, with the badge that the send kept
abbrev pub delivery : SendRecord × ReceiveRecord → Reply
delivery p = Delivered p.0.endpoint.base p.0.thread.base p.1.thread.base p.0.badge p.0.message

-- of the replies to calls, those that show a delivery by an endpoint while it is live
abbrev pub delivered : ProfileName → State → Instance → List Call → List Reply → List Reply
delivered p A e [] replies = []
delivered p A e (call ∷ calls) [] = []
delivered p A e (call ∷ calls) (reply ∷ replies) =
    let rest = delivered p (step p A call).state e calls replies in
    cond (is_live A e && is_delivery e.base reply) (reply ∷ rest) rest

-- by these replies to calls, each endpoint delivers one message for each pair that it gains, in the order of the pairs
abbrev pub DeliversPairs : ProfileName → State → List Call → List Reply → Type 0
DeliversPairs p A calls replies =
    (e : Instance) →
    map delivery (pairs (state_after p A calls) e) ≡ map delivery (pairs A e) ++ delivered p A e calls replies

-- no send and no receive is recorded for an endpoint
pub record IsUnused (A : State) (e : Instance) : Type 0 where
  pub sends : sends_to A e ≡ []
  pub receives : receives_of A e ≡ []
