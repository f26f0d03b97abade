use Rattle.std.proofs.Common.{◌≡◌, not, filter, take}
use Rattle.std.specs.List.{list_any}
use Rattle.query_reach.specs.declared.endpoints.EndpointWord.{EndpointWord}
use Rattle.query_reach.specs.Channels.{is_sender_to}
use Rattle.query_reach.proofs.senders.receivers_without_sender.Given as goal

abbrev pub invariant-loop-receiver : goal.invariant-loop-receiver
invariant-loop-receiver l =
    l.unserved.items ≡ filter (λ (v : EndpointWord). not (list_any (is_sender_to v) l.words)) (take l.receiver-index l.receivers)
