use Rattle.std.proofs.Common.{rules, arith, ◌≡◌, ◌-◌, length, take, drop, nat_lt, nat_le}
use Rattle.std.proofs.lemmas.List.{take_all, length-drop}
use Rattle.std.proofs.lemmas.List.Sorted.{IsNonDecreasingBy-drop, IsNonDecreasingBy-take, IsPartitionedBy-leb, IsPartitionedBy-ltb, IsPartitionPoint-from_clause}
use Rattle.query_reach.specs.declared.endpoints.EndpointWord.{EndpointWord}
use Rattle.query_reach.proofs.ByEndpoint.{between}
use Rattle.query_reach.proofs.receivers.words_at.Goals as goal

pub returns : goal.returns
returns c =
    let xs = c.args.list.now in
    let e = c.args.endpoint in
    let i = c.partition_point-start.result in
    let long = length-drop i xs in
    let cut : take (length xs - i) (drop i xs) ≡ drop i xs = take_all (length xs - i) (drop i xs) (omega arith) in
    let rest_rises = IsNonDecreasingBy-take (λ (y : EndpointWord). y.endpoint) (length xs - i) (drop i xs) (IsNonDecreasingBy-drop (λ (y : EndpointWord). y.endpoint) i xs c.requires) in
    let low = IsPartitionPoint-from_clause (λ (y : EndpointWord). nat_lt y.endpoint e) _ _ c.partition_point-start.ensures.partitioned
    (IsPartitionedBy-ltb (λ (y : EndpointWord). y.endpoint) xs e c.requires) (λ a r q k. search rules) in
    let high = IsPartitionPoint-from_clause (λ (y : EndpointWord). nat_le y.endpoint e) _ _ c.partition_point-end.ensures.partitioned
    (IsPartitionedBy-leb (λ (y : EndpointWord). y.endpoint) _ e rest_rises) (λ a r q k. search rules) in
    rw cut (between e xs i c.partition_point-end.result c.partition_point-start.ensures.bound low (rw cut at high))
