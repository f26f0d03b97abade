use Rattle.std.proofs.Common.{rules, arith, ◌≡◌, ◌-◌, length, take, drop, nat_lt, nat_le}
use Rattle.std.proofs.lemmas.List.{take_all, length-drop}
use Rattle.std.proofs.lemmas.List.Sorted.{IsNonDecreasingBy-drop, IsNonDecreasingBy-take, IsPartitionedBy-leb, IsPartitionedBy-ltb, IsPartitionPoint-from_clause}
use Rattle.query_revoke.specs.declared.keyed.Keyed.{Keyed}
use Rattle.query_revoke.proofs.Halving.{between}
use Rattle.query_revoke.proofs.keyed.at_key.Goals as goal

pub returns : goal.returns
returns c =
    let xs = c.args.list.now in
    let e = c.args.key in
    let i = c.partition_point-start.result in
    let long = length-drop i xs in
    let cut : take (length xs - i) (drop i xs) ≡ drop i xs = take_all (length xs - i) (drop i xs) (omega arith) in
    let rest_rises = IsNonDecreasingBy-take (λ (y : Keyed). y.key) (length xs - i) (drop i xs) (IsNonDecreasingBy-drop (λ (y : Keyed). y.key) i xs c.requires) in
    let low = IsPartitionPoint-from_clause (λ (y : Keyed). nat_lt y.key e) _ _ c.partition_point-start.ensures.partitioned
    (IsPartitionedBy-ltb (λ (y : Keyed). y.key) xs e c.requires) (λ a r q k. search rules) in
    let high = IsPartitionPoint-from_clause (λ (y : Keyed). nat_le y.key e) _ _ c.partition_point-end.ensures.partitioned
    (IsPartitionedBy-leb (λ (y : Keyed). y.key) _ e rest_rises) (λ a r q k. search rules) in
    rw cut (between e xs i c.partition_point-end.result c.partition_point-start.ensures.bound low (rw cut at high))
