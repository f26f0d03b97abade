-- The proof of `uses_at`: the goals that a search leaves open.
use Rattle.std.proofs.Common.{rules, arith, ◌≡◌, ◌-◌, length, take, drop, nat_lt, nat_le}
use Rattle.std.proofs.lemmas.List.{take_all, length-drop}
use Rattle.std.proofs.lemmas.List.Sorted.{IsNonDecreasingBy-drop, IsNonDecreasingBy-take, IsPartitionedBy-leb, IsPartitionedBy-ltb, IsPartitionPoint-from_clause}
use Rattle.query_parts.specs.declared.listed.PartUse.{PartUse}
use Rattle.query_parts.specs.Keyed.{key_of}
use Rattle.query_parts.proofs.Halving.{between}
use Rattle.query_parts.proofs.keyed.uses_at.Goals as goal

pub returns : goal.returns
returns c =
    let by = c.args.by in
    let xs = c.args.list.now in
    let e = c.args.key in
    let i = c.partition_point-start.result in
    let long = length-drop i xs in
    let cut : take (length xs - i) (drop i xs) ≡ drop i xs = take_all (length xs - i) (drop i xs) (omega arith) in
    let rest_rises = IsNonDecreasingBy-take (key_of by) (length xs - i) (drop i xs) (IsNonDecreasingBy-drop (key_of by) i xs c.requires) in
    let low = IsPartitionPoint-from_clause (λ (y : PartUse). nat_lt (key_of by y) e) _ _ c.partition_point-start.ensures.partitioned
    (IsPartitionedBy-ltb (key_of by) xs e c.requires) (λ a r q k. search rules) in
    let high = IsPartitionPoint-from_clause (λ (y : PartUse). nat_le (key_of by y) e) _ _ c.partition_point-end.ensures.partitioned
    (IsPartitionedBy-leb (key_of by) _ e rest_rises) (λ a r q k. search rules) in
    rw cut (between by e xs i c.partition_point-end.result c.partition_point-start.ensures.bound low (rw cut at high))
