use Rattle.std.proofs.Common.{rules}
use Rattle.std.proofs.lemmas.List.Sorted.{IsNonDecreasingBy-from_sort_by_key}
use Rattle.command_trace.specs.declared.lines.changes.StateLine.{StateLine}
use Rattle.command_trace.proofs.Alike.{sorted_rise, sorted_same}
use Rattle.command_trace.proofs.lines.rows.sort_by_address.Goals as goal

pub returns : goal.returns
returns c =
    let moved = c.sort_unstable_by_key.ensures.permutation in
    let order = IsNonDecreasingBy-from_sort_by_key (λ (l : StateLine). l.address) _ c.sort_unstable_by_key.ensures.sorted (λ a r q k. search rules) in
    record {
      rises = sorted_rise c.args.lines.now _ moved order c.requires.apart;
      same = sorted_same c.args.lines.now _ moved order c.requires.apart;
    }
