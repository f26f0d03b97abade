use Rattle.std.proofs.Common.{rules}
use Rattle.std.proofs.lemmas.List.Sorted.{IsNonDecreasingBy-from_sort_by_key, IsPermutation-trans}
use Rattle.setup_report.specs.Private.Rows.{slot_address}
use Rattle.setup_report.proofs.Addresses.Slots.{slots_sorted}
use Rattle.setup_report.proofs.state.sort_by_address.Goals as goal

pub returns : goal.returns
returns g c =
    let p = g.P.Profile.profile in
    slots_sorted p c.args.slots.now _
    (IsPermutation-trans _ _ _ c.reverse.ensures.permutation c.sort_unstable_by_key.ensures.permutation)
    (IsNonDecreasingBy-from_sort_by_key (slot_address p) _ c.sort_unstable_by_key.ensures.sorted (λ a r q k. search rules))
    c.requires.apart
