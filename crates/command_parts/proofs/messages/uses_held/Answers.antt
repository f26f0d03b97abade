-- The proof of `uses_held`: the goals that a search leaves open.
use Rattle.std.proofs.Common.{◌≡◌, ◌∙◌, [], ap, rules}
use Rattle.std.proofs.lemmas.List.Filters.{dedup_is}
use Rattle.std.proofs.lemmas.List.Sorted.{answers_always}
use Rattle.query_parts.proofs.Needed.{same_ties}
use Rattle.std.specs.List.{flat_map}
use Rattle.command_parts.specs.Messages.{rising_uses, use_by_slot}
use Rattle.command_parts.proofs.Held.{each_once}
use Rattle.command_parts.proofs.messages.uses_held.Goals as goal

pub returns : goal.returns
returns c =
    let all : c.add_all.new.out.items ≡ flat_map (use_by_slot c.args.part) c.args.part_slots.now = search rules in
    let sorted = c.sort_unstable_by_key.ensures.sorted (λ u. (u.part, u.endpoint, u.badge.0, u.rights.0))
    (answers_always _ (λ a r. r ≡ (a.0.now.part, a.0.now.endpoint, a.0.now.badge.0, a.0.now.rights.0)) _ (λ f a r f' k. search rules)) in
    each_once _ _ _ _ same_ties c.sort_unstable_by_key.ensures.permutation sorted (dedup_is _ _ _ c.dedup.ensures.filtered) ∙ ap (rising_uses []) all
