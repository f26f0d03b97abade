-- The proof of `needed`: the goals that a search leaves open.
use Rattle.std.proofs.Common.{◌≡◌, ◌∙◌, List, ap, rules}
use Rattle.std.specs.List.{filter}
use Rattle.std.proofs.lemmas.List.Filters.{dedup_is}
use Rattle.std.proofs.lemmas.List.Sorted.{answers_always}
use Rattle.query_parts.specs.declared.listed.PartUse.{PartUse}
use Rattle.query_parts.specs.Order.{is_needed}
use Rattle.query_parts.proofs.Needed.{same_ties, uses_needed}
use Rattle.query_parts.proofs.arranged.needed.Goals as goal

pub returns : goal.returns
returns g c =
    let sorted = c.sort_unstable_by_key.ensures.sorted (λ u. (u.part, u.endpoint, u.badge.0, u.rights.0))
    (answers_always _ (λ a r. r ≡ (a.0.now.part, a.0.now.endpoint, a.0.now.badge.0, a.0.now.rights.0)) _ (λ f a r f' k. search rules)) in
    let once = dedup_is _ c.sort_unstable_by_key.new.self.items c.dedup.new.self.items c.dedup.ensures.filtered in
    uses_needed g.P.Profile.profile c.args.memory.now c.args.uses.items c.sort_unstable_by_key.new.self.items c.dedup.new.self.items _ _ same_ties
    c.sort_unstable_by_key.ensures.permutation sorted once
    (c.in_ok-kept.ensures ∙ ap (λ (l : List PartUse). filter (is_needed g.P.Profile.profile c.args.memory.now l) l) c.as_slice.ensures.value)
