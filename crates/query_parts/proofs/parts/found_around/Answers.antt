-- The proof of `found_around`: what is found is the least and holds ever, by what the search and the arranging promise.
use Rattle.std.proofs.Common.{ap, map, ◌∙◌}
use Rattle.slot_core.specs.Calls.{derivation_view}
use Rattle.query_parts.specs.declared.parts.Parts.{Parts}
use Rattle.query_parts.specs.Order.{AreInOrder}
use Rattle.query_parts.specs.Least.{AreLeastAround}
use Rattle.query_parts.specs.Private.Arranging.{AreArranged}
use Rattle.query_parts.proofs.Bounded.{found_around, told_in_order}
use Rattle.query_parts.proofs.Results.{where_ok}
use Rattle.query_parts.proofs.parts.found_around.Goals as goal

pub returns-clause-around : goal.returns-clause-around
returns-clause-around g c =
    let p = g.P.Profile.profile in
    let F = c.in_ok-found.ensures in
    where_ok (λ (told : Parts). AreArranged p c.in_ok-found.found.memory.items c.in_ok-found.found.uses.items told.memory.items told.uses.items)
    (λ (told : Parts). AreLeastAround p c.args.threads.now c.args.kernel.now told.memory.items told.uses.items)
    (λ told is.
    found_around p c.args.threads.now c.args.kernel.now c.as_slice.result.now
    (ap (map (derivation_view p)) c.as_slice.ensures.value ∙ c.in_ok-derivations.ensures.list)
    c.in_ok-found.found.memory.items c.in_ok-found.found.uses.items F
    told.memory.items told.uses.items (is F.sound) c.requires)
    c.arranged.result c.arranged.ensures

pub returns-clause-order : goal.returns-clause-order
returns-clause-order g c =
    let p = g.P.Profile.profile in
    let F = c.in_ok-found.ensures in
    where_ok (λ (told : Parts). AreArranged p c.in_ok-found.found.memory.items c.in_ok-found.found.uses.items told.memory.items told.uses.items)
    (λ (told : Parts). AreInOrder p told.memory.items told.uses.items)
    (λ told is. told_in_order p c.in_ok-found.found.memory.items c.in_ok-found.found.uses.items told.memory.items told.uses.items (is F.sound))
    c.arranged.result c.arranged.ensures
