use Rattle.std.proofs.Common.{◌≡◌, ◌-◌, length, []}
use Rattle.slot_core.proofs.LinkedStores.Walked.{found_on}
use Rattle.slot_core.proofs.linked.walk.LinkedStoreDerivationStore.derivations.Given as goal

abbrev pub invariant-loop : goal.invariant-loop
invariant-loop g l =
    let p = g.P.Profile.profile in
    let links = l.self-inside.links.items in
    found_on p links l.found.items l.above.items (length links - l.counter) l.here ≡ found_on p links [] [] (length links) l.self-inside.first
