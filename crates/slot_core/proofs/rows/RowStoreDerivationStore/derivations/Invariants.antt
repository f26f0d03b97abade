use Rattle.std.proofs.Common.{◌≡◌, drop, []}
use Rattle.slot_core.proofs.RowStores.RowWalks.{found_on}
use Rattle.slot_core.proofs.rows.RowStoreDerivationStore.derivations.Given as goal

abbrev pub invariant-loop-row : goal.invariant-loop-row
invariant-loop-row g l = found_on g.P.Profile.profile l.found.items l.above.items (drop l.row-index l.row-items) ≡ found_on g.P.Profile.profile [] [] l.row-items
