use Rattle.std.proofs.Common.{sym, subst}
use Rattle.kernel_forest.specs.Forest.{Forest}
use Rattle.kernel_forest.specs.Entries.{Entry}
use Rattle.test_parts.specs.TestForests.{IsTestForest}
use Rattle.test_parts.proofs.KeptForests.{kept_none}
use Rattle.test_parts.proofs.slots.calls.new_store.Goals as goal

pub returns-clause-forest : goal.returns-clause-forest
returns-clause-forest g c = let Q : Forest Entry → Type 0 = IsTestForest g.P.Profile.profile in subst Q (sym c.in_ok-store.ensures.empty) (kept_none g.P.Profile.profile)
