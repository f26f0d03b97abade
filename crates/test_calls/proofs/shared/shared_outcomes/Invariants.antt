use Rattle.cap_core.specs.declared.profile.ProfileName.TheVariants.{Wide}
use Rattle.kernel_abstract.specs.Boot.{boot}
use Rattle.kernel_abstract.specs.State.{shown}
use Rattle.test_calls.proofs.shared.shared_outcomes.Given as goal

abbrev pub ghosts-share-N-Naming : goal.ghosts-share-N-Naming
ghosts-share-N-Naming g a = record { profile = Wide; opening = shown (boot Wide a.plan.now); start = boot Wide a.plan.now; limit = a.limit }

abbrev pub ghosts-share-N-Ledger : goal.ghosts-share-N-Ledger
ghosts-share-N-Ledger g a = record { name = a.blank.name; parts = a.blank.parts }
