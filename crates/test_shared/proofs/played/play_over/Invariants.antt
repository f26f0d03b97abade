use Rattle.cap_core.specs.declared.profile.ProfileName.TheVariants.{Wide}
use Rattle.kernel_abstract.specs.Boot.{boot}
use Rattle.kernel_abstract.specs.State.{shown}
use Rattle.test_shared.proofs.played.play_over.Given as goal

abbrev pub ghosts-play-N-Naming : goal.ghosts-play-N-Naming
ghosts-play-N-Naming g a = record { profile = Wide; opening = shown (boot Wide a.plan.now); start = boot Wide a.plan.now; limit = a.limit }

abbrev pub ghosts-play-N-Ledger : goal.ghosts-play-N-Ledger
ghosts-play-N-Ledger g a = record { name = a.blank.name; parts = a.blank.parts }
