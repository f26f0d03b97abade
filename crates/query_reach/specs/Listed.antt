-- What a list of reached slots says about the capabilities that a thread does not reach.
use Rattle.std.specs.Prelude.{◌≡◌, ℕ, Bool, false, List}
use Rattle.std.specs.List.{Contains}
use Rattle.cap_core.specs.declared.profile.ProfileName.{ProfileName}
use Rattle.cap_core.specs.declared.capability.Cap.{Cap}
use Rattle.kernel_forest.specs.Forest.{Forest}
use Rattle.kernel_forest.specs.Entries.{Entry, cap_at}
use Rattle.query_reach.specs.declared.reached.Reached.{Reached}
use Rattle.query_reach.specs.Lists.{AreReached}
use Rattle.query_reach.specs.Laws.{ReachesNo}

-- a list of slots that a thread can name is whole: what no slot of it has, the thread can name nowhere
abbrev pub IsEnough : ProfileName → Forest Entry → ℕ → List Reached → (Cap → Bool) → Type 0
IsEnough p f thread list test = AreReached p f thread list →
    ((r : Reached) → Contains list r → test (cap_at f r.slot) ≡ false) → ReachesNo p f thread test
