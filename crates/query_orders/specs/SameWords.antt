-- What the words tell.
use Rattle.std.specs.Prelude.{◌≡◌}
use Rattle.cap_core.specs.declared.profile.ProfileName.{ProfileName}
use Rattle.kernel_abstract.specs.State.{State, shown}
use Rattle.kernel_abstract.specs.Reached.{IsReached}
use Rattle.query_orders.specs.Words.{shown_words}

-- of states that runs reach, what has the same words is shown to be the same
abbrev pub TellsWhatIsShown : ProfileName → State → State → Type 0
TellsWhatIsShown p A B = IsReached p A → IsReached p B → shown_words (shown A) ≡ shown_words (shown B) → shown A ≡ shown B
