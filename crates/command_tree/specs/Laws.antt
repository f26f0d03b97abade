-- What the law of a forest's lines says.
use Rattle.std.specs.Prelude.{◌≡◌, ℕ, true, List, All, Option, None, option_map, Result, Ok, Err}
use Rattle.cap_core.specs.declared.capability.Cap.{Cap}
use Rattle.kernel_forest.specs.Forest.{Forest, renamed}
use Rattle.kernel_forest.specs.Entries.{Entry}
use Rattle.setup_values.specs.Names.{Names}
use Rattle.setup_values.specs.Kinds.{is_name}
use Rattle.setup_format.specs.Faults.{Fault}
use Rattle.setup_format.specs.Views.{SetupView, ReadView}
use Rattle.setup_report.specs.Behind.{calls_made, state_behind}

-- a full slot: its address and its capability
abbrev pub held_capability : Entry → ℕ × Cap
held_capability e = (e.slot, e.cap)

-- a forest, each full slot in its place, without what is original
abbrev pub held_in : Forest Entry → Forest (ℕ × Cap)
held_in f = renamed held_capability f

-- the forest after the calls of a set-up that are asked for, if it has as many
abbrev pub held_behind : Option ℕ → SetupView → Option (Forest (ℕ × Cap))
held_behind after setup = option_map (λ made. held_in (state_behind setup.profile setup made).derivations) (calls_made setup after)

-- the forest after the calls that are asked for, of what is read of an input; none if that is refused
abbrev pub held_when_read : Option ℕ → Result ReadView Fault → Option (Forest (ℕ × Cap))
held_when_read after (Ok read) = held_behind after read.setup
held_when_read after (Err fault) = None

-- each name is one that a set-up may have
abbrev pub AreSetUpNames : Names → Type 0
AreSetUpNames names = All (λ (name : List ℕ × ℕ). is_name name.0 ≡ true) names
