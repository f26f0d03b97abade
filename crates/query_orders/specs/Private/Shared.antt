-- The full slots that all states of an exploration have, where no call may change one.
use Rattle.std.specs.Prelude.{◌≡◌, ℕ, true, false, List, [], map, Option, None, Some}
use Rattle.std.specs.Global.{Vec}
use Rattle.cap_core.specs.declared.profile.ProfileName.{ProfileName}
use Rattle.slot_core.specs.declared.derivations.Derivation.{Derivation}
use Rattle.slot_core.specs.Calls.{derivation_view}
use Rattle.kernel_forest.specs.Entries.{derivations_of}
use Rattle.kernel_abstract.specs.declared.call.Call.{Call}
use Rattle.kernel_abstract.specs.Shown.{Shown}
use Rattle.kernel_abstract.specs.State.{shown}
use Rattle.query_orders.specs.Words.{listed, slot_words, shown_words}
use Rattle.query_orders.specs.World.{World}
use Rattle.query_orders.specs.Groups.{capabilities_may_change}

-- these are the full slots of a world, and no call of a client may change one; or some call may
abbrev pub AreShared : ProfileName → List (List Call) → World → Option (Vec Derivation) → Type 0
AreShared p own w None = capabilities_may_change own [] ≡ true
AreShared p own w (Some slots) = (capabilities_may_change own [] ≡ false) × (map (derivation_view p) slots.items ≡ derivations_of (shown w.kernel).derivations)

-- what is shown, as words, by these full slots, or by its own
abbrev pub slots_told : ProfileName → Option (Vec Derivation) → Shown → List ℕ
slots_told p None v = shown_words v
slots_told p (Some slots) v = listed (slot_words v) (map (derivation_view p) slots.items)
