-- Parts that only pass messages: what they may use is what their slots hold.
use Rattle.std.specs.Prelude.{ℕ, Bool, true, false, not, cond, ◌&&◌, List, [], ◌∷◌, ◌++◌, filter, is_some}
use Rattle.std.specs.List.{flat_map, list_any}
use Rattle.cap_core.specs.declared.profile.ProfileName.{ProfileName}
use Rattle.cap_core.specs.declared.capability.Cap.{Cap}
use Rattle.cap_core.specs.declared.capability.Cap.TheVariants.{Endpoint, CNode}
use Rattle.query_parts.specs.declared.listed.PartUse.{PartUse}
use Rattle.query_parts.specs.Order.{comes_before}
use Rattle.setup_report.specs.declared.live.NamedObject.{NamedObject}
use Rattle.setup_report.specs.State.{base_named}
use Rattle.command_parts.specs.declared.takes.PartSlot.{PartSlot}
use Rattle.command_parts.specs.Takes.{is_part}

abbrev pub is_for_messages : Cap → Bool
is_for_messages (Endpoint base badge rights) = true
is_for_messages cap = false

-- a full slot of the CNode that a capability names, with another capability than an endpoint's
abbrev pub holds_more : ProfileName → Cap → PartSlot → Bool
holds_more p node s = is_some (base_named p NamedObject.OwnNode s.slot node) && not (is_for_messages s.cap)

abbrev pub gives_more : ProfileName → List PartSlot → Cap → Bool
gives_more p slots (CNode base radix guard) = list_any (holds_more p (CNode base radix guard)) slots
gives_more p slots cap = false

abbrev pub leads_to_more : ProfileName → List PartSlot → ℕ → PartSlot → Bool
leads_to_more p slots part s = is_part part s.part && gives_more p slots s.cap

-- each full slot of a CNode that a capability in the part names holds an endpoint's capability
abbrev pub passes_alone : ProfileName → List PartSlot → ℕ → Bool
passes_alone p slots part = not (list_any (leads_to_more p slots part) slots)

-- ---- the uses of such a part: the capabilities that its slots hold, with badge 0 for none

abbrev pub use_by_cap : ℕ → Cap → List PartUse
use_by_cap part (Endpoint base badge rights) = record { part = part; endpoint = base; badge = badge; rights = rights } ∷ []
use_by_cap part cap = []

abbrev pub use_by_slot : ℕ → PartSlot → List PartUse
use_by_slot part s = cond (is_part part s.part) (use_by_cap part s.cap) []

-- a use, and those of some that come before it or behind it
abbrev pub with_use : PartUse → List PartUse → List PartUse
with_use u list = filter (λ w. comes_before w u) list ++ u ∷ filter (comes_before u) list

-- each of some uses once, in their order
abbrev pub rising_uses : List PartUse → List PartUse → List PartUse
rising_uses list [] = list
rising_uses list (u ∷ more) = rising_uses (with_use u list) more

abbrev pub uses_held : List PartSlot → ℕ → List PartUse
uses_held slots part = rising_uses [] (flat_map (use_by_slot part) slots)
