-- These serve the proofs of private functions, no public contract cites them.
use Rattle.std.specs.Prelude.{◌≡◌, ◌⊎◌, ℕ, ◌==◌, ◌&&◌, ◌||◌, Bool, true, false, not, cond, List, [], ◌∷◌, ◌++◌, Option, Some, None}
use Rattle.std.specs.List.{list_all}
use Rattle.cap_core.specs.declared.capability.Cap.{Cap}
use Rattle.cap_core.specs.declared.capability.Cap.TheVariants.{Tcb}
use Rattle.cap_core.specs.Objects.{is_null}
use Rattle.kernel_forest.specs.Forest.{Forest}
use Rattle.kernel_forest.specs.Entries.{Entry, cap_at}
use Rattle.query_reach.specs.declared.reached.Reached.{Reached}
use Rattle.kernel_abstract.specs.Shown.{Shown}
use Rattle.query_parts.specs.declared.listed.PartMemory.{PartMemory}
use Rattle.query_parts.specs.declared.listed.PartUse.{PartUse}
use Rattle.query_parts.specs.Listed.{part_at, parts_listed}
use Rattle.query_parts.specs.Below.{StandsNoneBelow}
use Rattle.setup_report.specs.State.{is_in}
use Rattle.command_parts.specs.Text.{is_part}
use Rattle.kernel_abstract.specs.declared.call.Call.{Call}
use Rattle.command_how_witness.specs.Witness.{Asking, is_caller}
use Rattle.command_how_witness.specs.Excluded.{StandsApart}

-- a thread lies in no part, or another one does not lie in its part
abbrev pub is_elsewhere_from : List PartMemory → Option ℕ → ℕ → Bool
is_elsewhere_from memory None to = true
is_elsewhere_from memory (Some part) to = not (is_part part (part_at memory to))

abbrev pub is_elsewhere : List PartMemory → ℕ → ℕ → Bool
is_elsewhere memory from to = is_elsewhere_from memory (part_at memory from) to

-- a slot is of the part, or is listed
abbrev pub is_above : List PartMemory → ℕ → List ℕ → ℕ → Bool
is_above memory part below slot = is_part part (part_at memory slot) || is_in slot below

abbrev pub is_parent_above : List PartMemory → ℕ → List ℕ → Option ℕ → Bool
is_parent_above memory part below None = false
is_parent_above memory part below (Some parent) = is_above memory part below parent

-- the slots of those whose parent is of the part, or was listed before
abbrev pub slots_listed : List PartMemory → ℕ → List ℕ → List (Entry × Option ℕ) → List ℕ
slots_listed memory part below [] = below
slots_listed memory part below (d ∷ ds) =
    slots_listed memory part (cond (is_parent_above memory part below d.1) (below ++ d.0.slot ∷ []) below) ds

abbrev pub is_slot_within : List PartMemory → ℕ → ℕ → Bool
is_slot_within memory part slot = is_part part (part_at memory slot)

abbrev pub AreTwoApart : List PartMemory → List PartUse → Shown → ℕ → ℕ → Type 0
AreTwoApart memory uses v i j = (i ≡ j → ⊥) × StandsNoneBelow (parts_listed memory uses) i j v.derivations

abbrev pub IsLossOutside : List PartMemory → List PartUse → Shown → ℕ → ℕ → Type 0
IsLossOutside memory uses v from to = (part_at memory from ≡ None) ⊎ StandsApart memory uses v from to

-- a capability is to a thread's control block
abbrev pub is_control_block_of : Cap → ℕ → Bool
is_control_block_of (Tcb base) thread = base == thread
is_control_block_of cap thread = false

-- a slot is reached by a word, and holds such a capability
abbrev pub is_held : Forest Entry → ℕ → ℕ → Reached → Bool
is_held f word thread r = (r.word == word) && is_control_block_of (cap_at f r.slot) thread

-- a slot is full in one forest, and empty in another
abbrev pub is_emptied : Forest Entry → Forest Entry → ℕ → Bool
is_emptied before after slot = not (is_null (cap_at before slot)) && is_null (cap_at after slot)

-- the calls of a hold are of the threads that make them
abbrev pub is_hold_called : Asking → List Call → Call → Call → Bool
is_hold_called q front call again =
    list_all (is_caller q) front && (is_caller q call && ((call.thread == q.from) && (again.thread == q.to)))

-- and those of a loss
abbrev pub is_loss_called : Asking → List Call → Call → Call → Call → Bool
is_loss_called q front shows call again = (shows.thread == q.to) && is_hold_called q front call again
