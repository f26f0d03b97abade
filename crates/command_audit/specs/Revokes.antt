-- What a revoke of a slot would do to a state, and the lines that say so.
use Rattle.std.specs.Prelude.{codes, ℕ, cond, Bool, true, List, [], ◌∷◌, ◌++◌, count_by, filter}
use Rattle.std.specs.List.{list_any}
use Rattle.std.specs.Fmt.{decimal}
use Rattle.cap_core.specs.declared.profile.ProfileName.{ProfileName}
use Rattle.cap_core.specs.declared.capability.Cap.{Cap}
use Rattle.cap_core.specs.Objects.{is_null}
use Rattle.kernel_forest.specs.Entries.{cap_at, derivations_of}
use Rattle.kernel_delete.specs.Revoke.{revoke}
use Rattle.kernel_abstract.specs.Shown.{Shown, has_child}
use Rattle.kernel_abstract.specs.State.{State, shown}
use Rattle.kernel_abstract.specs.Step.{objects_ended}
use Rattle.setup_report.specs.State.{Derived, slot_of, slot_rows}
use Rattle.setup_report.specs.Report.{terminated}
use Rattle.setup_report.specs.Naming.{Texts}
use Rattle.setup_report.specs.Text.{held_slot_text}
use Rattle.command_audit.specs.declared.threads.ThreadSlots.{ThreadSlots}
use Rattle.command_audit.specs.Ends.{ended_capabilities, ends_lines}
use Rattle.command_audit.specs.Threads.{can_name}

-- what is shown of the state after a revoke of a slot: what a step shows whose call is a revoke of it and is not refused
abbrev pub shown_after_revoke : ProfileName → State → ℕ → Shown
shown_after_revoke p A slot = shown (objects_ended A (revoke p slot A.derivations)).state

-- an empty slot holds Null
abbrev pub is_cleared : Shown → ℕ → Bool
is_cleared new slot = is_null (cap_at new.derivations slot)

-- how many full slots are empty in a later state
abbrev pub cleared_count : List Derived → Shown → ℕ
cleared_count old new = count_by (λ (d : Derived). is_cleared new (slot_of d)) old

abbrev pub revoke_lines : Texts → Shown → Shown → ℕ → List ℕ
revoke_lines texts old new slot =
    terminated (codes "revoke " ++ (held_slot_text texts slot (cap_at old.derivations slot) ++ (codes " clears " ++ decimal (cleared_count (slot_rows old) new))))
    ++ ends_lines texts (ended_capabilities (slot_rows old) (derivations_of new.derivations))

-- the lines, by how many slots are cleared, and by the capabilities whose objects end
abbrev pub lines_of_revoke : Texts → ℕ → Cap → ℕ → List Cap → List ℕ
lines_of_revoke texts slot cap cleared caps =
    terminated (codes "revoke " ++ (held_slot_text texts slot cap ++ (codes " clears " ++ decimal cleared))) ++ ends_lines texts caps

-- of a slot that has children
abbrev pub revoke_lines_at : ProfileName → Texts → State → ℕ → List ℕ
revoke_lines_at p texts A slot = cond (has_child slot A.derivations) (revoke_lines texts (shown A) (shown_after_revoke p A slot) slot) []

-- a revoke of each full slot is told; where threads are trusted, of those alone that one of the others can name
abbrev pub is_revoke_told : List ℕ → List ThreadSlots → ℕ → Bool
is_revoke_told [] others slot = true
is_revoke_told (thread ∷ trusted) others slot = list_any (can_name slot) others

abbrev pub rows_told : List ℕ → List ThreadSlots → List Derived → List Derived
rows_told trusted others rows = filter (λ (d : Derived). is_revoke_told trusted others (slot_of d)) rows

abbrev pub revoke_lines_of : ProfileName → Texts → State → Derived → List ℕ
revoke_lines_of p texts A d = revoke_lines_at p texts A (slot_of d)
