-- What the setting of a thread's space, a suspend and a resume check (seL4 Reference Manual, on thread control blocks), and a
-- thread's new space.
use Rattle.std.specs.Prelude.{ℕ, false, ◌==◌, ◌&&◌, cond, Result, Ok, Err}
use Rattle.cap_core.specs.declared.profile.ProfileName.{ProfileName}
use Rattle.cap_core.specs.declared.capability.Cap.{Cap}
use Rattle.cap_core.specs.declared.capability.Cap.TheVariants.{Tcb}
use Rattle.cap_core.specs.declared.capability.Kind.TheVariants as kind
use Rattle.cap_core.specs.Objects.{is_null}
use Rattle.cap_core.specs.Minting.{with_data}
use Rattle.cap_core.specs.Checks.{◌>>=◌}
use Rattle.kernel_forest.specs.Forest.{Forest}
use Rattle.kernel_forest.specs.Entries.{Entry, cap_at, is_full}
use Rattle.kernel_forest.specs.Derivation.{derived}
use Rattle.kernel_delete.specs.Clear.{clear}
use Rattle.cspace_core.specs.Resolution.{is_cnode}
use Rattle.kernel_abstract.specs.declared.invocation.NewSpace.{NewSpace}
use Rattle.kernel_abstract.specs.declared.reason.Word.TheVariants.{Root}
use Rattle.kernel_abstract.specs.declared.reason.Reason.{Reason}
use Rattle.kernel_abstract.specs.declared.reason.Reason.TheVariants.{NoCapability, OtherKind, NoSpace}
use Rattle.kernel_abstract.specs.Lookups.{slot_by_word}
use Rattle.kernel_abstract.specs.CNodes.{no_data, ensure_set}

-- the address of the thread control block that the capability in a slot names
abbrev pub checked_tcb : ℕ → Cap → Result ℕ Reason
checked_tcb slot (Tcb base) = Ok base
checked_tcb slot cap = cond (is_null cap) (Err (NoCapability slot kind.Tcb)) (Err (OtherKind (record { slot = slot; cap = cap }) kind.Tcb))

-- the CNode's capability in a slot, with the guard that a word holds if it is not 0
abbrev pub space_cap : ProfileName → ℕ → ℕ → Cap → Result Cap Reason
space_cap p word slot cap =
    cond (is_cnode cap) (cond (word == 0) (Ok cap) (ensure_set (no_data p Root word slot cap) (with_data p false word cap)))
    (Err (NoSpace (record { slot = slot; cap = cap })))

-- the checks in their order, of the setting of a space by the capability in a slot
abbrev pub checked_space : ProfileName → Forest Entry → ℕ → ℕ → ℕ → ℕ → Result NewSpace Reason
checked_space p f thread slot root word =
    checked_tcb slot (cap_at f slot) >>= λ tcb.
    slot_by_word p f Root thread root >>= λ source.
    space_cap p word source (cap_at f source) >>= λ cap.
    Ok (record { tcb = tcb; invoked = slot; source = source; cap = cap })

-- the root slot is cleared; then, if the invoked slot and the source are still full, the capability is derived into it
abbrev pub with_space : ProfileName → NewSpace → Forest Entry → Forest Entry
with_space p new f =
    let g = clear p new.tcb f in
    cond (is_full new.source g && is_full new.invoked g) (derived new.source new.tcb new.cap g) g
