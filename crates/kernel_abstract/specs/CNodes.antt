-- What a copy, a mint, a move and a mutate check, and what they do to the capabilities (seL4 Reference Manual, on CNodes).
use Rattle.std.specs.Prelude.{ℕ, ◌^◌, ◌%◌, true, false, cond, Option, None, Some, Result, Ok, Err}
use Rattle.cap_core.specs.declared.profile.ProfileName.{ProfileName}
use Rattle.cap_core.specs.declared.capability.Cap.{Cap}
use Rattle.cap_core.specs.declared.capability.Cap.TheVariants.{CNode}
use Rattle.cap_core.specs.declared.capability.Kind.TheVariants as kind
use Rattle.cap_core.specs.Numbers.{word_bits, guard_size_bits}
use Rattle.cap_core.specs.Objects.{is_untyped, bits_of}
use Rattle.cap_core.specs.Minting.{masked, with_data}
use Rattle.cap_core.specs.Checks.{◌>>=◌}
use Rattle.kernel_forest.specs.Forest.{Forest}
use Rattle.kernel_forest.specs.Entries.{Entry, cap_at, first_child}
use Rattle.kernel_forest.specs.Derivation.{derived, moved, freed}
use Rattle.kernel_abstract.specs.declared.invocation.Change.{Change}
use Rattle.kernel_abstract.specs.declared.invocation.Change.TheVariants.{Copy, Mint, Move, Mutate}
use Rattle.kernel_abstract.specs.declared.invocation.CapPlacement.{CapPlacement}
use Rattle.kernel_abstract.specs.declared.invocation.SlotArguments.{SlotArguments}
use Rattle.kernel_abstract.specs.declared.reason.Held.{Held}
use Rattle.kernel_abstract.specs.declared.reason.Word.{Word}
use Rattle.kernel_abstract.specs.declared.reason.Word.TheVariants.{SourceRoot, Index, SourceIndex}
use Rattle.kernel_abstract.specs.declared.reason.Reason.{Reason}
use Rattle.kernel_abstract.specs.declared.reason.Reason.TheVariants.{HasBadge, LongGuard, HasChildren}
use Rattle.kernel_abstract.specs.Reasons.{held_at}
use Rattle.kernel_abstract.specs.Lookups.{slot_by_word, slot_by_index, of_kind, ensure_empty, ensure_full}

-- why the data of the capability in a slot can't be set by a word: a guard is too long, or a badge is there
abbrev pub no_data : ProfileName → Word → ℕ → ℕ → Cap → Reason
no_data p of word slot (CNode base radix guard) =
    LongGuard of (record { slot = slot; cap = CNode base radix guard }) (word % 2 ^ guard_size_bits p) (word_bits p)
no_data p of word slot cap = HasBadge (record { slot = slot; cap = cap })

-- a capability whose data could be set
abbrev pub ensure_set : Reason → Option Cap → Result Cap Reason
ensure_set reason (Some cap) = Ok cap
ensure_set reason None = Err reason

-- a capability that may be derived from the one in a slot: an untyped one if nothing was derived from it
abbrev pub ensure_childless : Held → Cap → Option ℕ → Result Cap Reason
ensure_childless source cap None = Ok cap
ensure_childless source cap (Some child) = Err (HasChildren source child)

abbrev pub ensure_derivable : Forest Entry → ℕ → Cap → Result Cap Reason
ensure_derivable f source cap =
    cond (is_untyped cap) (ensure_childless (held_at (cap_at f) source) cap (first_child source f)) (Ok cap)

-- the new capability, from the one in the source's slot
abbrev pub changed_cap : ProfileName → Forest Entry → ℕ → Change → Cap → Result Cap Reason
changed_cap p f source (Copy rights) cap = ensure_derivable f source (masked rights cap)
changed_cap p f source (Mint rights word) cap =
    ensure_set (no_data p SourceIndex word source cap) (with_data p false word (masked rights cap)) >>= ensure_derivable f source
changed_cap p f source Move cap = Ok cap
changed_cap p f source (Mutate word) cap = ensure_set (no_data p SourceIndex word source cap) (with_data p true word cap)

-- the checks in their order, the same for all four, by the capability in the slot `at`
abbrev pub checked_placement : ProfileName → Forest Entry → ℕ → ℕ → SlotArguments → Change → Result CapPlacement Reason
checked_placement p f thread at asked change =
    of_kind kind.CNode (held_at (cap_at f) at) >>= λ node.
    slot_by_word p f SourceRoot thread asked.src_root >>= λ root.
    ensure_empty f (slot_by_index p (cap_at f) Index at asked.index asked.depth) >>= λ slot.
    ensure_full f (slot_by_index p (cap_at f) SourceIndex root asked.src_index asked.src_depth) >>= λ source.
    changed_cap p f source change (cap_at f source) >>= λ cap.
    Ok (record { source = source; slot = slot; cap = cap })

-- a derived capability is put. Of an untyped one the source is used up by it
abbrev pub with_derived : ProfileName → CapPlacement → Forest Entry → Forest Entry
with_derived p placement f =
    let put = derived placement.source placement.slot placement.cap f in
    cond (is_untyped placement.cap) (freed placement.source (2 ^ bits_of p placement.cap) put) put

abbrev pub with_moved : CapPlacement → Forest Entry → Forest Entry
with_moved placement f = moved placement.source placement.slot placement.cap f
