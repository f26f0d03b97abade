-- The slots and capabilities that the words of a call name, or why there are none.
use Rattle.std.specs.Prelude.{ℕ, zero, suc, Bool, cond, not, nat_lt, nat_le, ◌==◌, ◌&&◌, is_some, List, length, take, drop, Option, Some, None, Result, Ok, Err}
use Rattle.std.specs.Int.Digits.{number_from_digits}
use Rattle.cap_core.specs.declared.profile.ProfileName.{ProfileName}
use Rattle.cap_core.specs.declared.capability.Guard.{Guard}
use Rattle.cap_core.specs.declared.capability.Kind.{Kind}
use Rattle.cap_core.specs.declared.capability.Kind.TheVariants as kind
use Rattle.cap_core.specs.declared.capability.Cap.{Cap}
use Rattle.cap_core.specs.declared.capability.Cap.TheVariants.{CNode}
use Rattle.cap_core.specs.declared.refusal.LookupFault.{LookupFault}
use Rattle.cap_core.specs.Numbers.{word_bits}
use Rattle.cap_core.specs.Objects.{is_null, is_untyped}
use Rattle.kernel_forest.specs.Forest.{Forest}
use Rattle.kernel_forest.specs.Entries.{Entry, cap_at}
use Rattle.cspace_core.specs.Bits.{low_bits, after_front}
use Rattle.cspace_core.specs.Resolution.{Choice, Found, is_cnode, guard_bits, slot_of, resolution}
use Rattle.kernel_abstract.specs.declared.reason.Word.{Word}
use Rattle.kernel_abstract.specs.declared.reason.Held.{Held}
use Rattle.kernel_abstract.specs.declared.reason.Miss.{Miss}
use Rattle.kernel_abstract.specs.declared.reason.Miss.TheVariants.{NoRoot, OtherGuard, TooFewBits, BitsLeft}
use Rattle.kernel_abstract.specs.declared.reason.Reason.{Reason}
use Rattle.kernel_abstract.specs.declared.reason.Reason.TheVariants.{NotFound, NoDepth, NoCapability, OtherKind, IsFull, IsEmpty}
use Rattle.kernel_abstract.specs.Reasons.{held_at}
use Rattle.kernel_abstract.specs.Shown.{tcb_base, endpoint_base}

-- after a CNode's guard its radix is taken
abbrev pub chosen_by_radix : ProfileName → Held → ℕ → ℕ → List ℕ → Result Choice Miss
chosen_by_radix p node base radix bits =
    cond (nat_lt (length bits) radix) (Err (TooFewBits node (length bits)))
    (Ok (record { slot = slot_of p base (number_from_digits 2 (take radix bits)); left = drop radix bits }))

abbrev pub chosen_after_guard : ProfileName → Held → ℕ → ℕ → Guard → List ℕ → Option (List ℕ) → Result Choice Miss
chosen_after_guard p node base radix guard bits None = Err (OtherGuard node (length bits) (number_from_digits 2 (take guard.size bits)))
chosen_after_guard p node base radix guard bits (Some rest) = chosen_by_radix p node base radix rest

-- what the capability in a slot makes of the bits
abbrev pub chosen : ProfileName → ℕ → Cap → List ℕ → Result Choice Miss
chosen p slot (CNode base radix guard) bits =
    chosen_after_guard p (record { slot = slot; cap = CNode base radix guard }) base radix guard bits (after_front (guard_bits guard) bits)
chosen p slot _ bits = Err NoRoot

abbrev pub walked_on : (ℕ → Cap) → (ℕ → List ℕ → Result Found Miss) → Result Choice Miss → Result Found Miss
walked_on cap_in there (Err miss) = Err miss
walked_on cap_in there (Ok c) =
    cond (is_cnode (cap_in c.slot) && not (length c.left == 0)) (there c.slot c.left)
    (Ok (record { slot = c.slot; left = length c.left }))

-- the resolution of bits from a slot on that looks at no more than `most` capabilities
unfoldable pub walked_within : ProfileName → (ℕ → Cap) → ℕ → ℕ → List ℕ → Result Found Miss
walked_within p cap_in zero slot bits = Err (TooFewBits (held_at cap_in slot) 0)
walked_within p cap_in (suc most) slot bits = walked_on cap_in (walked_within p cap_in most) (chosen p slot (cap_in slot) bits)

-- the slot that bits lead to from a slot on, or where the lookup fails and why: the resolution of the bits
unfoldable pub walked : ProfileName → (ℕ → Cap) → ℕ → List ℕ → Result Found Miss
walked p cap_in slot bits = walked_within p cap_in (suc (length bits)) slot bits

-- a word that is looked up whole: bits left over are ignored
abbrev pub reached : Word → Held → Result Found Miss → Result ℕ Reason
reached word from (Ok found) = Ok found.slot
reached word from (Err miss) = Err (NotFound word from miss)

-- the slot that a word names in a thread's capability space, whose root slot is at the thread's own address
abbrev pub slot_by_word : ProfileName → Forest Entry → Word → ℕ → ℕ → Result ℕ Reason
slot_by_word p f word thread n =
    reached word (held_at (cap_at f) thread) (walked p (cap_at f) thread (low_bits (word_bits p) n))

-- a slot that is named by an index and a depth: no bits may be left over
abbrev pub reached_whole : (ℕ → Cap) → Word → Held → Result Found Miss → Result ℕ Reason
reached_whole cap_in word from (Ok found) =
    cond (found.left == 0) (Ok found.slot) (Err (NotFound word from (BitsLeft (held_at cap_in found.slot) found.left)))
reached_whole cap_in word from (Err miss) = Err (NotFound word from miss)

abbrev pub slot_by_index : ProfileName → (ℕ → Cap) → Word → ℕ → ℕ → ℕ → Result ℕ Reason
slot_by_index p cap_in word root index depth =
    cond (is_cnode (cap_in root))
    (cond (nat_le 1 depth && nat_le depth (word_bits p))
    (reached_whole cap_in word (held_at cap_in root) (walked p cap_in root (low_bits depth index))) (Err (NoDepth word (held_at cap_in root) (word_bits p))))
    (Err (NotFound word (held_at cap_in root) NoRoot))

-- a capability of an object of this kind
abbrev pub is_of_kind : Kind → Cap → Bool
is_of_kind kind.Untyped cap = is_untyped cap
is_of_kind kind.Tcb cap = is_some (tcb_base cap)
is_of_kind kind.Endpoint cap = is_some (endpoint_base cap)
is_of_kind kind.CNode cap = is_cnode cap

-- the invoked capability, if it is of the kind that the operation asks for
abbrev pub of_kind : Kind → Held → Result Cap Reason
of_kind kind held =
    cond (is_null held.cap) (Err (NoCapability held.slot kind))
    (cond (is_of_kind kind held.cap) (Ok held.cap) (Err (OtherKind held kind)))

-- a slot that was found, if it is empty, and if it is full
abbrev pub ensure_empty : Forest Entry → Result ℕ Reason → Result ℕ Reason
ensure_empty f (Ok slot) = cond (is_null (cap_at f slot)) (Ok slot) (Err (IsFull (held_at (cap_at f) slot)))
ensure_empty f (Err reason) = Err reason

abbrev pub ensure_full : Forest Entry → Result ℕ Reason → Result ℕ Reason
ensure_full f (Ok slot) = cond (is_null (cap_at f slot)) (Err (IsEmpty slot)) (Ok slot)
ensure_full f (Err reason) = Err reason

-- the slot that a word names from a root capability, by the resolution of only its bits
abbrev pub slot_found : Result Found LookupFault → Result ℕ LookupFault
slot_found (Ok found) = Ok found.slot
slot_found (Err fault) = Err fault

abbrev pub slot_named : ProfileName → Forest Entry → Cap → ℕ → Result ℕ LookupFault
slot_named p f root word = slot_found (resolution p (cap_at f) root (low_bits (word_bits p) word))
