-- What would lead to a slot if a lookup fails: another depth, or a slot's number in place of its address.
use Rattle.std.specs.Prelude.{ℕ, zero, suc, ◌+◌, ◌/◌, ◌%◌, ◌^◌, cond, ◌==◌, nat_lt, Option, None, Some, Result, Ok, Err}
use Rattle.cap_core.specs.declared.profile.ProfileName.{ProfileName}
use Rattle.cap_core.specs.declared.capability.Cap.{Cap}
use Rattle.cap_core.specs.Numbers.{word_bits, slot_size}
use Rattle.kernel_forest.specs.Forest.{Forest}
use Rattle.kernel_forest.specs.Entries.{Entry}
use Rattle.kernel_checks.specs.declared.hints.Hint.{Hint}
use Rattle.kernel_checks.specs.declared.hints.Hint.TheVariants.{Depth, Number}
use Rattle.kernel_abstract.specs.declared.reason.Word.TheVariants.{Invoked, Index}
use Rattle.kernel_abstract.specs.declared.reason.Reason.{Reason}
use Rattle.kernel_abstract.specs.Lookups.{slot_by_word, slot_by_index}

abbrev pub found_slot : Result ℕ Reason → Option ℕ
found_slot (Ok slot) = Some slot
found_slot (Err reason) = None

-- the slot that an index names at a depth which cuts no bit of it off
abbrev pub slot_at_depth : ProfileName → (ℕ → Cap) → ℕ → ℕ → ℕ → Option ℕ
slot_at_depth p cap_in root index depth =
    cond (nat_lt index (2 ^ depth)) (found_slot (slot_by_index p cap_in Index root index depth)) None

-- the first of `count` depths from one on at which the index names a slot
abbrev pub depth_or : ℕ → Option ℕ → Option Hint → Option Hint
depth_or depth None rest = rest
depth_or depth (Some slot) rest = Some (Depth depth slot)

unfoldable pub depth_from : ProfileName → (ℕ → Cap) → ℕ → ℕ → ℕ → ℕ → Option Hint
depth_from p cap_in root index depth zero = None
depth_from p cap_in root index depth (suc count) =
    depth_or depth (slot_at_depth p cap_in root index depth) (depth_from p cap_in root index (depth + 1) count)

-- another depth by which the same index leads to a full slot, the least one
abbrev pub depth_hint : ProfileName → (ℕ → Cap) → ℕ → ℕ → Option Hint
depth_hint p cap_in root index = depth_from p cap_in root index 1 (word_bits p)

-- a word that is a slot's address, if the number of that slot leads to it
abbrev pub where_same : ℕ → ℕ → Result ℕ Reason → Option Hint
where_same word number (Ok slot) = cond (slot == word) (Some (Number number word)) None
where_same word number (Err reason) = None

abbrev pub number_hint : ProfileName → ℕ → Result ℕ Reason → Option Hint
number_hint p word found = cond (word % slot_size p == 0) (where_same word (word / slot_size p) found) None

-- the number of a slot that leads to it, for a word of a thread that is its address
abbrev pub word_hint : ProfileName → Forest Entry → ℕ → ℕ → Option Hint
word_hint p f thread word = number_hint p word (slot_by_word p f Invoked thread (word / slot_size p))

-- for an index: a depth comes first
abbrev pub hint_or : Option Hint → Option Hint → Option Hint
hint_or None other = other
hint_or (Some hint) other = Some hint

-- another depth or index that leads to a full slot
abbrev pub index_hint : ProfileName → (ℕ → Cap) → ℕ → ℕ → ℕ → Option Hint
index_hint p cap_in root index depth =
    hint_or (depth_hint p cap_in root index) (number_hint p index (slot_by_index p cap_in Index root (index / slot_size p) depth))
