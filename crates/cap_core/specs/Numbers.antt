-- The numbers that depend on the word size.
use Rattle.std.specs.Prelude.{ℕ, ◌^◌}
use Rattle.cap_core.specs.declared.profile.ProfileName.{ProfileName}
use Rattle.cap_core.specs.declared.profile.ProfileName.TheVariants.{Wide, Narrow}

-- the bits of a word, the greatest depth of a lookup, and the most that a guard's size and a radix may be together
abbrev pub word_bits : ProfileName → ℕ
word_bits Wide = 64
word_bits Narrow = 32

-- the bits of a slot's size
abbrev pub slot_bits : ProfileName → ℕ
slot_bits Wide = 5
slot_bits Narrow = 4

-- the bits of a thread control block's size
abbrev pub tcb_bits : ProfileName → ℕ
tcb_bits Wide = 11
tcb_bits Narrow = 10

-- the bits of an endpoint's size
abbrev pub endpoint_bits : ProfileName → ℕ
endpoint_bits Wide = 4
endpoint_bits Narrow = 4

-- the fewest bits of an untyped region's size
abbrev pub min_untyped_bits : ProfileName → ℕ
min_untyped_bits Wide = 4
min_untyped_bits Narrow = 4

-- the most bits of the size of an untyped region, and of an object that a retype makes
abbrev pub max_object_bits : ProfileName → ℕ
max_object_bits Wide = 47
max_object_bits Narrow = 29

-- the low bits of a guard word that hold the guard's size
abbrev pub guard_size_bits : ProfileName → ℕ
guard_size_bits Wide = 6
guard_size_bits Narrow = 5

-- the bits of a badge
abbrev pub badge_bits : ProfileName → ℕ
badge_bits Wide = 64
badge_bits Narrow = 28

-- the bits of a message's label
abbrev pub label_bits : ProfileName → ℕ
label_bits Wide = 52
label_bits Narrow = 20

-- the bytes of a slot, of a thread control block and of an endpoint
abbrev pub slot_size : ProfileName → ℕ
slot_size p = 2 ^ slot_bits p

abbrev pub tcb_size : ProfileName → ℕ
tcb_size p = 2 ^ tcb_bits p

abbrev pub endpoint_size : ProfileName → ℕ
endpoint_size p = 2 ^ endpoint_bits p
