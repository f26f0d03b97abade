-- What a mint makes of a capability: rights that are met, and data that is set.
use Rattle.std.specs.Prelude.{◌≡◌, ℕ, Bool, ◌+◌, ◌*◌, ◌/◌, ◌%◌, ◌^◌, ◌==◌, ◌&&◌, not, cond, nat_le, bit_and, Option, Some, None}
use Rattle.std.specs.Int.{bit_at}
use Rattle.cap_core.specs.declared.profile.ProfileName.{ProfileName}
use Rattle.cap_core.specs.declared.rights.Rights.{Rights}
use Rattle.cap_core.specs.declared.capability.Guard.{Guard}
use Rattle.cap_core.specs.declared.capability.Cap.{Cap}
use Rattle.cap_core.specs.declared.capability.Cap.TheVariants.{Endpoint, CNode}
use Rattle.cap_core.specs.Numbers.{word_bits, guard_size_bits, badge_bits}

-- the capability with those of its rights that are also given. Only an endpoint's has rights
abbrev pub masked : Rights → Cap → Cap
masked rights (Endpoint base badge had) = Endpoint base badge (record { 0 = bit_and had.0 rights.0 })
masked rights other = other

-- a right, by the number of its bit, is in a set
abbrev pub HasRight : Rights → ℕ → Type 0
HasRight rights right = bit_at rights.0 right ≡ 1

-- a capability allows a right
abbrev pub Allows : Cap → ℕ → Type 0
Allows (Endpoint base badge rights) right = HasRight rights right
Allows _ right = ⊥

-- the word that holds a guard: its size in the low bits and its value above them
abbrev pub guard_word : ProfileName → Guard → ℕ
guard_word p guard = guard.size + guard.value * 2 ^ guard_size_bits p

-- the guard that a word holds. Its value is cut to its size
abbrev pub guard_held : ProfileName → ℕ → Guard
guard_held p word =
    let size = word % 2 ^ guard_size_bits p in
    record { value = word / 2 ^ guard_size_bits p % 2 ^ size; size = size }

-- a CNode's capability with a guard, if guard and radix together are no longer than a word
abbrev pub guarded : ProfileName → ℕ → ℕ → Guard → Option Cap
guarded p base radix guard = cond (nat_le (guard.size + radix) (word_bits p)) (Some (CNode base radix guard)) None

-- the capability with its data set by a word: a badge is set once and is not changed if it is to be preserved, a guard
-- is what the word holds, and no other capability has data
abbrev pub with_data : ProfileName → Bool → ℕ → Cap → Option Cap
with_data p preserve word (Endpoint base badge rights) =
    cond (not preserve && badge.0 == 0) (Some (Endpoint base (record { 0 = word % 2 ^ badge_bits p }) rights)) None
with_data p preserve word (CNode base radix guard) = guarded p base radix (guard_held p word)
with_data p preserve word other = Some other
