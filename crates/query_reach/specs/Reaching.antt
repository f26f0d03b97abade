-- Which slots a thread can name, and by which words.
use Rattle.std.specs.Prelude.{◌≡◌, ℕ, true, Result, Ok}
use Rattle.cap_core.specs.declared.profile.ProfileName.{ProfileName}
use Rattle.cap_core.specs.declared.refusal.LookupFault.{LookupFault}
use Rattle.kernel_forest.specs.Forest.{Forest}
use Rattle.kernel_forest.specs.Entries.{Entry, cap_at, is_full}
use Rattle.kernel_abstract.specs.Lookups.{slot_named}

-- the slot that a word leads to in a thread's capability space, whose root slot is at the thread's own address: all bits of
-- the word are looked up, and bits left over are ignored
abbrev pub leads : ProfileName → Forest Entry → ℕ → ℕ → Result ℕ LookupFault
leads p f thread word = slot_named p f (cap_at f thread) word

-- a thread reaches a full slot by a word
pub record Reaches (p : ProfileName) (f : Forest Entry) (thread word slot : ℕ) : Type 0 where
  pub leads : leads p f thread word ≡ Ok slot
  pub full : is_full slot f ≡ true
