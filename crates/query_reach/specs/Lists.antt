-- What a list of reached slots is.
use Rattle.std.specs.Prelude.{◌≡◌, ℕ, ◌^◌, ◌<◌, ◌≤◌, List}
use Rattle.std.specs.List.{Contains, AllPairs}
use Rattle.cap_core.specs.declared.profile.ProfileName.{ProfileName}
use Rattle.cap_core.specs.Numbers.{word_bits}
use Rattle.kernel_forest.specs.Forest.{Forest}
use Rattle.kernel_forest.specs.Entries.{Entry}
use Rattle.query_reach.specs.declared.reached.Reached.{Reached}
use Rattle.query_reach.specs.Reaching.{Reaches}

-- a list of reached slots is that of a thread: each entry is reached by its word, each full slot that some word leads to has
-- an entry, an entry's word is the least that leads to its slot, no slot has two entries, and the words rise
pub record AreReached (p : ProfileName) (f : Forest Entry) (thread : ℕ) (list : List Reached) : Type 0 where
  pub sound : (r : Reached) → Contains list r → (r.word < 2 ^ word_bits p) × Reaches p f thread r.word r.slot
  pub whole : (word slot : ℕ) → word < 2 ^ word_bits p → Reaches p f thread word slot → (r : Reached) × (Contains list r × (r.slot ≡ slot))
  pub least : (r : Reached) → Contains list r → (word : ℕ) → word < 2 ^ word_bits p → Reaches p f thread word r.slot → r.word ≤ word
  pub once : AllPairs (λ (a b : Reached). a.slot ≡ b.slot → ⊥) list
  pub rising : AllPairs (λ (a b : Reached). a.word < b.word) list
