-- Which slots a thread can name by an index and a depth, from the capabilities that its words lead to.
use Rattle.std.specs.Prelude.{◌≡◌, ℕ, ◌^◌, ◌<◌, ◌≤◌, ◌⊎◌, true, List, Ok}
use Rattle.std.specs.List.{Contains, AllPairs}
use Rattle.cap_core.specs.declared.profile.ProfileName.{ProfileName}
use Rattle.cap_core.specs.Numbers.{word_bits}
use Rattle.kernel_forest.specs.Forest.{Forest}
use Rattle.kernel_forest.specs.Entries.{Entry, cap_at, is_full}
use Rattle.cspace_core.specs.Target.{target_slot}
use Rattle.query_reach.specs.declared.held.Held.{Held}
use Rattle.query_reach.specs.Reaching.{Reaches}

-- an index and a depth name a full slot from the capability that a word leads to
pub record Names (p : ProfileName) (f : Forest Entry) (thread word depth index slot : ℕ) : Type 0 where
  pub holder : ℕ
  pub reaches : Reaches p f thread word holder
  pub named : target_slot p (cap_at f) (cap_at f holder) index depth ≡ Ok slot
  pub full : is_full slot f ≡ true

-- no word leads to a slot
abbrev pub IsUnreached : ProfileName → Forest Entry → ℕ → ℕ → Type 0
IsUnreached p f thread slot = (word : ℕ) → word < 2 ^ word_bits p → Reaches p f thread word slot → ⊥

-- in the order of their words, at one word of their depths, and at one depth of their indexes
abbrev pub IsEarlier : ℕ → ℕ → ℕ → ℕ → ℕ → ℕ → Type 0
IsEarlier word depth index word' depth' index' =
    (word < word') ⊎ ((word ≡ word') × ((depth < depth') ⊎ ((depth ≡ depth') × (index < index'))))

abbrev pub IsNoLater : ℕ → ℕ → ℕ → ℕ → ℕ → ℕ → Type 0
IsNoLater word depth index word' depth' index' =
    (word < word') ⊎ ((word ≡ word') × ((depth < depth') ⊎ ((depth ≡ depth') × (index ≤ index'))))

-- a list of held slots is that of a thread: each entry's word, depth and index name its slot, to which no word leads; each such
-- slot has an entry; no word, depth and index in front of an entry's name its slot; no slot has two entries; and they rise
pub record AreHeldSlots (p : ProfileName) (f : Forest Entry) (thread : ℕ) (list : List Held) : Type 0 where
  pub sound : (h : Held) → Contains list h →
      (h.word < 2 ^ word_bits p) × ((h.index < 2 ^ h.depth) × (Names p f thread h.word h.depth h.index h.slot × IsUnreached p f thread h.slot))
  pub whole : (word depth index slot : ℕ) → word < 2 ^ word_bits p → Names p f thread word depth index slot → IsUnreached p f thread slot →
      (h : Held) × (Contains list h × (h.slot ≡ slot))
  pub least : (h : Held) → Contains list h → (word depth index : ℕ) → word < 2 ^ word_bits p → Names p f thread word depth index h.slot →
      IsNoLater h.word h.depth h.index word depth index
  pub once : AllPairs (λ (a b : Held). a.slot ≡ b.slot → ⊥) list
  pub rising : AllPairs (λ (a b : Held). IsEarlier a.word a.depth a.index b.word b.depth b.index) list
