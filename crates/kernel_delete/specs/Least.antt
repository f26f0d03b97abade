-- What leaves with a slot that is cleared: the least closed set of full slots that has it.
use Rattle.std.specs.Prelude.{◌≡◌, ℕ, zero, suc, Bool, true, not, ◌==◌, ◌||◌, ◌&&◌, List, length}
use Rattle.std.specs.List.{list_any, list_all, AllByRecursion as Each}
use Rattle.cap_core.specs.declared.profile.ProfileName.{ProfileName}
use Rattle.cap_core.specs.Objects.{same_object}
use Rattle.kernel_forest.specs.Entries.{Entry, is_at}
use Rattle.kernel_forest.specs.Slots.{slots_of}

-- some entry stands at the slot
abbrev pub full : List Entry → ℕ → Bool
full l n = list_any (is_at n) l

-- the set has every slot whose capability names the entry's object
abbrev pub has_all : List Entry → (ℕ → Bool) → Entry → Bool
has_all l X a = list_all (λ (b : Entry). not (same_object a.cap b.cap) || X b.slot) l

-- if the set has all capabilities of a live object, it has that object's full slots
abbrev pub IsClosed : ProfileName → List Entry → (ℕ → Bool) → Type 0
IsClosed p l X =
    Each (λ (a : Entry). has_all l X a ≡ true → Each (λ n. full l n ≡ true → X n ≡ true) (slots_of p a.cap)) l

-- the least closed set of full slots, with s if s is full
pub record IsLeast (p : ProfileName) (l : List Entry) (s : ℕ) (X : ℕ → Bool) : Type 0 where
  pub of_full : (n : ℕ) → X n ≡ true → full l n ≡ true
  pub has_it : full l s ≡ true → X s ≡ true
  pub closed : IsClosed p l X
  pub least : (Y : ℕ → Bool) → (full l s ≡ true → Y s ≡ true) → IsClosed p l Y →
      (n : ℕ) → X n ≡ true → Y n ≡ true

-- by rounds: the set, with the full slots of each object all of whose capabilities it has
abbrev pub grown : ProfileName → List Entry → (ℕ → Bool) → (ℕ → Bool)
grown p l X n =
    X n || (full l n && list_any (λ (a : Entry). has_all l X a && list_any (λ m. m == n) (slots_of p a.cap)) l)

abbrev pub rounds : ProfileName → ℕ → List Entry → (ℕ → Bool) → (ℕ → Bool)
rounds p zero l X = X
rounds p (suc k) l X = grown p l (rounds p k l X)

-- whether a slot leaves when s is cleared: s leaves first, and then as many rounds are made as there are full slots
abbrev pub cleared : ProfileName → List Entry → ℕ → (ℕ → Bool)
cleared p l s = rounds p (length l) l (λ n. n == s && full l n)
