-- Full slots lie in live objects.
use Rattle.std.specs.Prelude.{◌≡◌, ℕ, Bool, true, ◌==◌}
use Rattle.std.specs.List.{list_any, AllByRecursion as Each}
use Rattle.cap_core.specs.declared.profile.ProfileName.{ProfileName}
use Rattle.kernel_forest.specs.Forest.{Forest, preorder}
use Rattle.kernel_forest.specs.Entries.{Entry}
use Rattle.kernel_forest.specs.Slots.{slots_of}

-- the slot is one of a live CNode, or the root slot of a live thread
abbrev pub is_housed : ProfileName → Forest Entry → ℕ → Bool
is_housed p f n = list_any (λ (a : Entry). list_any (λ m. m == n) (slots_of p a.cap)) (preorder f)

-- each full slot stands in a live CNode or thread
abbrev pub IsHoused : ProfileName → Forest Entry → Type 0
IsHoused p f = Each (λ (e : Entry). is_housed p f e.slot ≡ true) (preorder f)
