-- What stands in the derivation forest: a full slot, by its address, its capability, and whether it is original.
use Rattle.std.specs.Prelude.{ℕ, Bool, false, cond, ◌==◌, List, [], ◌∷◌, map, Option, Some, None, option_map}
use Rattle.std.specs.List.{list_any}
use Rattle.cap_core.specs.declared.capability.Cap.{Cap}
use Rattle.cap_core.specs.declared.capability.Cap.TheVariants.{Null}
use Rattle.kernel_forest.specs.Forest.{Forest, preorder, children, parented}

-- a full slot, its capability, and whether that is original
pub record Entry : Type 0 where
  pub slot : ℕ
  pub cap : Cap
  pub original : Bool

abbrev pub entry : ℕ → Cap → Bool → Entry
entry slot cap original = record { slot = slot; cap = cap; original = original }

-- an entry is of this slot
abbrev pub is_at : ℕ → Entry → Bool
is_at slot e = e.slot == slot

-- the full slots, each before those below it
abbrev pub slots : Forest Entry → List ℕ
slots f = map (λ (e : Entry). e.slot) (preorder f)

-- the capabilities, in the order of their slots
abbrev pub caps : Forest Entry → List Cap
caps f = map (λ (e : Entry). e.cap) (preorder f)

abbrev pub is_full : ℕ → Forest Entry → Bool
is_full slot f = list_any (is_at slot) (preorder f)

-- the capability of the first entry at a slot, and Null if there is none
abbrev pub cap_in : ℕ → List Entry → Cap
cap_in slot [] = Null
cap_in slot (e ∷ es) = cond (e.slot == slot) e.cap (cap_in slot es)

-- the capability that a slot holds; Null in an empty slot
abbrev pub cap_at : Forest Entry → ℕ → Cap
cap_at f slot = cap_in slot (preorder f)

abbrev pub original_in : ℕ → List Entry → Bool
original_in slot [] = false
original_in slot (e ∷ es) = cond (e.slot == slot) e.original (original_in slot es)

abbrev pub is_original : ℕ → Forest Entry → Bool
is_original slot f = original_in slot (preorder f)

abbrev pub first_slot : List Entry → Option ℕ
first_slot [] = None
first_slot (e ∷ es) = Some e.slot

-- the newest child of a slot
abbrev pub first_child : ℕ → Forest Entry → Option ℕ
first_child slot f = first_slot (children (is_at slot) f)

-- the slot of an entry
abbrev pub slot_of : Entry → ℕ
slot_of e = e.slot

-- the entries, each before those below it, with the slot of the one that it is right below
abbrev pub derivations_of : Forest Entry → List (Entry × Option ℕ)
derivations_of f = map (λ (e : Entry × Option Entry). (e.0, option_map slot_of e.1)) (parented None f)
