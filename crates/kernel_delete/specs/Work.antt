-- One slot of those still to be looked at while a slot is cleared, and what has to hold of the full slots.
use Rattle.std.specs.Prelude.{◌≡◌, ◌<◌, ℕ, Bool, false, not, cond, ◌==◌, ◌||◌, ◌&&◌, List, ◌++◌}
use Rattle.std.specs.List.{list_any}
use Rattle.cap_core.specs.declared.profile.ProfileName.{ProfileName}
use Rattle.cap_core.specs.declared.capability.Cap.{Cap}
use Rattle.cap_core.specs.declared.capability.Cap.TheVariants.{Null}
use Rattle.cap_core.specs.Objects.{is_untyped, same_object}
use Rattle.kernel_forest.specs.Entries.{Entry, cap_in}
use Rattle.kernel_delete.specs.Members.{In, AreApart, AreDistinct, AreBelow}
use Rattle.kernel_forest.specs.Slots.{slots_of}
use Rattle.kernel_delete.specs.Least.{full}

-- the capability at a slot
abbrev pub held : List Entry → ℕ → Cap
held l n = cap_in n l

-- it is untyped, or no other slot names the object that the slot names
abbrev pub last_at : List Entry → ℕ → Bool
last_at l n =
    is_untyped (held l n) || not (list_any (λ (b : Entry). not (b.slot == n) && same_object b.cap (held l n)) l)

-- some entry names the object
abbrev pub named : List Entry → Cap → Bool
named l c = list_any (λ (b : Entry). same_object b.cap c) l

-- the object was live before, and is live no more
abbrev pub ended_in : List Entry → List Entry → Cap → Bool
ended_in before after c = named before c && not (named after c)

-- to clear the slot ends an object
abbrev pub ends : List Entry → ℕ → Bool
ends l n = full l n && last_at l n

-- the slots still to be looked at, after the first one was: those of the object that it ended go in front
abbrev pub list_after : ProfileName → List Entry → ℕ → List ℕ → List ℕ
list_after p l n W = cond (ends l n) (slots_of p (held l n) ++ W) W

-- slots are apart, none is full of Null, live objects' slots are apart, and all lie in a memory of so many bytes
pub record IsClearable (p : ProfileName) (size : ℕ) (l : List Entry) : Type 0 where
  pub apart : AreApart l
  pub no_null : (a : Entry) → In a l → a.cap ≡ Null → ⊥
  pub objects : (a b : Entry) → In a l → In b l → same_object a.cap b.cap ≡ false →
      (n : ℕ) → In n (slots_of p a.cap) → In n (slots_of p b.cap) → ⊥
  pub distinct : (a : Entry) → In a l → AreDistinct (slots_of p a.cap)
  pub within : (a : Entry) → In a l → AreBelow size (slots_of p a.cap)
  pub slots : (a : Entry) → In a l → a.slot < size
