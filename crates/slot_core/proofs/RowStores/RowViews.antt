-- What a call asks of the rows that a store shows, said of its own rows.
use Rattle.std.proofs.Common.{◌≡◌, ℕ, ◌^◌, ◌<◌, Bool, true, List, sym, ◌∙◌, ap, subst}
use Rattle.cap_core.specs.declared.profile.ProfileName.{ProfileName}
use Rattle.cap_core.specs.declared.capability.Cap.{Cap}
use Rattle.cap_core.specs.Objects.{IsLawful, is_untyped}
use Rattle.slot_core.specs.declared.slot.Slot.{Slot}
use Rattle.slot_core.specs.declared.rows.Row.{Row}
use Rattle.kernel_forest.specs.Entries.{is_full, cap_at}
use Rattle.slot_core.specs.Places.{address_of}
use Rattle.slot_core.specs.Rows.{forest_of, place_of}

pub full_seen : (p : ProfileName) (slot : Slot) (b : Bool) (rows : List Row) (memory : ℕ) (value : List Row × ℕ) → (rows, memory) ≡ value
    → is_full (address_of p slot) (forest_of p value.0) ≡ b → is_full (address_of p slot) (forest_of p rows) ≡ b
full_seen p slot b rows memory value v h = ap (λ (n : List Row × ℕ). is_full (address_of p slot) (forest_of p n.0)) v ∙ h

pub untyped_seen : (p : ProfileName) (slot : Slot) (rows : List Row) (memory : ℕ) (value : List Row × ℕ) → (rows, memory) ≡ value
    → is_untyped (cap_at (forest_of p value.0) (address_of p slot)) ≡ true → is_untyped (cap_at (forest_of p rows) (address_of p slot)) ≡ true
untyped_seen p slot rows memory value v h = ap (λ (n : List Row × ℕ). is_untyped (cap_at (forest_of p n.0) (address_of p slot))) v ∙ h

pub within_seen : (p : ProfileName) (slot : Slot) (rows : List Row) (memory : ℕ) (value : List Row × ℕ) → (rows, memory) ≡ value → address_of p slot < 2 ^ value.1 → address_of p slot < 2 ^ memory
within_seen p slot rows memory value v h = let P : List Row × ℕ → Type 0 = λ n. address_of p slot < 2 ^ n.1 in subst P (sym v) h

pub lawful_seen : (p : ProfileName) (cap : Cap) (rows : List Row) (memory : ℕ) (value : List Row × ℕ) → (rows, memory) ≡ value → IsLawful p value.1 cap → IsLawful p memory cap
lawful_seen p cap rows memory value v h = let P : List Row × ℕ → Type 0 = λ n. IsLawful p n.1 cap in subst P (sym v) h

-- where a slot's row stands, through the slice of a vector
pub place_seen : (slot : Slot) (rows slice : List Row) (i : ℕ) → slice ≡ rows → i ≡ place_of slot.place slice → i ≡ place_of slot.place rows
place_seen slot rows slice i e h = h ∙ ap (place_of slot.place) e
