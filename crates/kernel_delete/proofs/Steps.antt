-- What one slot that is looked at says of the store before and after.
use Rattle.std.proofs.Common.{◌≡◌, inl, inr, ℕ, Bool, true, false, ◌&&◌, ◌||◌, ◌∷◌, List, ◌++◌, refl, sym, ◌∙◌, ap, arith}
use Rattle.cap_core.specs.declared.profile.ProfileName.{ProfileName}
use Rattle.cap_core.specs.declared.capability.Cap.{Cap}
use Rattle.cap_core.specs.declared.capability.Cap.TheVariants.{Null}
use Rattle.cap_core.specs.Objects.{same_object}
use Rattle.kernel_forest.specs.Forest.{Forest, preorder, out}
use Rattle.kernel_forest.specs.Entries.{Entry, is_at}
use Rattle.kernel_forest.specs.Slots.{slots_of}
use Rattle.kernel_delete.specs.Least.{full}
use Rattle.kernel_delete.specs.Work.{held, last_at, ended_in, ends, list_after, IsClearable}
use Rattle.kernel_delete.proofs.Members.{tells}
use Rattle.kernel_delete.proofs.Lookups.{cap_at_empty}
use Rattle.kernel_delete.proofs.Midway.{Midway, ended-more, ended-same}

pub full_here : (l : List Entry) (n : ℕ) (r : Cap) → r ≡ held l n → (r ≡ Null → ⊥) → full l n ≡ true
full_here l n r e h = elim (tells (full l n)) [ inl t ↦ t | inr t ↦ absurd (h (e ∙ cap_at_empty l n t)) ]

pub empty_here : (l : List Entry) (n : ℕ) (r : Cap) → r ≡ held l n → r ≡ Null → (full l n ≡ true → held l n ≡ Null → ⊥) → full l n ≡ false
empty_here l n r e h g = elim (tells (full l n)) [ inl t ↦ absurd (g t (sym e ∙ h)) | inr t ↦ t ]

pub ends_here : (l : List Entry) (n : ℕ) → full l n ≡ true → last_at l n ≡ true → ends l n ≡ true
ends_here l n h g = rw (h, g) refl

pub list_ends : (p : ProfileName) (l : List Entry) (n : ℕ) (r : Cap) (W : List ℕ) → ends l n ≡ true → r ≡ held l n → list_after p l n W ≡ slots_of p r ++ W
list_ends p l n r W h e = rw h (ap (λ (q : Cap). slots_of p q ++ W) (sym e))

-- which objects end

pub none_end : (l : List Entry) (n : ℕ) → ends l n ≡ false → ◌≡◌ {A = Cap → Bool} (λ c. false) (λ c. ends l n && same_object (held l n) c)
none_end l n h = λ i c. ap (λ b. b && same_object (held l n) c) (sym h) i

pub one_ends : (l : List Entry) (n : ℕ) (r : Cap) → ends l n ≡ true → r ≡ held l n → ◌≡◌ {A = Cap → Bool} (same_object r) (λ c. ends l n && same_object (held l n) c)
one_ends l n r h e = λ i c. (ap (λ (q : Cap). same_object q c) e ∙ ap (λ b. b && same_object (held l n) c) (sym h)) i

pub no_end_empty : (l : List Entry) (n : ℕ) → full l n ≡ false → ends l n ≡ false
no_end_empty l n h = rw h refl

pub no_end_other : (l : List Entry) (n : ℕ) → last_at l n ≡ false → ends l n ≡ false
no_end_other l n h = by_case (full l n) (last_at l n) h
  where
    by_case : (x y : Bool) → y ≡ false → x && y ≡ false
    by_case x y h = grind arith

pub ended_step : (p : ProfileName) (f g : Forest Entry) (s size n : ℕ) (W : List ℕ) → IsClearable p size (preorder f) → Midway p f g s size (n ∷ W)
    → ◌≡◌ {A = Cap → Bool} (λ c. ended_in (preorder f) (preorder g) c || (ends (preorder g) n && same_object (held (preorder g) n) c)) (ended_in (preorder f) (preorder (out (is_at n) g)))
ended_step p f g s size n W law m = elim (tells (ends (preorder g) n)) [
  | inl t ↦ (λ i c. ended_in (preorder f) (preorder g) c || (t i && same_object (held (preorder g) n) c)) ∙ ended-more p f g s size n W law m t
  | inr t ↦ (λ i c. (ap (λ b. ended_in (preorder f) (preorder g) c || (b && same_object (held (preorder g) n) c)) t ∙ or_none (ended_in (preorder f) (preorder g) c)) i) ∙ ended-same p f g s size n W law m t
]
  where
    or_none : (b : Bool) → (b || false) ≡ b
    or_none true = refl
    or_none false = refl
