-- The members of what a filter keeps, and the places of members.
use Rattle.std.proofs.Common.{◌≡◌, ◌⊎◌, inl, inr, ℕ, zero, suc, Bool, true, false, cond, List, [], ◌∷◌, Option, Some, None, find, IfSome, IfNone, refl, sym, ◌∙◌, ap}
use Rattle.std.specs.List.{filter, list_any, slice_get}
use Rattle.kernel_delete.specs.Members.{In}

module _ {A : Type 0} (p : A → Bool) where
  kept_here : (b : Bool) (a x : A) (m : List A) → b ≡ true → a ≡ x → In a (cond b (x ∷ m) m)
  kept_here true a x m h e = inl e
  kept_here false a x m h e = cc

  kept_behind : (b : Bool) (a x : A) (m : List A) → In a m → In a (cond b (x ∷ m) m)
  kept_behind true a x m i = inr i
  kept_behind false a x m i = i

  pub in_filter : (l : List A) (a : A) → In a l → p a ≡ true → In a (filter p l)
  in_filter [] a i h = absurd i
  in_filter (x ∷ l) a i h = elim i [
    | inl e ↦ kept_here (p x) a x (filter p l) (ap p (sym e) ∙ h) e
    | inr j ↦ kept_behind (p x) a x (filter p l) (in_filter l a j h)
  ]

  kept_from : (x : A) (l m : List A) (a : A) (b : Bool) → p x ≡ b → (In a m → In a l × (p a ≡ true)) → In a (cond b (x ∷ m) m) → In a (x ∷ l) × (p a ≡ true)
  kept_from x l m a true h rest i = elim i [
    | inl e ↦ (inl e, ap p e ∙ h)
    | inr j ↦ let r = rest j in (inr r.0, r.1)
  ]
  kept_from x l m a false h rest i = let r = rest i in (inr r.0, r.1)

  pub of_filter : (l : List A) (a : A) → In a (filter p l) → In a l × (p a ≡ true)
  of_filter [] a i = absurd i
  of_filter (x ∷ l) a i = kept_from x l (filter p l) a (p x) refl (of_filter l a) i

pub some_same : {A : Type 0} (x y : A) → Some x ≡ Some y → x ≡ y
some_same x y e = cc

pub get_in : {A : Type 0} (l : List A) (k : ℕ) (a : A) → slice_get l k ≡ Some a → In a l
get_in [] k a e = cc
get_in (x ∷ l) zero a e = inl (some_same a x (sym e))
get_in (x ∷ l) (suc k) a e = inr (get_in l k a e)

pub in_get : {A : Type 0} (l : List A) (a : A) → In a l → (k : ℕ) × (slice_get l k ≡ Some a)
in_get [] a i = absurd i
in_get {A = A} (x ∷ l) a i = elim i [
  | inl e ↦ (0, ap (λ (y : A). Some y) (sym e))
  | inr j ↦ let r = in_get l a j in (suc r.0, r.1)
]

-- the first member that passes a test, where one does
module _ {A : Type 0} (p : A → Bool) where
  first_or : (b : Bool) (x : A) (rest r : Option A) → r ≡ cond b (Some x) rest → ((b ≡ true) × (r ≡ Some x)) ⊎ ((b ≡ false) × (r ≡ rest))
  first_or true x rest r e = inl (refl, e)
  first_or false x rest r e = inr (refl, e)

  pub found_some : (l : List A) (r : Option A) → r ≡ find p l → IfSome r (λ a. In a l × (p a ≡ true))
  found_some [] None e = tt
  found_some [] (Some a) e = cc
  found_some (x ∷ l) None e = tt
  found_some (x ∷ l) (Some a) e = elim (first_or (p x) x (find p l) (Some a) e) [
    | inl here ↦ let same : a ≡ x = some_same a x here.1 in (inl same, ap p same ∙ here.0)
    | inr there ↦ let r = found_some l (Some a) there.1 in (inr r.0, r.1)
  ]

  none_of : (b : Bool) (x : A) (rest : Option A) → None ≡ cond b (Some x) rest → (b ≡ false) × (None ≡ rest)
  none_of true x rest e = cc
  none_of false x rest e = (refl, e)

  pub found_none : (l : List A) (r : Option A) → r ≡ find p l → IfNone r (list_any p l ≡ false)
  found_none [] None e = refl
  found_none [] (Some a) e = tt
  found_none (x ∷ l) (Some a) e = tt
  found_none (x ∷ l) None e = let h = none_of (p x) x (find p l) e in rw h.0 (found_none l None h.1)
