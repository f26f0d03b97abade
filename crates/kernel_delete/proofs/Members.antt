-- What holds of the members of a list, and which member passes a test.
use Rattle.std.proofs.Common.{◌≡◌, ◌⊎◌, inl, inr, ℕ, Bool, true, false, cond, ◌||◌, ◌&&◌, ◌==◌, List, [], ◌∷◌, ◌++◌, refl, sym, ◌∙◌, ap, subst}
use Rattle.std.specs.List.{list_any, list_all, AllByRecursion as Each, filter}
use Rattle.std.proofs.lemmas.Bool.{eq-eqb}
use Rattle.kernel_delete.specs.Members.{In}

pub both_true : (b c : Bool) → b && c ≡ true → (b ≡ true) × (c ≡ true)
both_true true c h = (refl, h)
both_true false c h = cc

pub either_true : (b c : Bool) → b || c ≡ true → (b ≡ true) ⊎ (c ≡ true)
either_true true c h = inl refl
either_true false c h = inr h

pub true_right : (b c : Bool) → c ≡ true → b || c ≡ true
true_right true c h = refl
true_right false c h = h

pub true_left : (b c : Bool) → b ≡ true → b || c ≡ true
true_left b c h = rw h refl

pub any_in : {A : Type 0} (p : A → Bool) (l : List A) (a : A) → In a l → p a ≡ true → list_any p l ≡ true
any_in p [] a i h = absurd i
any_in p (x ∷ l) a i h = elim i [
  | inl e ↦ true_left (p x) (list_any p l) (ap p (sym e) ∙ h)
  | inr j ↦ true_right (p x) (list_any p l) (any_in p l a j h)
]

pub any_of : {A : Type 0} (p : A → Bool) (l : List A) → list_any p l ≡ true → (a : A) × (In a l × (p a ≡ true))
any_of p [] h = cc
any_of p (x ∷ l) h = elim (either_true (p x) (list_any p l) h) [
  | inl e ↦ (x, (inl refl, e))
  | inr j ↦ let m = any_of p l j in (m.0, (inr m.1.0, m.1.1))
]

pub all_in : {A : Type 0} (p : A → Bool) (l : List A) (a : A) → list_all p l ≡ true → In a l → p a ≡ true
all_in p [] a h i = absurd i
all_in p (x ∷ l) a h i = elim i [
  | inl e ↦ ap p e ∙ (both_true (p x) (list_all p l) h).0
  | inr j ↦ all_in p l a (both_true (p x) (list_all p l) h).1 j
]

pub all_of : {A : Type 0} (p : A → Bool) (l : List A) → ((a : A) → In a l → p a ≡ true) → list_all p l ≡ true
all_of p [] h = refl
all_of p (x ∷ l) h = rw (h x (inl refl)) (all_of p l (λ a i. h a (inr i)))

pub each_in : {A : Type 0} (P : A → Type 0) (l : List A) (a : A) → Each P l → In a l → P a
each_in P [] a h i = absurd i
each_in P (x ∷ l) a h i = elim i [
  | inl e ↦ subst P (sym e) h.0
  | inr j ↦ each_in P l a h.1 j
]

pub each_of : {A : Type 0} (P : A → Type 0) (l : List A) → ((a : A) → In a l → P a) → Each P l
each_of P [] h = tt
each_of P (x ∷ l) h = (h x (inl refl), each_of P l (λ a i. h a (inr i)))

-- a test is one of two
pub tells : (b : Bool) → (b ≡ true) ⊎ (b ≡ false)
tells true = inl refl
tells false = inr refl

pub same_truth : (b c : Bool) → (b ≡ true → c ≡ true) → (c ≡ true → b ≡ true) → b ≡ c
same_truth true c f g = sym (f refl)
same_truth false true f g = g refl
same_truth false false f g = refl

pub in_append : {A : Type 0} (a : A) (k l : List A) → In a (k ++ l) → (In a k) ⊎ (In a l)
in_append a [] l i = inr i
in_append a (x ∷ k) l i = elim i [
  | inl e ↦ inl (inl e)
  | inr j ↦ elim (in_append a k l j) [ inl u ↦ inl (inr u) | inr v ↦ inr v ]
]

pub in_left : {A : Type 0} (a : A) (k l : List A) → In a k → In a (k ++ l)
in_left a [] l i = absurd i
in_left a (x ∷ k) l i = elim i [ inl e ↦ inl e | inr j ↦ inr (in_left a k l j) ]

pub in_right : {A : Type 0} (a : A) (k l : List A) → In a l → In a (k ++ l)
in_right a [] l i = i
in_right a (x ∷ k) l i = inr (in_right a k l i)

pub in_filter : {A : Type 0} (p : A → Bool) (l : List A) (a : A) → In a (filter p l) → (In a l) × (p a ≡ true)
in_filter p [] a i = absurd i
in_filter p (x ∷ l) a i = in_filter_step p x l a (in_filter p l a) i
  where
    in_filter_step : {A : Type 0} (p : A → Bool) (x : A) (l : List A) (a : A) → (In a (filter p l) → (In a l) × (p a ≡ true)) → In a (filter p (x ∷ l)) → (In a (x ∷ l)) × (p a ≡ true)
    in_filter_step {A} p x l a h = elim (p x) as (λ b. p x ≡ b → In a (cond b (x ∷ filter p l) (filter p l)) → (In a (x ∷ l)) × (p a ≡ true)) [
      | true ↦ λ e i. elim i [ inl s ↦ (inl s, ap p s ∙ e) | inr j ↦ (inr (h j).0, (h j).1) ]
      | false ↦ λ e i. (inr (h i).0, (h i).1)
    ] refl

pub filter_in : {A : Type 0} (p : A → Bool) (l : List A) (a : A) → In a l → p a ≡ true → In a (filter p l)
filter_in p [] a i e = absurd i
filter_in p (x ∷ l) a i e = filter_in_step p x l a (λ j. filter_in p l a j e) i e
  where
    filter_in_step : {A : Type 0} (p : A → Bool) (x : A) (l : List A) (a : A) → (In a l → In a (filter p l)) → In a (x ∷ l) → p a ≡ true → In a (filter p (x ∷ l))
    filter_in_step {A} p x l a h i t = elim (p x) as (λ b. p x ≡ b → In a (cond b (x ∷ filter p l) (filter p l))) [
      | true ↦ λ e. elim i [ inl s ↦ inl s | inr j ↦ inr (h j) ]
      | false ↦ λ e. elim i [ inl s ↦ absurd (let z : true ≡ false = sym t ∙ ap p s ∙ e in cc) | inr j ↦ h j ]
    ] refl

pub eqb_self : (n : ℕ) → n == n ≡ true
eqb_self n = eq-eqb n n refl
