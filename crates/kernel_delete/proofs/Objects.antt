-- Capabilities that name one object: they name the same others, and the same slots.
use Rattle.std.proofs.Common.{◌≡◌, ℕ, true, false, ◌==◌, refl, ◌∙◌, subst}
use Rattle.std.proofs.lemmas.Bool.{eqb-true}
use Rattle.cap_core.specs.declared.profile.ProfileName.{ProfileName}
use Rattle.cap_core.specs.declared.rights.Rights.{Rights}
use Rattle.cap_core.specs.declared.capability.Badge.{Badge}
use Rattle.cap_core.specs.declared.capability.Guard.{Guard}
use Rattle.cap_core.specs.declared.capability.Cap.{Cap}
use Rattle.cap_core.specs.declared.capability.Cap.TheVariants.{Null, Untyped, Endpoint, CNode, Tcb}
use Rattle.cap_core.specs.Objects.{is_untyped, same_object}
use Rattle.kernel_forest.proofs.Disjoint.Disjointness.{same_object-swap}
use Rattle.kernel_forest.specs.Slots.{slots_of}
use Rattle.kernel_delete.specs.Members.{In}
use Rattle.kernel_delete.proofs.Members.{both_true, eqb_self}

-- what two capabilities of one object have in common, by the object's kind
data Shares : Cap → Cap → Type 0 where
  endpoint : (base : ℕ) (x y : Badge) (v w : Rights) → Shares (Endpoint base x v) (Endpoint base y w)
  node : (base radix : ℕ) (x y : Guard) → Shares (CNode base radix x) (CNode base radix y)
  thread : (base : ℕ) → Shares (Tcb base) (Tcb base)

shares : (a b : Cap) → same_object a b ≡ true → Shares a b
shares (Endpoint i x v) (Endpoint j y w) h = let P : ℕ → Type 0 = λ k. Shares (Endpoint i x v) (Endpoint k y w) in subst P (eqb-true i j h) (endpoint i x y v w)
shares (CNode i m x) (CNode j n y) h =
    let e = both_true (i == j) (m == n) h in
    let P : ℕ → Type 0 = λ k. Shares (CNode i m x) (CNode k m y) in
    let Q : ℕ → Type 0 = λ k. Shares (CNode i m x) (CNode j k y) in
    subst Q (eqb-true m n e.1) (subst P (eqb-true i j e.0) (node i m x y))
shares (Tcb i) (Tcb j) h = let P : ℕ → Type 0 = λ k. Shares (Tcb i) (Tcb k) in subst P (eqb-true i j h) (thread i)
shares Null b h = cc
shares (Untyped i bits free) b h = cc
shares (Endpoint i x v) Null h = cc
shares (Endpoint i x v) (Untyped j bits free) h = cc
shares (Endpoint i x v) (CNode j n y) h = cc
shares (Endpoint i x v) (Tcb j) h = cc
shares (CNode i m x) Null h = cc
shares (CNode i m x) (Untyped j bits free) h = cc
shares (CNode i m x) (Endpoint j y w) h = cc
shares (CNode i m x) (Tcb j) h = cc
shares (Tcb i) Null h = cc
shares (Tcb i) (Untyped j bits free) h = cc
shares (Tcb i) (Endpoint j y w) h = cc
shares (Tcb i) (CNode j n y) h = cc

right : (a b : Cap) → Shares a b → (c : Cap) → same_object a c ≡ same_object b c
right _ _ (endpoint base x y v w) Null = refl
right _ _ (endpoint base x y v w) (Untyped j bits free) = refl
right _ _ (endpoint base x y v w) (Endpoint j z u) = refl
right _ _ (endpoint base x y v w) (CNode j n z) = refl
right _ _ (endpoint base x y v w) (Tcb j) = refl
right _ _ (node base radix x y) Null = refl
right _ _ (node base radix x y) (Untyped j bits free) = refl
right _ _ (node base radix x y) (Endpoint j z u) = refl
right _ _ (node base radix x y) (CNode j n z) = refl
right _ _ (node base radix x y) (Tcb j) = refl
right _ _ (thread base) c = refl

alike : (p : ProfileName) (a b : Cap) → Shares a b → slots_of p a ≡ slots_of p b
unfolding slots_of
alike p _ _ (endpoint base x y v w) = refl
alike p _ _ (node base radix x y) = refl
alike p _ _ (thread base) = refl

pub same_right : (a b : Cap) → same_object a b ≡ true → (c : Cap) → same_object a c ≡ same_object b c
same_right a b h c = right a b (shares a b h) c

pub same_slots : (p : ProfileName) (a b : Cap) → same_object a b ≡ true → slots_of p a ≡ slots_of p b
same_slots p a b h = alike p a b (shares a b h)

pub same_sym : (a b : Cap) → same_object a b ≡ true → same_object b a ≡ true
same_sym a b h = same_object-swap b a ∙ h

-- an object with slots is named by its own capability
pub has_self : (p : ProfileName) (c : Cap) (n : ℕ) → In n (slots_of p c) → same_object c c ≡ true
unfolding slots_of
has_self p (Tcb base) n i = eqb_self base
has_self p (CNode base radix guard) n i = rw (eqb_self base, eqb_self radix) refl
has_self p Null n i = absurd i
has_self p (Untyped base bits free) n i = absurd i
has_self p (Endpoint base badge rights) n i = absurd i

-- no object is an untyped region
pub untyped_same : (b c : Cap) → is_untyped c ≡ true → same_object b c ≡ false
untyped_same b (Untyped base bits free) h = same_object-swap b (Untyped base bits free)
untyped_same b Null h = cc
untyped_same b (Endpoint base badge rights) h = cc
untyped_same b (CNode base radix guard) h = cc
untyped_same b (Tcb base) h = cc
