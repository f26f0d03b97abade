-- What clearing needs of the full slots follows from what every kernel keeps of them.
use Rattle.std.proofs.Common.{◌≡◌, ◌⊎◌, inl, inr, ℕ, ◌^◌, ◌≤◌, ◌<◌, Bool, true, false, ◌&&◌, ◌||◌, eqb, List, [], ◌∷◌, map, All, nat_le, refl, sym, ◌∙◌, ap, arith}
use Rattle.std.specs.List.{AllByRecursion as Each, Contains, IsDistinct}
use Rattle.std.proofs.lemmas.Bool.Decides.{nat_tests}
use Rattle.std.proofs.lemmas.List.Elements.{recursion_from_All}
use Rattle.cap_core.specs.declared.profile.ProfileName.{ProfileName}
use Rattle.cap_core.specs.declared.capability.Cap.{Cap}
use Rattle.cap_core.specs.declared.capability.Cap.TheVariants.{Null, Untyped, Endpoint, CNode, Tcb}
use Rattle.cap_core.specs.Objects.{IsLawful, is_null, is_untyped, same_object, contains, base_of, end_of}
use Rattle.kernel_forest.specs.Forest.{Forest, preorder}
use Rattle.kernel_forest.specs.Entries.{Entry, slots, caps}
use Rattle.kernel_forest.specs.Disjoint.{IsDisjoint, are_disjoint}
use Rattle.kernel_forest.proofs.Trees.Forests.{each-contains, each-contained}
use Rattle.kernel_delete.specs.Members.{In}
use Rattle.kernel_forest.specs.Slots.{slots_of}
use Rattle.kernel_delete.specs.Work.{IsClearable}
use Rattle.kernel_delete.proofs.Members.{each_in, each_of}
use Rattle.kernel_delete.proofs.Orders.{apart_of}
use Rattle.kernel_delete.proofs.Ranges.{slot_in_range, slots_distinct}

-- the two ways to say that something stands in a list

pub in_contains : {A : Type 0} (l : List A) (a : A) → In a l → Contains l a
in_contains l a i = each_in (Contains l) l a (each-contains l) i

pub contains_in : {A : Type 0} (l : List A) (a : A) → Contains l a → In a l
contains_in {A} l a m = each-contained (λ (b : A). In b l) l a (each_of (λ (b : A). In b l) l (λ b i. i)) m

-- what holds of all slots, or of all capabilities, holds of each entry's
pub each_mapped : {A B : Type 0} (P : B → Type 0) (w : A → B) (l : List A) → All P (map w l) → Each (λ a. P (w a)) l
each_mapped {A} {B} P w l h = go l (recursion_from_All P (map w l) h)
  where
    go : (l : List A) → Each P (map w l) → Each (λ a. P (w a)) l
    go [] g = tt
    go (a ∷ l) g = (g.0, go l g.1)

-- an object with slots is no untyped region
no_untyped : (p : ProfileName) (c : Cap) (n : ℕ) → In n (slots_of p c) → is_untyped c ≡ false
unfolding slots_of
no_untyped p Null n i = refl
no_untyped p (Untyped base bits free) n i = absurd i
no_untyped p (Endpoint base badge rights) n i = refl
no_untyped p (CNode base radix guard) n i = refl
no_untyped p (Tcb base) n i = refl

-- disjoint objects that are two have no slot in common
pub slots_apart : (p : ProfileName) (a b : Cap) (n : ℕ) → are_disjoint p a b ≡ true → same_object a b ≡ false → In n (slots_of p a) → In n (slots_of p b) → ⊥
slots_apart p a b n d s i j =
    let x = slot_in_range p a n i in
    let y = slot_in_range p b n j in
    apart (base_of a) (end_of p a) (base_of b) (end_of p b) (same_object a b) (is_untyped a) (is_untyped b) (contains p a b) (contains p b a) d s (no_untyped p a n i) (no_untyped p b n j) x.0 x.1 y.0 y.1
  where
    either : (x y : Bool) → x || y ≡ true → (x ≡ true) ⊎ (y ≡ true)
    either true y h = inl refl
    either false y h = inr h

    first : (x s u v c d : Bool) → x || (s || ((u && c) || (v && d))) ≡ true → s ≡ false → u ≡ false → v ≡ false → x ≡ true
    first x s u v c d h e f g = grind arith

    le : (x y : ℕ) → nat_le x y ≡ true → x ≤ y
    le x y h = grind (arith, nat_tests)

    apart : (ab ae bb be : ℕ) (s u v c d : Bool) → (nat_le ae bb || nat_le be ab) || (s || ((u && c) || (v && d))) ≡ true → s ≡ false → u ≡ false → v ≡ false
        → ab ≤ n → n < ae → bb ≤ n → n < be → ⊥
    apart ab ae bb be s u v c d h e f g w x y z = elim (either (nat_le ae bb) (nat_le be ab) (first (nat_le ae bb || nat_le be ab) s u v c d h e f g)) [
      | inl t ↦ let k = le ae bb t in omega arith
      | inr t ↦ let k = le be ab t in omega arith
    ]

not_null : (c : Cap) → is_null c ≡ false → c ≡ Null → ⊥
not_null c h e = let z : true ≡ false = sym (ap is_null e) ∙ h in cc

pub clearable_from : (p : ProfileName) (memory : ℕ) (f : Forest Entry) → IsDistinct eqb (slots f) → All (λ n. n < 2 ^ memory) (slots f) → All (IsLawful p memory) (caps f) → IsDisjoint p f
    → IsClearable p (2 ^ memory) (preorder f)
clearable_from p memory f distinct within lawful disjoint =
    record {
      apart = apart_of (preorder f) distinct;
      no_null = λ a i. not_null a.cap (law a i).full;
      objects = λ a b i j s n u v. slots_apart p a.cap b.cap n (disjoint.objects a b (in_contains (preorder f) a i) (in_contains (preorder f) b j)) s u v;
      distinct = λ a i. slots_distinct p a.cap;
      within = λ a i. each_of (λ n. n < 2 ^ memory) (slots_of p a.cap) (λ n j. let x = (slot_in_range p a.cap n j).1 in let y = (law a i).placed.within in omega (arith, x, y));
      slots = λ a i. each_in (λ (e : Entry). e.slot < 2 ^ memory) (preorder f) a (each_mapped (λ n. n < 2 ^ memory) (λ (e : Entry). e.slot) (preorder f) within) i;
    }
  where
    law : (a : Entry) → In a (preorder f) → IsLawful p memory a.cap
    law a i = each_in (λ (e : Entry). IsLawful p memory e.cap) (preorder f) a (each_mapped (IsLawful p memory) (λ (e : Entry). e.cap) (preorder f) lawful) i
