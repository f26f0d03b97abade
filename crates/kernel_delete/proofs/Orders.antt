-- Slots that are emptied one after another, in whatever order, leave as all at once.
use Rattle.std.proofs.Common.{◌≡◌, inl, inr, ℕ, Bool, true, false, not, cond, ◌||◌, ◌==◌, List, [], map, eqb, ◌∷◌, refl, sym, ◌∙◌, ap, arith}
use Rattle.std.specs.List.{IsDistinct, list_any, filter}
use Rattle.std.proofs.lemmas.Bool.Decides.{nat_tests}
use Rattle.cap_core.specs.declared.profile.ProfileName.{ProfileName}
use Rattle.kernel_forest.proofs.Trees.Built.{Absent, Once}
use Rattle.kernel_forest.proofs.Slots.Distinct.{once_at}
use Rattle.kernel_delete.specs.Least.{cleared}
use Rattle.kernel_forest.specs.Entries.{slots, Entry, is_at}
use Rattle.kernel_forest.specs.Forest.{Forest, none, tree, preorder, out}
use Rattle.kernel_forest.specs.Without.{without}
use Rattle.kernel_delete.specs.Clear.{clear, all_emptied}
use Rattle.kernel_delete.specs.Members.{In, OneAtMost, AreApart}
use Rattle.kernel_delete.proofs.Members.{any_in, any_of, tells, in_filter}
use Rattle.kernel_delete.proofs.Without.{without-without, preorder-without, out_one}

pub one_only : {A : Type 0} (p : A → Bool) (l : List A) → OneAtMost p l → (a b : A) → In a l → In b l → p a ≡ true → p b ≡ true → b ≡ a
one_only p [] h a b i j e f = absurd i
one_only p (x ∷ l) h a b i j e f = elim i [
  | inl s ↦ elim j [ inl t ↦ t ∙ sym s | inr t ↦ absurd (let z : true ≡ false = sym (any_in p l b t f) ∙ h.0 (ap p (sym s) ∙ e) in cc) ]
  | inr s ↦ elim j [ inl t ↦ absurd (let z : true ≡ false = sym (any_in p l a s e) ∙ h.0 (ap p (sym t) ∙ f) in cc) | inr t ↦ one_only p l h.1 a b s t e f ]
]

pub one-filter : {A : Type 0} (p q : A → Bool) (l : List A) → OneAtMost p l → OneAtMost p (filter q l)
one-filter p q [] h = tt
one-filter p q (x ∷ l) h = elim (q x) as (λ b. OneAtMost p (cond b (x ∷ filter q l) (filter q l))) [
  | true ↦ (
    λ e. elim (tells (list_any p (filter q l))) [
      | inl t ↦ let w = any_of p (filter q l) t in absurd (let z : true ≡ false = sym (any_in p l w.0 (in_filter q l w.0 w.1.0).0 w.1.1) ∙ h.0 e in cc)
      | inr t ↦ t
    ],
    one-filter p q l h.1,
  )
  | false ↦ one-filter p q l h.1
]

pub apart-without : (p : Entry → Bool) (f : Forest Entry) → AreApart (preorder f) → AreApart (preorder (without p f))
apart-without p f h n = rw (preorder-without p f) (one-filter (is_at n) (λ a. not (p a)) (preorder f) (h n))

-- one slot more leaves
pub out_next : (n : ℕ) (E : ℕ → Bool) (f : Forest Entry) → AreApart (preorder f) → out (is_at n) (without (λ e. E e.slot) f) ≡ without (λ e. E e.slot || e.slot == n) f
out_next n E f h = out_one (is_at n) (without (λ e. E e.slot) f) (apart-without (λ e. E e.slot) f h n) ∙ without-without (is_at n) (λ e. E e.slot) f

-- in whatever order: they leave all at once
pub outs_without : (ns : List ℕ) (f : Forest Entry) → AreApart (preorder f) → all_emptied ns f ≡ without (λ e. list_any (λ m. e.slot == m) ns) f
outs_without [] f h = sym (without_none f)
  where
    without_none : {A : Type 0} (f : Forest A) → without (λ a. false) f ≡ f
    without_none none = refl
    without_none (tree a k r) = rw (without_none k, without_none r) refl
outs_without (n ∷ ns) f h =
    let o : out (is_at n) f ≡ without (is_at n) f = out_one (is_at n) f (h n) in
    ap (all_emptied ns) o ∙ outs_without ns (without (is_at n) f) (apart-without (is_at n) f h) ∙ without-without (λ e. list_any (λ m. e.slot == m) ns) (is_at n) f

-- from a list of distinct slots
absent_none : {A : Type 0} (is : A → Bool) (l : List A) → Absent is l → list_any is l ≡ false
absent_none is [] h = refl
absent_none is (a ∷ l) h = rw h.0 (absent_none is l h.1)

once_one : {A : Type 0} (is : A → Bool) (l : List A) → Once is l → OneAtMost is l
once_one is [] h = tt
once_one is (a ∷ l) h = (λ e. absent_none is l (h.0 e), once_one is l h.1)

pub apart_of : (l : List Entry) → IsDistinct eqb (map (λ (e : Entry). e.slot) l) → AreApart l
apart_of l d n = once_one (is_at n) l (once_at n l d)

-- a list that has exactly what is cleared, in whatever order: all of it leaves
pub order_clear : (p : ProfileName) (f : Forest Entry) (s : ℕ) (ns : List ℕ) → IsDistinct eqb (slots f) → ((n : ℕ) → list_any (λ m. m == n) ns ≡ cleared p (preorder f) s n) → all_emptied ns f ≡ clear p s f
order_clear p f s ns d h =
    outs_without ns f (apart_of (preorder f) d) ∙ ap (λ (X : ℕ → Bool). without (λ (e : Entry). X e.slot) f) (λ i n. (swapped n ns ∙ h n) i)
  where
    swap : (i j : ℕ) → (i == j) ≡ (j == i)
    swap i j = grind (arith, nat_tests)

    swapped : (n : ℕ) (ns : List ℕ) → list_any (λ m. n == m) ns ≡ list_any (λ m. m == n) ns
    swapped n [] = refl
    swapped n (m ∷ ns) = rw (swap n m, swapped n ns) refl
