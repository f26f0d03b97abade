-- The set that is found by rounds is the least set.
use Rattle.std.proofs.Common.{◌≡◌, ◌⊎◌, inl, inr, ℕ, zero, suc, ◌+◌, ◌≤◌, Bool, true, false, not, cond, ◌||◌, ◌&&◌, ◌==◌, List, [], ◌∷◌, length, refl, sym, ◌∙◌, ap, subst, arith}
use Rattle.std.specs.List.{list_any, list_all, AllByRecursion as Each}
use Rattle.std.proofs.lemmas.Bool.{eqb-true}
use Rattle.cap_core.specs.declared.profile.ProfileName.{ProfileName}
use Rattle.kernel_forest.specs.Entries.{Entry, is_at}
use Rattle.cap_core.specs.Objects.{same_object}
use Rattle.kernel_forest.specs.Slots.{slots_of}
use Rattle.kernel_delete.specs.Least.{full, has_all, IsClosed, IsLeast, grown, rounds, cleared}
use Rattle.kernel_delete.specs.Members.{In}
use Rattle.kernel_delete.proofs.Members.{both_true, either_true, true_right, true_left, any_in, any_of, each_in, each_of, eqb_self}
use Rattle.kernel_delete.proofs.Sets.{one_least, has_all-more}

grown_old : (p : ProfileName) (l : List Entry) (X : ℕ → Bool) (n : ℕ) → X n ≡ true → grown p l X n ≡ true
grown_old p l X n h = true_left (X n) (full l n && list_any (λ a. has_all l X a && list_any (λ m. m == n) (slots_of p a.cap)) l) h

grown_new : (p : ProfileName) (l : List Entry) (X : ℕ → Bool) (a : Entry) (n : ℕ) → In a l → has_all l X a ≡ true → In n (slots_of p a.cap) → full l n ≡ true → grown p l X n ≡ true
grown_new p l X a n i h j f =
    let k : has_all l X a && list_any (λ m. m == n) (slots_of p a.cap) ≡ true = rw (h, any_in (λ m. m == n) (slots_of p a.cap) n j (eqb_self n)) refl in
    true_right (X n) (full l n && list_any (λ a. has_all l X a && list_any (λ m. m == n) (slots_of p a.cap)) l)
    (rw (f, any_in (λ a. has_all l X a && list_any (λ m. m == n) (slots_of p a.cap)) l a i k) refl)

-- what is in a grown set was in it, or is a full slot of an object all of whose capabilities were
pub grown_from : (p : ProfileName) (l : List Entry) (X : ℕ → Bool) (n : ℕ) → grown p l X n ≡ true →
    (X n ≡ true) ⊎ ((full l n ≡ true) × ((a : Entry) × (In a l × (has_all l X a ≡ true) × In n (slots_of p a.cap))))
grown_from p l X n h = elim (either_true (X n) (full l n && list_any (λ a. has_all l X a && list_any (λ m. m == n) (slots_of p a.cap)) l) h) [
  | inl e ↦ inl e
  | inr e ↦
      let b = both_true (full l n) (list_any (λ a. has_all l X a && list_any (λ m. m == n) (slots_of p a.cap)) l) e in
      let w = any_of (λ a. has_all l X a && list_any (λ m. m == n) (slots_of p a.cap)) l b.1 in
      let c = both_true (has_all l X w.0) (list_any (λ m. m == n) (slots_of p w.0.cap)) w.1.1 in
      let v = any_of (λ m. m == n) (slots_of p w.0.cap) c.1 in
      inr (b.0, (w.0, (w.1.0, c.0, let P : ℕ → Type 0 = λ m. In m (slots_of p w.0.cap) in subst P (eqb-true v.0 n v.1.1) v.1.0)))
]

rounds_full : (p : ProfileName) (k : ℕ) (l : List Entry) (X : ℕ → Bool) → ((n : ℕ) → X n ≡ true → full l n ≡ true) → (n : ℕ) → rounds p k l X n ≡ true → full l n ≡ true
rounds_full p zero l X h n e = h n e
rounds_full p (suc k) l X h n e = elim (grown_from p l (rounds p k l X) n e) [ inl t ↦ rounds_full p k l X h n t | inr t ↦ t.0 ]

rounds_old : (p : ProfileName) (k : ℕ) (l : List Entry) (X : ℕ → Bool) (n : ℕ) → X n ≡ true → rounds p k l X n ≡ true
rounds_old p zero l X n h = h
rounds_old p (suc k) l X n h = grown_old p l (rounds p k l X) n (rounds_old p k l X n h)

-- no round leaves a closed set
rounds_least : (p : ProfileName) (k : ℕ) (l : List Entry) (X Y : ℕ → Bool) → ((n : ℕ) → X n ≡ true → Y n ≡ true) → IsClosed p l Y → (n : ℕ) → rounds p k l X n ≡ true → Y n ≡ true
rounds_least p zero l X Y h c n e = h n e
rounds_least p (suc k) l X Y h c n e = elim (grown_from p l (rounds p k l X) n e) [
  | inl t ↦ rounds_least p k l X Y h c n t
  | inr t ↦
      let a = t.1.0 in
      let all : has_all l Y a ≡ true = has_all-more l (rounds p k l X) Y a (rounds_least p k l X Y h c) t.1.1.1 in
      each_in (λ m. full l m ≡ true → Y m ≡ true) (slots_of p a.cap) n (each_in (λ b. has_all l Y b ≡ true → Each (λ m. full l m ≡ true → Y m ≡ true) (slots_of p b.cap)) l a c t.1.1.0 all) t.1.1.2 t.0
]

-- how many of the list are in the set
tally : List Entry → (ℕ → Bool) → ℕ
tally [] X = 0
tally (b ∷ l) X = cond {A = ℕ} (X b.slot) 1 0 + tally l X

tally_le : (l : List Entry) (X : ℕ → Bool) → tally l X ≤ length l
unfolding tally
tally_le [] X = omega arith
tally_le (b ∷ l) X = let ih : tally l X ≤ length l = tally_le l X in elim (X b.slot) as (λ t. cond {A = ℕ} t 1 0 + tally l X ≤ suc (length l)) [ true ↦ omega arith | false ↦ omega arith ]

all_counted : (l : List Entry) (X : ℕ → Bool) → length l ≤ tally l X → Each (λ b. X b.slot ≡ true) l
unfolding tally
all_counted [] X h = tt
all_counted (b ∷ l) X h = all_counted_step b l X (all_counted l X) (tally_le l X) h
  where
    all_counted_step : (b : Entry) (l : List Entry) (X : ℕ → Bool) → (length l ≤ tally l X → Each (λ b. X b.slot ≡ true) l) → tally l X ≤ length l → suc (length l) ≤ cond {A = ℕ} (X b.slot) 1 0 + tally l X
        → Each (λ b. X b.slot ≡ true) (b ∷ l)
    all_counted_step b l X h le = elim (X b.slot) as (λ t. X b.slot ≡ t → suc (length l) ≤ cond {A = ℕ} t 1 0 + tally l X → Each (λ b. X b.slot ≡ true) (b ∷ l)) [
      | true ↦ λ e g. (e, h (omega arith))
      | false ↦ λ e g. absurd (omega arith)
    ] refl

two_tests : (P : Type 0) (x y : Bool) (m n : ℕ) → (x ≡ true → y ≡ true) → (P × (m ≤ n)) ⊎ (m + 1 ≤ n)
    → (((y ≡ x) × P) × (cond {A = ℕ} x 1 0 + m ≤ cond {A = ℕ} y 1 0 + n)) ⊎ (cond {A = ℕ} x 1 0 + m + 1 ≤ cond {A = ℕ} y 1 0 + n)
two_tests P true true m n h s = elim s [ inl t ↦ inl ((refl, t.0), omega (arith, t.1)) | inr t ↦ inr (omega arith) ]
two_tests P true false m n h s = let z : false ≡ true = h refl in cc
two_tests P false true m n h s = inr (elim s [ inl t ↦ omega (arith, t.1) | inr t ↦ omega arith ])
two_tests P false false m n h s = elim s [ inl t ↦ inl ((refl, t.0), omega (arith, t.1)) | inr t ↦ inr (omega arith) ]

-- of two sets, one within the other, the list cannot tell them apart, or the larger has more of it
more_or_same : (l : List Entry) (X Y : ℕ → Bool) → ((n : ℕ) → X n ≡ true → Y n ≡ true) → ((Each (λ b. Y b.slot ≡ X b.slot) l) × (tally l X ≤ tally l Y)) ⊎ (tally l X + 1 ≤ tally l Y)
unfolding tally
more_or_same [] X Y h = inl (tt, omega arith)
more_or_same (b ∷ l) X Y h = two_tests (Each (λ b. Y b.slot ≡ X b.slot) l) (X b.slot) (Y b.slot) (tally l X) (tally l Y) (h b.slot) (more_or_same l X Y h)

-- a further round adds nothing
Settled : (p : ProfileName) → List Entry → (ℕ → Bool) → Type 0
Settled p l X = (b : Entry) → In b l → grown p l X b.slot ≡ X b.slot

has_all-agree : (l : List Entry) (X Y : ℕ → Bool) → ((b : Entry) → In b l → X b.slot ≡ Y b.slot) → (a : Entry) → has_all l X a ≡ has_all l Y a
has_all-agree l X Y h a = list_all_agree (λ b. not (same_object a.cap b.cap) || X b.slot) (λ b. not (same_object a.cap b.cap) || Y b.slot) l (λ b i. ap (λ t. not (same_object a.cap b.cap) || t) (h b i))
  where
    list_all_agree : {A : Type 0} (p q : A → Bool) (l : List A) → ((a : A) → In a l → p a ≡ q a) → list_all p l ≡ list_all q l
    list_all_agree p q [] h = refl
    list_all_agree p q (x ∷ l) h = rw (h x (inl refl), list_all_agree p q l (λ a i. h a (inr i))) refl

settled_more : (p : ProfileName) (l : List Entry) (X : ℕ → Bool) → Settled p l X → Settled p l (grown p l X)
unfolding Settled
settled_more p l X h b i =
    let e : (a : Entry) → has_all l (grown p l X) a ≡ has_all l X a = has_all-agree l (grown p l X) X h in
    let f : list_any (λ a. has_all l (grown p l X) a && list_any (λ m. m == b.slot) (slots_of p a.cap)) l ≡ list_any (λ a. has_all l X a && list_any (λ m. m == b.slot) (slots_of p a.cap)) l
    = λ j. list_any (λ a. e a j && list_any (λ m. m == b.slot) (slots_of p a.cap)) l in
    ap (λ t. grown p l X b.slot || (full l b.slot && t)) f ∙ again (X b.slot) (full l b.slot && list_any (λ a. has_all l X a && list_any (λ m. m == b.slot) (slots_of p a.cap)) l)
  where
    again : (x y : Bool) → (x || y) || y ≡ x || y
    again true y = refl
    again false true = refl
    again false false = refl

settled_closed : (p : ProfileName) (l : List Entry) (X : ℕ → Bool) → Settled p l X → IsClosed p l X
unfolding Settled
settled_closed p l X h = each_of (λ a. has_all l X a ≡ true → Each (λ n. full l n ≡ true → X n ≡ true) (slots_of p a.cap)) l (λ a i g.
    each_of (λ n. full l n ≡ true → X n ≡ true) (slots_of p a.cap) (λ n j f.
    let w = any_of (is_at n) l f in
    let e : w.0.slot ≡ n = eqb-true w.0.slot n w.1.1 in
    let P : ℕ → Type 0 = λ m. X m ≡ true in
    let Q : ℕ → Type 0 = λ m. grown p l X m ≡ true in
    subst P e (sym (h w.0 w.1.0) ∙ subst Q (sym e) (grown_new p l X a n i g j f))))

settled_or_many : (p : ProfileName) (k : ℕ) (l : List Entry) (X : ℕ → Bool) → (Settled p l (rounds p k l X)) ⊎ (k ≤ tally l (rounds p k l X))
unfolding Settled
settled_or_many p zero l X = inr (omega arith)
settled_or_many p (suc k) l X = elim (settled_or_many p k l X) [
  | inl s ↦ inl (settled_more p l (rounds p k l X) s)
  | inr m ↦ elim (more_or_same l (rounds p k l X) (grown p l (rounds p k l X)) (grown_old p l (rounds p k l X))) [
    | inl s ↦ inl (settled_more p l (rounds p k l X) (λ b i. each_in (λ b. grown p l (rounds p k l X) b.slot ≡ rounds p k l X b.slot) l b s.0 i))
    | inr s ↦ inr (omega arith)
  ]
]

rounds_settled : (p : ProfileName) (l : List Entry) (X : ℕ → Bool) → Settled p l (rounds p (length l) l X)
unfolding Settled
rounds_settled p l X = elim (settled_or_many p (length l) l X) [
  | inl s ↦ s
  | inr m ↦ λ b i.
      let e : rounds p (length l) l X b.slot ≡ true = each_in (λ b. rounds p (length l) l X b.slot ≡ true) l b (all_counted l (rounds p (length l) l X) m) i in
      grown_old p l (rounds p (length l) l X) b.slot e ∙ sym e
]

-- the set by rounds is the least set
pub cleared_least : (p : ProfileName) (l : List Entry) (s : ℕ) → IsLeast p l s (cleared p l s)
cleared_least p l s = record {
  of_full = rounds_full p (length l) l (λ n. n == s && full l n) (λ n e. (both_true (n == s) (full l n) e).1);
  has_it = λ f. rounds_old p (length l) l (λ n. n == s && full l n) s (rw (f, eqb_self s) refl);
  closed = settled_closed p l (cleared p l s) (rounds_settled p l (λ n. n == s && full l n));
  least = λ Y f c. rounds_least p (length l) l (λ n. n == s && full l n) Y
      (λ n e.
      let b = both_true (n == s) (full l n) e in
      let q : n ≡ s = eqb-true n s b.0 in
      let P : ℕ → Type 0 = λ m. Y m ≡ true in
      let Q : ℕ → Type 0 = λ m. full l m ≡ true in
      subst P (sym q) (f (subst Q q b.1))) c;
}

-- whatever is the least set is the set by rounds
pub least_cleared : (p : ProfileName) (l : List Entry) (s : ℕ) (X : ℕ → Bool) → IsLeast p l s X → X ≡ cleared p l s
least_cleared p l s X h = one_least p l s X (cleared p l s) h (cleared_least p l s)
