-- What a slot holds, and whether its capability is the last of its object, while others have left.
use Rattle.std.proofs.Common.{◌≡◌, ◌⊎◌, inl, inr, ℕ, Bool, true, false, not, cond, ◌||◌, ◌&&◌, ◌==◌, List, [], ◌∷◌, refl, sym, ◌∙◌, ap, arith}
use Rattle.std.specs.List.{list_any, filter}
use Rattle.std.proofs.lemmas.List.Folds.{list_any-append}
use Rattle.kernel_forest.specs.Entries.{Entry}
use Rattle.cap_core.specs.Objects.{is_untyped, same_object}
use Rattle.kernel_forest.specs.Forest.{Forest, none, tree, preorder, out}
use Rattle.kernel_delete.specs.Least.{full, has_all}
use Rattle.kernel_delete.specs.Members.{In}
use Rattle.kernel_delete.specs.Work.{held, last_at, named, ended_in}
use Rattle.cap_core.specs.declared.capability.Cap.{Cap}
use Rattle.cap_core.specs.declared.capability.Cap.TheVariants.{Null}
use Rattle.kernel_delete.proofs.Members.{both_true, true_right, true_left, any_in, any_of, all_in, all_of, tells, same_truth, in_filter, filter_in}
use Rattle.kernel_delete.proofs.Objects.{untyped_same, same_right, same_sym}
use Rattle.kernel_delete.proofs.Sets.{more}

pub out_absent : {A : Type 0} (p : A → Bool) (f : Forest A) → list_any p (preorder f) ≡ false → out p f ≡ f
out_absent p none h = refl
out_absent p (tree a k r) h = out_absent_step p a k r (out_absent p k) (out_absent p r) h
  where
    out_absent_step : {A : Type 0} (p : A → Bool) (a : A) (k r : Forest A) → (list_any p (preorder k) ≡ false → out p k ≡ k) → (list_any p (preorder r) ≡ false → out p r ≡ r)
        → list_any p (preorder (tree a k r)) ≡ false → out p (tree a k r) ≡ tree a k r
    out_absent_step p a k r h g e =
        let e' : p a || (list_any p (preorder k) || list_any p (preorder r)) ≡ false = ap (λ b. p a || b) (sym (list_any-append p (preorder k) (preorder r))) ∙ e in
        grind arith

-- the capability at a slot where only one entry stands
pub cap_at_only : (l : List Entry) (n : ℕ) (a : Entry) → In a l → a.slot == n ≡ true → ((b : Entry) → In b l → b.slot == n ≡ true → b ≡ a) → held l n ≡ a.cap
cap_at_only [] n a i e only = absurd i
cap_at_only (x ∷ l) n a i e only =
    elim (x.slot == n) as (λ t. x.slot == n ≡ t → cond t x.cap (held l n) ≡ a.cap) [
      | true ↦ λ h. ap (λ (q : Entry). q.cap) (only x (inl refl) h)
      | false ↦ λ h. elim i [
        | inl s ↦ absurd (let z : true ≡ false = sym e ∙ ap (λ (q : Entry). q.slot == n) s ∙ h in cc)
        | inr j ↦ cap_at_only l n a j e (λ b k. only b (inr k))
      ]
    ] refl

pub cap_at_empty : (l : List Entry) (n : ℕ) → full l n ≡ false → held l n ≡ Null
cap_at_empty [] n h = refl
cap_at_empty (x ∷ l) n h = cap_at_empty_step x l n (cap_at_empty l n) h
  where
    cap_at_empty_step : (x : Entry) (l : List Entry) (n : ℕ) → (full l n ≡ false → held l n ≡ Null) → full (x ∷ l) n ≡ false → held (x ∷ l) n ≡ Null
    cap_at_empty_step x l n g h = grind arith

not_true : (b : Bool) → (b ≡ true → ⊥) → b ≡ false
not_true true h = absurd (h refl)
not_true false h = refl

not_false : (b : Bool) → not b ≡ true → b ≡ false
not_false true h = cc
not_false false h = refl

-- what has not left
abbrev pub remaining : (ℕ → Bool) → List Entry → List Entry
remaining E l = filter (λ e. not (E e.slot)) l

-- where the capability is the last of its object, no other slot names that, and where it isn't, another does
pub last_none : (l : List Entry) (n : ℕ) → last_at l n ≡ true → list_any (λ (b : Entry). not (b.slot == n) && same_object b.cap (held l n)) l ≡ false
last_none l n h = by_case (is_untyped (held l n)) (list_any (λ (b : Entry). not (b.slot == n) && same_object b.cap (held l n)) l) (λ t.
    not_true (list_any (λ (b : Entry). not (b.slot == n) && same_object b.cap (held l n)) l) (λ g.
    let w = any_of (λ (b : Entry). not (b.slot == n) && same_object b.cap (held l n)) l g in
    let z : true ≡ false = sym (both_true (not (w.0.slot == n)) (same_object w.0.cap (held l n)) w.1.1).1 ∙ untyped_same w.0.cap (held l n) t in cc)) h
  where
    by_case : (x y : Bool) → (x ≡ true → y ≡ false) → x || not y ≡ true → y ≡ false
    by_case x y f g = grind arith

pub last_other : (l : List Entry) (n : ℕ) → last_at l n ≡ false → list_any (λ (b : Entry). not (b.slot == n) && same_object b.cap (held l n)) l ≡ true
last_other l n h = by_case (is_untyped (held l n)) (list_any (λ (b : Entry). not (b.slot == n) && same_object b.cap (held l n)) l) h
  where
    by_case : (x y : Bool) → x || not y ≡ false → y ≡ true
    by_case x y g = grind arith

-- last among what remains: the set with one slot more has all
pub last_all : (l : List Entry) (E : ℕ → Bool) (a : Entry) → held (remaining E l) a.slot ≡ a.cap → last_at (remaining E l) a.slot ≡ true → has_all l (more E a.slot) a ≡ true
last_all l E a k h = all_of (λ b. not (same_object a.cap b.cap) || (E b.slot || b.slot == a.slot)) l (λ b i.
    elim (tells (E b.slot)) [
      | inl e ↦ true_right (not (same_object a.cap b.cap)) (E b.slot || b.slot == a.slot) (true_left (E b.slot) (b.slot == a.slot) e)
      | inr e ↦
          let j : In b (remaining E l) = filter_in (λ e. not (E e.slot)) l b i (ap not e) in
          let none_other = last_none (remaining E l) a.slot h in
          last_all_step (b.slot == a.slot) (same_object a.cap b.cap) (E b.slot)
          (λ u v. let z : true ≡ false = sym (any_in (λ (b : Entry). not (b.slot == a.slot) && same_object b.cap (held (remaining E l) a.slot)) (remaining E l) b j (rw (u, k, same_sym a.cap b.cap v) refl)) ∙ none_other in cc)
    ])
  where
    last_all_step : (x y z : Bool) → (x ≡ false → y ≡ true → ⊥) → not y || (z || x) ≡ true
    last_all_step true true true h = refl
    last_all_step true true false h = refl
    last_all_step true false z h = refl
    last_all_step false true z h = absurd (h refl refl)
    last_all_step false false z h = refl

pub other_not_all : (l : List Entry) (E : ℕ → Bool) (a : Entry) → held (remaining E l) a.slot ≡ a.cap → last_at (remaining E l) a.slot ≡ false → has_all l (more E a.slot) a ≡ false
other_not_all l E a k h = not_true (has_all l (more E a.slot) a) (λ g.
    let w = any_of (λ (b : Entry). not (b.slot == a.slot) && same_object b.cap (held (remaining E l) a.slot)) (remaining E l) (last_other (remaining E l) a.slot h) in
    let b = both_true (not (w.0.slot == a.slot)) (same_object w.0.cap (held (remaining E l) a.slot)) w.1.1 in
    let s : same_object a.cap w.0.cap ≡ true = same_sym w.0.cap a.cap (ap (same_object w.0.cap) (sym k) ∙ b.1) in
    let i = in_filter (λ e. not (E e.slot)) l w.0 w.1.0 in
    let t : not (same_object a.cap w.0.cap) || (E w.0.slot || w.0.slot == a.slot) ≡ true = all_in (λ b. not (same_object a.cap b.cap) || (E b.slot || b.slot == a.slot)) l w.0 g i.0 in
    contradiction (same_object a.cap w.0.cap) (E w.0.slot) (w.0.slot == a.slot) t s i.1 b.0)
  where
    contradiction : (x y z : Bool) → not x || (y || z) ≡ true → x ≡ true → not y ≡ true → not z ≡ true → ⊥
    contradiction x y z t s u v = grind arith

named_but : (l : List Entry) (a : Entry) → ((b : Entry) → In b l → b.slot == a.slot ≡ true → b ≡ a) → (c : Cap) → named l c ≡ true → (named (filter (λ e. not (e.slot == a.slot)) l) c ≡ true) ⊎ (same_object a.cap c ≡ true)
named_but l a only c e =
    let w = any_of (λ (b : Entry). same_object b.cap c) l e in
    elim (tells (w.0.slot == a.slot)) [
      | inl t ↦ inr (ap (λ (q : Entry). same_object q.cap c) (sym (only w.0 w.1.0 t)) ∙ w.1.1)
      | inr t ↦ inl (any_in (λ (b : Entry). same_object b.cap c) (filter (λ e. not (e.slot == a.slot)) l) w.0 (filter_in (λ e. not (e.slot == a.slot)) l w.0 w.1.0 (ap not t)) w.1.1)
    ]

-- which objects have ended_in, with one slot more: that of the slot, where it is the last of it
pub ended-last : (before l : List Entry) (a : Entry) → ((b : Entry) → In b l → In b before) → In a l → ((b : Entry) → In b l → b.slot == a.slot ≡ true → b ≡ a) → held l a.slot ≡ a.cap → last_at l a.slot ≡ true →
    (c : Cap) → ended_in before (filter (λ e. not (e.slot == a.slot)) l) c ≡ (ended_in before l c || same_object a.cap c)
ended-last before l a sub i only k h c =
    last_step (named before c) (named l c) (named (filter (λ e. not (e.slot == a.slot)) l) c) (same_object a.cap c)
    (λ e. any_in (λ (b : Entry). same_object b.cap c) before a (sub a i) e)
    (λ e. let w = any_of (λ (b : Entry). same_object b.cap c) (filter (λ e. not (e.slot == a.slot)) l) e in any_in (λ (b : Entry). same_object b.cap c) l w.0 (in_filter (λ e. not (e.slot == a.slot)) l w.0 w.1.0).0 w.1.1)
    (named_but l a only c)
    (λ e. not_true (named (filter (λ e. not (e.slot == a.slot)) l) c) (λ g.
    let w = any_of (λ (b : Entry). same_object b.cap c) (filter (λ e. not (e.slot == a.slot)) l) g in
    let j = in_filter (λ e. not (e.slot == a.slot)) l w.0 w.1.0 in
    let s : same_object w.0.cap a.cap ≡ true = same_sym a.cap w.0.cap (same_right a.cap c e w.0.cap ∙ same_sym w.0.cap c w.1.1) in
    let none_other = last_none l a.slot h in
    let z : true ≡ false = sym (any_in (λ (b : Entry). not (b.slot == a.slot) && same_object b.cap (held l a.slot)) l w.0 j.0 (rw (j.1, k, s) refl)) ∙ none_other in cc))
  where
    last_step : (before old new s : Bool) → (s ≡ true → before ≡ true) → (new ≡ true → old ≡ true) → (old ≡ true → (new ≡ true) ⊎ (s ≡ true)) → (s ≡ true → new ≡ false) → before && not new ≡ (before && not old) || s
    last_step before old new s f g h k = grind arith

pub ended-other : (before l : List Entry) (a : Entry) → ((b : Entry) → In b l → b.slot == a.slot ≡ true → b ≡ a) → held l a.slot ≡ a.cap → last_at l a.slot ≡ false →
    (c : Cap) → ended_in before (filter (λ e. not (e.slot == a.slot)) l) c ≡ ended_in before l c
ended-other before l a only k h c =
    let w = any_of (λ (b : Entry). not (b.slot == a.slot) && same_object b.cap (held l a.slot)) l (last_other l a.slot h) in
    let b = both_true (not (w.0.slot == a.slot)) (same_object w.0.cap (held l a.slot)) w.1.1 in
    let s : same_object w.0.cap a.cap ≡ true = ap (same_object w.0.cap) (sym k) ∙ b.1 in
    ap (λ t. named before c && not t) (same_truth (named (filter (λ e. not (e.slot == a.slot)) l) c) (named l c)
    (λ e. let w = any_of (λ (b : Entry). same_object b.cap c) (filter (λ e. not (e.slot == a.slot)) l) e in any_in (λ (b : Entry). same_object b.cap c) l w.0 (in_filter (λ e. not (e.slot == a.slot)) l w.0 w.1.0).0 w.1.1)
    (λ e. elim (named_but l a only c e) [
      | inl t ↦ t
      | inr t ↦ any_in (λ (b : Entry). same_object b.cap c) (filter (λ e. not (e.slot == a.slot)) l) w.0 (filter_in (λ e. not (e.slot == a.slot)) l w.0 w.1.0 b.0) (same_sym c w.0.cap (sym (same_right a.cap c t w.0.cap) ∙ same_sym w.0.cap a.cap s))
    ]))
