-- An object with a capability in one of its own slots stays, with that capability, unless this very slot is cleared.
use Rattle.std.proofs.Common.{◌≡◌, inl, inr, ℕ, Bool, true, false, not, ◌||◌, ◌&&◌, ◌==◌, List, ◌∙◌, ap, subst, arith}
use Rattle.std.specs.List.{list_any, AllByRecursion as Each}
use Rattle.std.proofs.lemmas.Bool.{eqb-true}
use Rattle.cap_core.specs.declared.profile.ProfileName.{ProfileName}
use Rattle.cap_core.specs.Objects.{same_object}
use Rattle.kernel_forest.specs.Entries.{Entry}
use Rattle.kernel_forest.specs.Slots.{slots_of}
use Rattle.kernel_delete.specs.Members.{In}
use Rattle.kernel_delete.specs.Least.{full, has_all, IsClosed, cleared}
use Rattle.kernel_delete.specs.Work.{IsClearable}
use Rattle.kernel_delete.proofs.Members.{all_in, any_in, any_of, each_in, each_of, tells, both_true, eqb_self, true_right}
use Rattle.kernel_delete.proofs.Objects.{has_self}
use Rattle.kernel_delete.proofs.Sets.{has_all-same, has_all-more}
use Rattle.kernel_delete.proofs.Rounds.{cleared_least}

pub stays_in_itself : (p : ProfileName) (size : ℕ) (l : List Entry) (s : ℕ) (b : Entry) → IsClearable p size l → In b l → In b.slot (slots_of p b.cap) → (b.slot ≡ s → ⊥) → cleared p l s b.slot ≡ false
stays_in_itself p size l s b law i own other = elim (tells (cleared p l s b.slot)) [
  | inl t ↦ absurd (not_left ((cleared_least p l s).least left start closed b.slot t))
  | inr t ↦ t
]
  where
    -- what is cleared, without what lies in the object
    left : ℕ → Bool
    left n = cleared p l s n && (not (list_any (λ m. m == n) (slots_of p b.cap)) || n == s)

    not_left : left b.slot ≡ true → ⊥
    not_left h =
        let e = (both_true (cleared p l s b.slot) (not (list_any (λ m. m == b.slot) (slots_of p b.cap)) || b.slot == s) h).1 in
        let o : list_any (λ m. m == b.slot) (slots_of p b.cap) ≡ true = any_in (λ m. m == b.slot) (slots_of p b.cap) b.slot own (eqb_self b.slot) in
        other (eqb-true b.slot s (second _ _ e o))
      where
        second : (x y : Bool) → not x || y ≡ true → x ≡ true → y ≡ true
        second x y h g = grind arith

    both : (x y : Bool) → x ≡ true → y ≡ true → x && y ≡ true
    both x y h g = grind arith

    start : full l s ≡ true → left s ≡ true
    start h = both (cleared p l s s) (not (list_any (λ m. m == s) (slots_of p b.cap)) || s == s) ((cleared_least p l s).has_it h) (true_right (not (list_any (λ m. m == s) (slots_of p b.cap))) (s == s) (eqb_self s))

    taken : (a : Entry) (n : ℕ) → In a l → has_all l left a ≡ true → In n (slots_of p a.cap) → full l n ≡ true → cleared p l s n ≡ true
    taken a n j g k f =
        each_in (λ m. full l m ≡ true → cleared p l s m ≡ true) (slots_of p a.cap) n
        (each_in (λ (c : Entry). has_all l (cleared p l s) c ≡ true → Each (λ m. full l m ≡ true → cleared p l s m ≡ true) (slots_of p c.cap)) l a (cleared_least p l s).closed j
        (has_all-more l left (cleared p l s) a (λ m h. (both_true (cleared p l s m) (not (list_any (λ k. k == m) (slots_of p b.cap)) || m == s) h).0) g)) k f

    apart : (a : Entry) (n : ℕ) → In a l → has_all l left a ≡ true → In n (slots_of p a.cap) → list_any (λ m. m == n) (slots_of p b.cap) ≡ true → ⊥
    apart a n j g k h = elim (tells (same_object b.cap a.cap)) [
      | inl t ↦
          let all : has_all l left b ≡ true = has_all-same l left b a t ∙ g in
          not_left (held (same_object b.cap b.cap) (left b.slot) (all_in (λ (c : Entry). not (same_object b.cap c.cap) || left c.slot) l b all i) (has_self p b.cap b.slot own))
      | inr t ↦
          let v = any_of (λ m. m == n) (slots_of p b.cap) h in
          let P : ℕ → Type 0 = λ m. In m (slots_of p b.cap) in
          law.objects b a i j t n (subst P (eqb-true v.0 n v.1.1) v.1.0) k
    ]
      where
        held : (x y : Bool) → not x || y ≡ true → x ≡ true → y ≡ true
        held x y h g = grind arith

    outside : (a : Entry) (n : ℕ) → In a l → has_all l left a ≡ true → In n (slots_of p a.cap) → not (list_any (λ m. m == n) (slots_of p b.cap)) || n == s ≡ true
    outside a n j g k = elim (tells (list_any (λ m. m == n) (slots_of p b.cap))) [
      | inl t ↦ absurd (apart a n j g k t)
      | inr t ↦ ap (λ x. not x || n == s) t
    ]

    closed : IsClosed p l left
    closed = each_of (λ (a : Entry). has_all l left a ≡ true → Each (λ n. full l n ≡ true → left n ≡ true) (slots_of p a.cap)) l
        (λ a j g. each_of (λ n. full l n ≡ true → left n ≡ true) (slots_of p a.cap)
        (λ n k f. both (cleared p l s n) (not (list_any (λ m. m == n) (slots_of p b.cap)) || n == s) (taken a n j g k f) (outside a n j g k)))
