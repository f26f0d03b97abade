-- The least set, and what is known of it while slots are looked at.
use Rattle.std.proofs.Common.{◌≡◌, ◌⊎◌, inl, inr, ℕ, Bool, true, false, not, ◌||◌, ◌==◌, List, [], ◌∷◌, ◌++◌, refl, sym, ◌∙◌, ap, subst, arith}
use Rattle.std.specs.List.{list_all, AllByRecursion as Each}
use Rattle.std.proofs.lemmas.Bool.{eqb-true}
use Rattle.cap_core.specs.declared.profile.ProfileName.{ProfileName}
use Rattle.kernel_forest.specs.Entries.{Entry, is_at}
use Rattle.cap_core.specs.Objects.{same_object}
use Rattle.kernel_forest.specs.Slots.{slots_of}
use Rattle.kernel_delete.specs.Least.{full, has_all, IsClosed, IsLeast}
use Rattle.kernel_delete.specs.Members.{In}
use Rattle.kernel_delete.proofs.Members.{either_true, true_right, true_left, any_in, all_in, all_of, each_in, each_of, tells, same_truth, in_append, in_left, in_right, eqb_self}
use Rattle.kernel_delete.proofs.Objects.{same_right, same_slots, has_self}

-- at most one set is the least
pub one_least : (p : ProfileName) (l : List Entry) (s : ℕ) (X Y : ℕ → Bool) → IsLeast p l s X → IsLeast p l s Y → X ≡ Y
one_least p l s X Y h g = λ i n. same_truth (X n) (Y n) (h.least Y g.has_it g.closed n) (g.least X h.has_it h.closed n) i

-- the work of Clear: E has left, and W is still to be looked at
pub record Clearing (p : ProfileName) (l : List Entry) (s : ℕ) (E : ℕ → Bool) (W : List ℕ) : Type 0 where
  pub emptied : (n : ℕ) → E n ≡ true → full l n ≡ true
  pub start : full l s ≡ true → (E s ≡ true) ⊎ In s W
  pub closing : (a : Entry) → In a l → has_all l E a ≡ true → (n : ℕ) → In n (slots_of p a.cap) → full l n ≡ true → (E n ≡ true) ⊎ In n W
  pub least : (Y : ℕ → Bool) → (full l s ≡ true → Y s ≡ true) → IsClosed p l Y →
      ((n : ℕ) → E n ≡ true → Y n ≡ true) × ((n : ℕ) → In n W → full l n ≡ true → Y n ≡ true)

pub clearing-begin : (p : ProfileName) (l : List Entry) (s : ℕ) → Clearing p l s (λ n. false) (s ∷ [])
clearing-begin p l s = record {
  emptied = λ n h. cc;
  start = λ h. inr (inl refl);
  closing = λ a i h n j f.
      let k : same_object a.cap a.cap ≡ true = has_self p a.cap n j in
      let z : not (same_object a.cap a.cap) || false ≡ true = all_in (λ b. not (same_object a.cap b.cap) || false) l a h i in
      let y : false ≡ true = rw k at z in
      cc;
  least = λ Y h c. (λ n e. cc, λ n i f. elim i [ inl e ↦ let P : ℕ → Type 0 = λ m. Y m ≡ true in subst P (sym e) (h (let Q : ℕ → Type 0 = λ m. full l m ≡ true in subst Q e f)) | inr j ↦ absurd j ]);
}

pub clearing-end : (p : ProfileName) (l : List Entry) (s : ℕ) (E : ℕ → Bool) → Clearing p l s E [] → IsLeast p l s E
clearing-end p l s E h = record {
  of_full = h.emptied;
  has_it = λ f. elim (h.start f) [ inl e ↦ e | inr j ↦ absurd j ];
  closed = each_of (λ a. has_all l E a ≡ true → Each (λ n. full l n ≡ true → E n ≡ true) (slots_of p a.cap)) l
      (λ a i g. each_of (λ n. full l n ≡ true → E n ≡ true) (slots_of p a.cap) (λ n j f. elim (h.closing a i g n j f) [ inl e ↦ e | inr k ↦ absurd k ]));
  least = λ Y f c. (h.least Y f c).0;
}

drop_head : (l : List Entry) (E : ℕ → Bool) (n m : ℕ) (W : List ℕ) → (full l n ≡ true → E n ≡ true) → full l m ≡ true → (E m ≡ true) ⊎ In m (n ∷ W) → (E m ≡ true) ⊎ In m W
drop_head l E n m W g f h = elim h [
  | inl e ↦ inl e
  | inr i ↦ elim i [
    | inl e ↦ inl (let P : ℕ → Type 0 = λ k. E k ≡ true in subst P (sym e) (g (let Q : ℕ → Type 0 = λ k. full l k ≡ true in subst Q e f)))
    | inr j ↦ inr j
  ]
]

-- an empty slot is skipped
pub clearing-skip : (p : ProfileName) (l : List Entry) (s n : ℕ) (E : ℕ → Bool) (W : List ℕ) → (full l n ≡ true → E n ≡ true) → Clearing p l s E (n ∷ W) → Clearing p l s E W
clearing-skip p l s n E W g h = record {
  emptied = h.emptied;
  start = λ f. drop_head l E n s W g f (h.start f);
  closing = λ a i k m j f. drop_head l E n m W g f (h.closing a i k m j f);
  least = λ Y f c. let y = h.least Y f c in (y.0, λ m i. y.1 m (inr i));
}

-- the set with one slot more
abbrev pub more : (ℕ → Bool) → ℕ → (ℕ → Bool)
more E n = λ m. E m || m == n

pub has_all-same : (l : List Entry) (X : ℕ → Bool) (a b : Entry) → same_object a.cap b.cap ≡ true → has_all l X a ≡ has_all l X b
has_all-same l X a b h = λ i. list_all (λ c. not (same_right a.cap b.cap h c.cap i) || X c.slot) l

-- with one slot more, only the object named there can be had whole
pub has_all-less : (l : List Entry) (E : ℕ → Bool) (a b : Entry) → ((c : Entry) → In c l → c.slot == a.slot ≡ true → c ≡ a) →
    same_object b.cap a.cap ≡ false → has_all l (more E a.slot) b ≡ true → has_all l E b ≡ true
has_all-less l E a b only h g = all_of (λ c. not (same_object b.cap c.cap) || E c.slot) l (λ c i.
    let k : not (same_object b.cap c.cap) || (E c.slot || c.slot == a.slot) ≡ true = all_in (λ c. not (same_object b.cap c.cap) || (E c.slot || c.slot == a.slot)) l c g i in
    less_step (same_object b.cap c.cap) (E c.slot) (c.slot == a.slot) k (λ e. ap (λ (q : Entry). same_object b.cap q.cap) (only c i e) ∙ h))
  where
    less_step : (x y z : Bool) → not x || (y || z) ≡ true → (z ≡ true → x ≡ false) → not x || y ≡ true
    less_step x y z k h = grind arith

more_old : (E : ℕ → Bool) (n m : ℕ) → E m ≡ true → more E n m ≡ true
more_old E n m e = true_left (E m) (m == n) e

more_new : (E : ℕ → Bool) (n m : ℕ) → m ≡ n → more E n m ≡ true
more_new E n m e = true_right (E m) (m == n) (rw e (eqb_self n))

handed : (E : ℕ → Bool) (n m : ℕ) (W V : List ℕ) → (In m W → In m V) → (E m ≡ true) ⊎ In m (n ∷ W) → (more E n m ≡ true) ⊎ In m V
handed E n m W V f h = elim h [
  | inl e ↦ inl (more_old E n m e)
  | inr i ↦ elim i [ inl e ↦ inl (more_new E n m e) | inr j ↦ inr (f j) ]
]

full_at : (l : List Entry) (a : Entry) → In a l → full l a.slot ≡ true
full_at l a i = any_in (is_at a.slot) l a i (eqb_self a.slot)

keeps : (p : ProfileName) (l : List Entry) (a : Entry) (F : ℕ → Bool) (W V : List ℕ) → (has_all l F a ≡ true → V ≡ slots_of p a.cap ++ W) → (has_all l F a ≡ false → V ≡ W) → (m : ℕ) → In m W → In m V
keeps p l a F W V when_last when_not m j = let P : List ℕ → Type 0 = λ q. In m q in elim (tells (has_all l F a)) [
  | inl t ↦ subst P (sym (when_last t)) (in_right m (slots_of p a.cap) W j)
  | inr t ↦ subst P (sym (when_not t)) j
]

pub has_all-more : (l : List Entry) (X Y : ℕ → Bool) (a : Entry) → ((m : ℕ) → X m ≡ true → Y m ≡ true) → has_all l X a ≡ true → has_all l Y a ≡ true
has_all-more l X Y a f h = all_of (λ b. not (same_object a.cap b.cap) || Y b.slot) l (λ b i.
    elim (either_true (not (same_object a.cap b.cap)) (X b.slot) (all_in (λ b. not (same_object a.cap b.cap) || X b.slot) l b h i)) [
      | inl e ↦ true_left (not (same_object a.cap b.cap)) (Y b.slot) e
      | inr e ↦ true_right (not (same_object a.cap b.cap)) (Y b.slot) (f b.slot e)
    ])

-- a full slot is emptied; where its capability was the last of its object, the object's slots are to be looked at too
pub clearing-take : (p : ProfileName) (l : List Entry) (s : ℕ) (a : Entry) (E : ℕ → Bool) (W V : List ℕ) → In a l → ((c : Entry) → In c l → c.slot == a.slot ≡ true → c ≡ a) →
    (has_all l (more E a.slot) a ≡ true → V ≡ slots_of p a.cap ++ W) → (has_all l (more E a.slot) a ≡ false → V ≡ W) →
    Clearing p l s E (a.slot ∷ W) → Clearing p l s (more E a.slot) V
clearing-take p l s a E W V i only when_last when_not h = record {
  emptied = λ m e. elim (either_true (E m) (m == a.slot) e) [
    | inl t ↦ h.emptied m t
    | inr t ↦ let P : ℕ → Type 0 = λ k. full l k ≡ true in subst P (sym (eqb-true m a.slot t)) (full_at l a i)
  ];
  start = λ f. handed E a.slot s W V (keeps p l a (more E a.slot) W V when_last when_not s) (h.start f);
  closing = λ b j g m k f. elim (tells (same_object b.cap a.cap)) [
    | inl t ↦
        let last : has_all l (more E a.slot) a ≡ true = sym (has_all-same l (more E a.slot) b a t) ∙ g in
        inr (let P : List ℕ → Type 0 = λ q. In m q in subst P (sym (when_last last)) (in_left m (slots_of p a.cap) W (subst P (same_slots p b.cap a.cap t) k)))
    | inr t ↦ handed E a.slot m W V (keeps p l a (more E a.slot) W V when_last when_not m) (h.closing b j (has_all-less l E a b only t g) m k f)
  ];
  least = λ Y f c.
      let y = h.least Y f c in
      let at : Y a.slot ≡ true = y.1 a.slot (inl refl) (full_at l a i) in
      let old : (m : ℕ) → more E a.slot m ≡ true → Y m ≡ true = λ m e. elim (either_true (E m) (m == a.slot) e) [
        | inl t ↦ y.0 m t
        | inr t ↦ let P : ℕ → Type 0 = λ k. Y k ≡ true in subst P (sym (eqb-true m a.slot t)) at
      ] in (
        old,
        λ m j g. elim (tells (has_all l (more E a.slot) a)) [
          | inl last ↦ elim (in_append m (slots_of p a.cap) W (let P : List ℕ → Type 0 = λ q. In m q in subst P (when_last last) j)) [
            | inl u ↦ each_in (λ n. full l n ≡ true → Y n ≡ true) (slots_of p a.cap) m (each_in (λ b. has_all l Y b ≡ true → Each (λ n. full l n ≡ true → Y n ≡ true) (slots_of p b.cap)) l a c i (has_all-more l (more E a.slot) Y a old last)) u g
            | inr u ↦ y.1 m (inr u) g
          ]
          | inr not_last ↦ y.1 m (inr (let P : List ℕ → Type 0 = λ q. In m q in subst P (when_not not_last) j)) g
        ],
      );
}
