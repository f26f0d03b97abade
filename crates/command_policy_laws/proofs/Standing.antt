-- Where a part is told to take from another, a slot of the other stands below one of its own.
use Rattle.std.proofs.Common.{◌≡◌, ◌⊎◌, inl, inr, ℕ, Bool, true, false, cond, ◌==◌, ◌||◌, List, [], ◌∷◌, ◌++◌, map, Option, Some, None, refl, sym, ap, subst, ◌∙◌, eq-eqb}
use Rattle.std.specs.Prelude.{option_map, not}
use Rattle.std.specs.List.{AllByRecursion as Each}
use Rattle.std.proofs.lemmas.Bool.{false≢true, eqb-true}
use Rattle.std.proofs.lemmas.List.Folds.{list_any-append}
use Rattle.kernel_forest.specs.Forest.{Forest, none, tree, join, preorder, below_those, descendants, parented}
use Rattle.kernel_forest.specs.Entries.{Entry, is_at, slot_of}
use Rattle.kernel_forest.proofs.Trees.Forests.{preorder-join}
use Rattle.kernel_forest.proofs.Slots.DistinctEntries.{AreDistinct, distinct-across, distinct-head, distinct-left, distinct-right, distinct-tail}
use Rattle.kernel_delete.specs.Members.{In}
use Rattle.kernel_delete.proofs.Clearable.{contains_in, in_contains}
use Rattle.kernel_delete.proofs.Members.{both_true, each_in, either_true, eqb_self, in_append, in_left, in_right, tells}
use Rattle.query_parts.specs.declared.listed.PartMemory.{PartMemory}
use Rattle.query_parts.specs.Listed.{part_at}
use Rattle.query_parts.proofs.Below.{above as entry_above}
use Rattle.query_parts.proofs.Lists.{from_mapped}
use Rattle.setup_report.specs.State.{is_in, rising}
use Rattle.setup_report.proofs.Addresses.Rising.{any_rising, in_filter}
use Rattle.command_parts.specs.declared.takes.PartSlot.{PartSlot}
use Rattle.command_parts.specs.Takes.{is_beneath, is_part, part_below, part_or_none, part_slot, part_slots, parts_below, taken_by, with_slot}
use Rattle.command_parts.proofs.Beneath.{one, slots_after, standing, walked}

-- ---- what stands below an entry of a tree, or of the other trees

within : (t : Entry → Bool) (f : Forest Entry) (e : Entry) → In e (descendants t f) → In e (preorder f)
within t none e there = absurd there
within t (tree a under others) e there =
    (elim (t a) as (λ b. In e (preorder (cond b under (join (below_those t under) (below_those t others)))) → In e (preorder (tree a under others))) [
      | true ↦ λ here. inr (in_left e (preorder under) (preorder others) here)
      | false ↦ λ here. elim (in_append e (descendants t under) (descendants t others) (subst (In e) (preorder-join (below_those t under) (below_those t others)) here)) [
        | inl first ↦ inr (in_left e (preorder under) (preorder others) (within t under e first))
        | inr rest ↦ inr (in_right e (preorder under) (preorder others) (within t others e rest))
      ]
    ]) there

module _ (s : ℕ) (a : Entry) (under others : Forest Entry) (e : Entry) where
  abbrev InTree : Bool → Type 0
  InTree b = In e (preorder (cond b under (join (below_those (is_at s) under) (below_those (is_at s) others))))

  in_under : In e (descendants (is_at s) under) → In e (descendants (is_at s) (tree a under others))
  in_under there = by (is_at s a)
    where
      by : (b : Bool) → InTree b
      by true = within (is_at s) under e there
      by false =
          subst (In e) (sym (preorder-join (below_those (is_at s) under) (below_those (is_at s) others)))
          (in_left e (descendants (is_at s) under) (descendants (is_at s) others) there)

  in_others : is_at s a ≡ false → In e (descendants (is_at s) others) → In e (descendants (is_at s) (tree a under others))
  in_others other there =
      subst InTree (sym other)
      (subst (In e) (sym (preorder-join (below_those (is_at s) under) (below_those (is_at s) others)))
      (in_right e (descendants (is_at s) under) (descendants (is_at s) others) there))

-- ---- distinct slots

-- an entry has another slot than each that is distinct from it
differ : (x : Entry) (l : List Entry) (e : Entry) → AreDistinct (x ∷ l) → In e l → e.slot ≡ x.slot → ⊥
differ x l e d there same = false≢true (sym (each_in (λ (y : Entry). x.slot == y.slot ≡ false) l e (distinct-head x l d) there) ∙ eq-eqb x.slot e.slot (sym same))

differ_across : (xs ys : List Entry) (x e : Entry) → AreDistinct (xs ++ ys) → In x xs → In e ys → e.slot ≡ x.slot → ⊥
differ_across xs ys x e d here there same =
    false≢true (sym (each_in (λ (y : Entry). x.slot == y.slot ≡ false) ys e (each_in (λ (z : Entry). Each (λ (y : Entry). z.slot == y.slot ≡ false) ys) xs x (distinct-across xs ys d) here) there)
    ∙ eq-eqb x.slot e.slot (sym same))

-- what a forest lists with what it stands below stands in it
in_parented : (top : Option Entry) (f : Forest Entry) (x : Entry × Option Entry) → In x (parented top f) → In x.0 (preorder f)
in_parented top none x there = absurd there
in_parented top (tree a under others) x (inl same) = inl (ap (λ (y : Entry × Option Entry). y.0) same)
in_parented top (tree a under others) x (inr more) = inr (elim (in_append x (parented (Some a) under) (parented top others) more) [
  | inl here ↦ in_left x.0 (preorder under) (preorder others) (in_parented (Some a) under x here)
  | inr there ↦ in_right x.0 (preorder under) (preorder others) (in_parented top others x there)
])

-- a slot of the one part, with a slot of the other below it
pub record StandsBelow (memory : List PartMemory) (i j : ℕ) (f : Forest Entry) : Type 0 where
  pub slot : ℕ
  pub under : Entry
  pub mine : part_at memory slot ≡ Some i
  pub below : In under (descendants (is_at slot) f)
  pub theirs : part_at memory under.slot ≡ Some j

module _ (memory : List PartMemory) (i j : ℕ) where
  -- ---- which slots a walk keeps

  kept_of_one : (n : ℕ) (kept : List ℕ) (s : PartSlot) → is_in n (with_slot i kept s) ≡ true → (is_in n kept ≡ true) ⊎ (n ≡ s.slot)
  kept_of_one n kept s = by (is_beneath kept s.above || is_part i s.part)
    where
      by : (b : Bool) → is_in n (cond b (s.slot ∷ kept) kept) ≡ true → (is_in n kept ≡ true) ⊎ (n ≡ s.slot)
      by false h = inl h
      by true h = elim (either_true (n == s.slot) (is_in n kept) h) [
        | inl same ↦ inr (eqb-true n s.slot same)
        | inr old ↦ inl old
      ]

  kept_of_all : (n : ℕ) (kept : List ℕ) (l : List PartSlot) → is_in n (slots_after memory i j kept l) ≡ true → (is_in n kept ≡ true) ⊎ ((s : PartSlot) × (In s l × (n ≡ s.slot)))
  unfolding slots_after
  kept_of_all n kept [] h = inl h
  kept_of_all n kept (s ∷ l) h = elim (kept_of_all n (with_slot i kept s) l h) [
    | inr later ↦ inr (later.0, (inr later.1.0, later.1.1))
    | inl next ↦ elim (kept_of_one n kept s next) [
      | inl old ↦ inl old
      | inr is ↦ inr (s, (inl refl, is))
    ]
  ]

  -- those of the forest that is walked, besides those before
  kept_of_forest : (n : ℕ) (kept : List ℕ) (top : Option Entry) (f : Forest Entry) → is_in n (slots_after memory i j kept (standing memory i j top f)) ≡ true →
      (is_in n kept ≡ true) ⊎ ((e : Entry) × (In e (preorder f) × (n ≡ e.slot)))
  kept_of_forest n kept top f h = elim (kept_of_all n kept (standing memory i j top f) h) [
    | inl old ↦ inl old
    | inr m ↦
        let d = from_mapped (part_slot memory) (map (λ (e : Entry × Option Entry). (e.0, option_map slot_of e.1)) (parented top f)) m.0 m.1.0 in
        let x = from_mapped (λ (e : Entry × Option Entry). (e.0, option_map slot_of e.1)) (parented top f) d.0 d.1.0 in
        inr (x.0.0, (in_parented top f x.0 x.1.0, m.1.1 ∙ ap (λ (y : PartSlot). y.slot) d.1.1 ∙ ap (λ (y : Entry × Option ℕ). y.0.slot) x.1.1))
  ]

  -- ---- what a walk finds

  -- a slot of the part is one of the trees
  abbrev HasSlot : Forest Entry → Type 0
  HasSlot f = (e : Entry) × (In e (preorder f) × (part_at memory e.slot ≡ Some j))

  -- it is below a slot of the other part; or all trees stand below one that is kept
  abbrev Found : List ℕ → Option Entry → Forest Entry → Type 0
  Found kept top f = StandsBelow memory i j f ⊎ ((is_beneath kept (option_map slot_of top) ≡ true) × HasSlot f)

  -- none of the slots is kept before, and none is that of the entry above
  abbrev IsFresh : List ℕ → Option Entry → Forest Entry → Type 0
  IsFresh kept top f = (e : Entry) → In e (preorder f) → (is_in e.slot kept ≡ true → ⊥) × ((t : Entry) → top ≡ Some t → e.slot ≡ t.slot → ⊥)

  of_part : (o : Option ℕ) (k : ℕ) → is_part k o ≡ true → o ≡ Some k
  of_part None k h = absurd (false≢true h)
  of_part (Some n) k h = ap (λ m. Some m) (eqb-true n k h)

  -- the part that is found of one slot
  found_one : (b : Bool) (o : Option ℕ) → is_in j (cond b (part_or_none o) []) ≡ true → (b ≡ true) × (o ≡ Some j)
  found_one false o h = absurd (false≢true h)
  found_one true None h = absurd (false≢true h)
  found_one true (Some k) h = (
    refl,
    elim (either_true (j == k) false h) [
      | inl same ↦ ap (λ m. Some m) (sym (eqb-true j k same))
      | inr never ↦ absurd (false≢true never)
    ],
  )

  module _ (kept : List ℕ) (top : Option Entry) (a : Entry) (under others : Forest Entry) (d : AreDistinct (a ∷ (preorder under ++ preorder others)))
      (fresh : IsFresh kept top (tree a under others)) where
    abbrev next : List ℕ
    next = with_slot i kept (one memory i j a top)

    abbrev after : List ℕ
    after = slots_after memory i j next (standing memory i j (Some a) under)

    rest : AreDistinct (preorder under ++ preorder others)
    rest = distinct-tail a (preorder under ++ preorder others) d

    -- the entry itself
    at_top : is_in j (part_below kept (one memory i j a top)) ≡ true → Found kept top (tree a under others)
    at_top h = let m = found_one (is_beneath kept (option_map slot_of top)) (part_at memory a.slot) h in inr (m.0, (a, (inl refl, m.1)))

    fresh_under : IsFresh next (Some a) under
    fresh_under e there =
        let in_rest = in_left e (preorder under) (preorder others) there in (
          λ h. elim (kept_of_one e.slot kept (one memory i j a top) h) [
            | inl old ↦ (fresh e (inr in_rest)).0 old
            | inr same ↦ differ a (preorder under ++ preorder others) e d in_rest same
          ],
          λ t is same. differ a (preorder under ++ preorder others) e d in_rest (same ∙ (let equal : a ≡ t = cc in ap (λ (x : Entry). x.slot) (sym equal))),
        )

    fresh_others : IsFresh after top others
    fresh_others e there =
        let in_rest = in_right e (preorder under) (preorder others) there in (
          λ h. elim (kept_of_forest e.slot next (Some a) under h) [
            | inl old ↦ elim (kept_of_one e.slot kept (one memory i j a top) old) [
              | inl first ↦ (fresh e (inr in_rest)).0 first
              | inr same ↦ differ a (preorder under ++ preorder others) e d in_rest same
            ]
            | inr m ↦ differ_across (preorder under) (preorder others) m.0 e rest m.1.0 there m.1.1
          ],
          λ t is same. (fresh e (inr in_rest)).1 t is same,
        )

    -- what is found below the entry
    of_under : Found next (Some a) under → Found kept top (tree a under others)
    of_under (inl b) = inl (record { slot = b.slot; under = b.under; mine = b.mine; below = in_under b.slot a under others b.under b.below; theirs = b.theirs })
    of_under (inr (known, (e, (there, theirs)))) = elim (tells (is_part i (part_at memory a.slot))) [
      | inl mine ↦ inl (record {
        slot = a.slot;
        under = e;
        mine = of_part (part_at memory a.slot) i mine;
        below = subst (λ b. In e (preorder (cond b under (join (below_those (is_at a.slot) under) (below_those (is_at a.slot) others))))) (sym (eqb_self a.slot)) there;
        theirs = theirs;
      })
      | inr foreign ↦ elim (tells (is_beneath kept (option_map slot_of top))) [
        | inl beneath ↦ inr (beneath, (e, (inr (in_left e (preorder under) (preorder others) there), theirs)))
        | inr not ↦ absurd ((fresh a (inl refl)).0 (subst (λ b. is_in a.slot (cond b (a.slot ∷ kept) kept) ≡ true) (ap (λ b. b || is_part i (part_at memory a.slot)) not ∙ foreign) known))
      ]
    ]

    -- and in the other trees
    of_others : Found after top others → Found kept top (tree a under others)
    of_others (inl b) =
        let above = entry_above b.slot others b.under (in_contains (descendants (is_at b.slot) others) b.under b.below) in
        let there = contains_in (preorder others) above.0 above.1 in
        elim (tells (is_at b.slot a)) [
          | inl same ↦ absurd (differ a (preorder under ++ preorder others) above.0 d (in_right above.0 (preorder under) (preorder others) there) (above.2 ∙ sym (eqb-true a.slot b.slot same)))
          | inr other ↦ inl (record { slot = b.slot; under = b.under; mine = b.mine; below = in_others b.slot a under others b.under other b.below; theirs = b.theirs })
        ]
    of_others (inr (known, (e, (there, theirs)))) = inr (by top refl known, (e, (inr (in_right e (preorder under) (preorder others) there), theirs)))
      where
        by : (o : Option Entry) → top ≡ o → is_beneath after (option_map slot_of o) ≡ true → is_beneath kept (option_map slot_of o) ≡ true
        by None is h = h
        by (Some t) is h = elim (kept_of_forest t.slot next (Some a) under h) [
          | inl old ↦ elim (kept_of_one t.slot kept (one memory i j a top) old) [
            | inl first ↦ first
            | inr same ↦ absurd ((fresh a (inl refl)).1 t is (sym same))
          ]
          | inr m ↦ absurd ((fresh m.0 (inr (in_left m.0 (preorder under) (preorder others) m.1.0))).1 t is (sym m.1.1))
        ]

  finds : (f : Forest Entry) (kept : List ℕ) (top : Option Entry) → AreDistinct (preorder f) → IsFresh kept top f → is_in j (parts_below i kept (standing memory i j top f)) ≡ true → Found kept top f
  finds none kept top d fresh h = absurd (false≢true h)
  finds (tree a under others) kept top d fresh h =
      let left = preorder under in
      let right = preorder others in
      let first = part_below kept (one memory i j a top) in
      let second = parts_below i (next kept top a under others d fresh) (standing memory i j (Some a) under) in
      let third = parts_below i (after kept top a under others d fresh) (standing memory i j top others) in
      let all : is_in j (first ++ (second ++ third)) ≡ true = subst (λ (l : List ℕ). is_in j l ≡ true) (walked memory i j kept a top under others) h in
      elim (either_true (is_in j first) (is_in j (second ++ third)) (sym (list_any-append (λ n. j == n) first (second ++ third)) ∙ all)) [
        | inl here ↦ at_top kept top a under others d fresh here
        | inr more ↦ elim (either_true (is_in j second) (is_in j third) (sym (list_any-append (λ n. j == n) second third) ∙ more)) [
          | inl here ↦ of_under kept top a under others d fresh
              (finds under (next kept top a under others d fresh) (Some a) (distinct-left left right (rest kept top a under others d fresh)) (fresh_under kept top a under others d fresh) here)
          | inr here ↦ of_others kept top a under others d fresh
              (finds others (after kept top a under others d fresh) top (distinct-right left right (rest kept top a under others d fresh)) (fresh_others kept top a under others d fresh) here)
        ]
      ]

  pub taken_stands : (f : Forest Entry) → AreDistinct (preorder f) → is_in j (taken_by (part_slots memory f) i) ≡ true → StandsBelow memory i j f
  taken_stands f d taken =
      let all = parts_below i [] (part_slots memory f) in
      let both = both_true (not (j == i)) (is_in j (rising all)) (sym (in_filter (λ k. not (k == i)) j (rising all)) ∙ taken) in
      let found : is_in j all ≡ true = sym (any_rising (λ n. j == n) all) ∙ both.1 in
      elim (finds f [] None d (λ e there. (λ h. false≢true h, λ t is same. by t is)) found) [
        | inl below ↦ below
        | inr never ↦ absurd (false≢true never.0)
      ]
    where
      by : (t : Entry) → None ≡ Some t → ⊥
      by t h = cc
