-- What stands below a slot stands together in the list of a forest's derivations, right behind the slot.
use Rattle.std.proofs.Common.{◌≡◌, ◌⊎◌, inl, inr, ℕ, ◌+◌, ◌<◌, ◌≤◌, Bool, true, false, cond, ◌==◌, ◌||◌, List, [], ◌∷◌, ◌++◌, length, map, drop, get_or, Option, Some, None, option_map, refl, sym, ap, ◌∙◌, subst, arith, append_assoc, append-nil}
use Rattle.std.specs.List.{list_any}
use Rattle.std.proofs.lemmas.List.{map-append}
use Rattle.std.proofs.lemmas.List.Folds.{list_any-append}
use Rattle.kernel_forest.specs.Forest.{Forest, none, tree, preorder, parented, join, below_those}
use Rattle.kernel_forest.specs.Entries.{Entry, is_at, slot_of}
use Rattle.kernel_delete.specs.Members.{In, OneAtMost, AreApart}
use Rattle.kernel_delete.proofs.Members.{any_in, any_of, in_append, in_left, in_right, tells, eqb_self}
use Rattle.kernel_delete.proofs.Without.{one-left, one-right}
use Rattle.query_revoke.specs.Runs.{EntryBelow, part, is_below_one_of, run, run_behind}
use Rattle.query_revoke.proofs.Parts.{part_more, part_none, drop_more, drop_past}

-- ---- as the code finds it, one more

pub run_begins : (start : ℕ) (list : List EntryBelow) → run_behind start list ≡ part (start + 1) (start + 1) list ++ run (part start (start + 1) list) (drop (start + 1) list)
run_begins start list = ap (λ (l : List EntryBelow). l ++ run (part start (start + 1) list) (drop (start + 1) list)) (sym (part_none list (start + 1)))

run_taken : (above : List EntryBelow) (d : EntryBelow) (rest : List EntryBelow) → is_below_one_of above d ≡ true → run above (d ∷ rest) ≡ d ∷ run (above ++ d ∷ []) rest
run_taken above d rest h = ap (λ (b : Bool). cond b (d ∷ run (above ++ d ∷ []) rest) []) h

run_left : (above : List EntryBelow) (d : EntryBelow) (rest : List EntryBelow) → is_below_one_of above d ≡ false → run above (d ∷ rest) ≡ []
run_left above d rest h = ap (λ (b : Bool). cond b (d ∷ run (above ++ d ∷ []) rest) []) h

pub run_goes_on : (start end : ℕ) (list : List EntryBelow) (d : EntryBelow) → start < end → end < length list → is_below_one_of (part start end list) (get_or list end d) ≡ true →
    run_behind start list ≡ part (start + 1) end list ++ run (part start end list) (drop end list) →
    run_behind start list ≡ part (start + 1) (end + 1) list ++ run (part start (end + 1) list) (drop (end + 1) list)
run_goes_on start end list d less within stands is =
    let x : EntryBelow = get_or list end d in
    let rest : List EntryBelow = drop (end + 1) list in
    is
    ∙ ap (λ (l : List EntryBelow). part (start + 1) end list ++ run (part start end list) l) (drop_more list end (end + 1) d refl within)
    ∙ ap (λ (l : List EntryBelow). part (start + 1) end list ++ l) (run_taken (part start end list) x rest stands)
    ∙ sym (append_assoc (part (start + 1) end list) (x ∷ []) (run (part start end list ++ x ∷ []) rest))
    ∙ (λ i. (sym (part_more list (start + 1) end d (omega arith) within)) i ++ run ((sym (part_more list start end d (omega arith) within)) i) rest)

pub run_ends : (start end : ℕ) (list : List EntryBelow) (d : EntryBelow) → end < length list → is_below_one_of (part start end list) (get_or list end d) ≡ false →
    run_behind start list ≡ part (start + 1) end list ++ run (part start end list) (drop end list) → part (start + 1) end list ≡ run_behind start list
run_ends start end list d within stands is =
    sym (is
    ∙ ap (λ (l : List EntryBelow). part (start + 1) end list ++ run (part start end list) l) (drop_more list end (end + 1) d refl within)
    ∙ ap (λ (l : List EntryBelow). part (start + 1) end list ++ l) (run_left (part start end list) (get_or list end d) (drop (end + 1) list) stands)
    ∙ append-nil (part (start + 1) end list))

pub run_all : (start end : ℕ) (list : List EntryBelow) → length list ≤ end →
    run_behind start list ≡ part (start + 1) end list ++ run (part start end list) (drop end list) → part (start + 1) end list ≡ run_behind start list
run_all start end list past is =
    sym (is
    ∙ ap (λ (l : List EntryBelow). part (start + 1) end list ++ run (part start end list) l) (drop_past list end past)
    ∙ append-nil (part (start + 1) end list))

-- ---- in a forest

abbrev pub told : Entry × Option Entry → EntryBelow
told x = (x.0, option_map slot_of x.1)

any_last : (f : EntryBelow → Bool) (xs : List EntryBelow) (x : EntryBelow) → f x ≡ true → list_any f (xs ++ x ∷ []) ≡ true
any_last f [] x h = ap (λ (b : Bool). b || false) h
any_last f (y ∷ xs) x h = or_true (f y) (list_any f (xs ++ x ∷ [])) (any_last f xs x h)
  where
    or_true : (a b : Bool) → b ≡ true → (a || b) ≡ true
    or_true true b h = refl
    or_true false b h = h

any_more : (f : EntryBelow → Bool) (xs ys : List EntryBelow) → list_any f xs ≡ true → list_any f (xs ++ ys) ≡ true
any_more f xs ys h = list_any-append f xs ys ∙ ap (λ (b : Bool). b || list_any f ys) h

-- what stands below one of those above is taken
run_below : (above : List EntryBelow) (b : Entry) (g : Forest Entry) (rest : List EntryBelow) → list_any (λ (x : EntryBelow). x.0.slot == b.slot) above ≡ true →
    run above (map told (parented (Some b) g) ++ rest) ≡ map told (parented (Some b) g) ++ run (above ++ map told (parented (Some b) g)) rest
run_below above b none rest h = ap (λ (l : List EntryBelow). run l rest) (sym (append-nil above))
run_below above b (tree c k r) rest h =
    let x : EntryBelow = (c, Some b.slot) in
    let K : List EntryBelow = map told (parented (Some c) k) in
    let R : List EntryBelow = map told (parented (Some b) r) in
    let split : map told (parented (Some c) k ++ parented (Some b) r) ≡ K ++ R = map-append told (parented (Some c) k) (parented (Some b) r) in
    let first : list_any (λ (y : EntryBelow). y.0.slot == c.slot) (above ++ x ∷ []) ≡ true = any_last (λ (y : EntryBelow). y.0.slot == c.slot) above x (eqb_self c.slot) in
    let second : list_any (λ (y : EntryBelow). y.0.slot == b.slot) ((above ++ x ∷ []) ++ K) ≡ true =
    any_more (λ (y : EntryBelow). y.0.slot == b.slot) (above ++ x ∷ []) K (any_more (λ (y : EntryBelow). y.0.slot == b.slot) above (x ∷ []) h) in
    let seen : ((above ++ x ∷ []) ++ K) ++ R ≡ above ++ (x ∷ (K ++ R)) = append_assoc (above ++ x ∷ []) K R ∙ append_assoc above (x ∷ []) (K ++ R) in
    let all : run (above ++ x ∷ []) ((K ++ R) ++ rest) ≡ (K ++ R) ++ run (above ++ (x ∷ (K ++ R))) rest =
    ap (run (above ++ x ∷ [])) (append_assoc K R rest)
    ∙ run_below (above ++ x ∷ []) c k (R ++ rest) first
    ∙ ap (λ (l : List EntryBelow). K ++ l) (run_below ((above ++ x ∷ []) ++ K) b r rest second)
    ∙ sym (append_assoc K R (run (((above ++ x ∷ []) ++ K) ++ R) rest))
    ∙ ap (λ (l : List EntryBelow). (K ++ R) ++ run l rest) seen in
    run_taken above x (map told (parented (Some c) k ++ parented (Some b) r) ++ rest) h
    ∙ ap (λ (l : List EntryBelow). x ∷ run (above ++ x ∷ []) (l ++ rest)) split
    ∙ ap (λ (l : List EntryBelow). x ∷ l) all
    ∙ (λ i. (x ∷ (sym split) i) ++ run (above ++ (x ∷ (sym split) i)) rest)

-- ---- where an entry stands

-- each stands below what the forest stands below, or below one of its own
owned : (above : Option Entry) (f : Forest Entry) (x : Entry × Option Entry) → In x (parented above f) → (x.1 ≡ above) ⊎ ((c : Entry) × ((x.1 ≡ Some c) × In c (preorder f)))
owned above none x h = absurd h
owned above (tree a k r) x (inl e) = inl (ap (λ (y : Entry × Option Entry). y.1) e)
owned above (tree a k r) x (inr h) = elim (in_append x (parented (Some a) k) (parented above r) h) [
  | inl i ↦ elim (owned (Some a) k x i) [
    | inl e ↦ inr (a, (e, inl refl))
    | inr w ↦ inr (w.0, (w.1.0, inr (in_left w.0 (preorder k) (preorder r) w.1.1)))
  ]
  | inr i ↦ elim (owned above r x i) [
    | inl e ↦ inl e
    | inr w ↦ inr (w.0, (w.1.0, inr (in_right w.0 (preorder k) (preorder r) w.1.1)))
  ]
]

-- what stands once does not stand in both parts
once_left : (p : Entry → Bool) (k r : List Entry) (c : Entry) → OneAtMost p (k ++ r) → In c r → p c ≡ true → list_any p k ≡ false
once_left p [] r c o i h = refl
once_left p (a ∷ k) r c o i h = elim (tells (p a)) [
  | inl t ↦ absurd (let z : true ≡ false = sym (any_in p (k ++ r) c (in_right c k r i) h) ∙ o.0 t in cc)
  | inr e ↦ ap (λ (b : Bool). b || list_any p k) e ∙ once_left p k r c o.1 i h
]

once_right : (p : Entry → Bool) (k r : List Entry) (c : Entry) → OneAtMost p (k ++ r) → In c k → p c ≡ true → list_any p r ≡ false
once_right p k r c o i h = elim (tells (list_any p r)) [
  | inr e ↦ e
  | inl t ↦ absurd (let w = any_of p r t in let z : true ≡ false = sym (any_in p k c i h) ∙ once_left p k r w.0 o w.1.0 w.1.1 in cc)
]

none_of : (p : Entry → Bool) (k l : List Entry) → ((y : Entry) → In y l → In y k) → list_any p k ≡ false → list_any p l ≡ false
none_of p k l within h = elim (tells (list_any p l)) [
  | inr e ↦ e
  | inl t ↦ absurd (let w = any_of p l t in let z : true ≡ false = sym (any_in p k w.0 (within w.0 w.1.0) w.1.1) ∙ h in cc)
]

join_none : {A : Type 0} (f : Forest A) → join f none ≡ f
join_none none = refl
join_none (tree a k r) = ap (tree a k) (join_none r)

none_below : (n : ℕ) (f : Forest Entry) → list_any (is_at n) (preorder f) ≡ false → below_those (is_at n) f ≡ none
none_below n none h = refl
none_below n (tree a k r) h = parts (is_at n a) (list_any (is_at n) (preorder k)) (list_any (is_at n) (preorder r)) refl refl refl
    (ap (λ (b : Bool). is_at n a || b) (sym (list_any-append (is_at n) (preorder k) (preorder r))) ∙ h) (none_below n k) (none_below n r)
  where
    parts : (x y z : Bool) → is_at n a ≡ x → list_any (is_at n) (preorder k) ≡ y → list_any (is_at n) (preorder r) ≡ z →
        (is_at n a || (list_any (is_at n) (preorder k) || list_any (is_at n) (preorder r))) ≡ false →
        (list_any (is_at n) (preorder k) ≡ false → below_those (is_at n) k ≡ none) → (list_any (is_at n) (preorder r) ≡ false → below_those (is_at n) r ≡ none) →
        below_those (is_at n) (tree a k r) ≡ none
    parts true y z ex ey ez e hk hr = absurd (let w : (true || (list_any (is_at n) (preorder k) || list_any (is_at n) (preorder r))) ≡ false = rw ex at e in cc)
    parts false true z ex ey ez e hk hr = absurd (let w : (false || (true || list_any (is_at n) (preorder r))) ≡ false = rw (ex, ey) at e in cc)
    parts false false true ex ey ez e hk hr = absurd (let w : (false || (false || true)) ≡ false = rw (ex, ey, ez) at e in cc)
    parts false false false ex ey ez e hk hr =
        ap (λ (b : Bool). cond b k (join (below_those (is_at n) k) (below_those (is_at n) r))) ex
        ∙ (λ i. join (hk ey i) (hr ez i))

-- in front of an entry, below it, and behind that
pub record Split (a : Entry) (above : Option Entry) (f : Forest Entry) : Type 0 where
  pub front : List (Entry × Option Entry)
  pub over : Option Entry
  pub under : Forest Entry
  pub back : List (Entry × Option Entry)
  pub is : parented above f ≡ front ++ ((a, over) ∷ (parented (Some a) under ++ back))
  pub below : below_those (is_at a.slot) f ≡ under
  pub inside : (y : Entry) → In y (a ∷ preorder under) → In y (preorder f)
  pub rest : (x : Entry × Option Entry) → In x back →
      (x.1 ≡ above) ⊎ ((c : Entry) × ((x.1 ≡ Some c) × (In c (preorder f) × (list_any (is_at c.slot) (a ∷ preorder under) ≡ false))))

apart_left : (k r : List Entry) → AreApart (k ++ r) → AreApart k
apart_left k r apart n = one-left (is_at n) k r (apart n)

apart_right : (k r : List Entry) → AreApart (k ++ r) → AreApart r
apart_right k r apart n = one-right (is_at n) k r (apart n)

split_here : (a : Entry) (above : Option Entry) (k r : Forest Entry) → AreApart (preorder (tree a k r)) → Split a above (tree a k r)
split_here a above k r apart = record {
  front = [];
  over = above;
  under = k;
  back = parented above r;
  is = refl;
  below = ap (λ (b : Bool). cond b k (join (below_those (is_at a.slot) k) (below_those (is_at a.slot) r))) (eqb_self a.slot);
  inside = λ y i. elim i [ inl e ↦ inl e | inr j ↦ inr (in_left y (preorder k) (preorder r) j) ];
  rest = λ x i. elim (owned above r x i) [
    | inl e ↦ inl e
    | inr w ↦ inr (w.0, (w.1.0, (inr (in_right w.0 (preorder k) (preorder r) w.1.1), once_left (is_at w.0.slot) (a ∷ preorder k) (preorder r) w.0 (apart w.0.slot) w.1.1 (eqb_self w.0.slot))))
  ];
}

-- the first of a forest is no other
not_first : (a b : Entry) (l : List Entry) → OneAtMost (is_at a.slot) (b ∷ l) → In a l → is_at a.slot b ≡ false
not_first a b l o i = elim (tells (is_at a.slot b)) [
  | inr e ↦ e
  | inl t ↦ absurd (let z : true ≡ false = sym (any_in (is_at a.slot) l a i (eqb_self a.slot)) ∙ o.0 t in cc)
]

split_left : (a b : Entry) (above : Option Entry) (k r : Forest Entry) → AreApart (preorder (tree b k r)) → In a (preorder k) → Split a (Some b) k → Split a above (tree b k r)
split_left a b above k r apart i s =
    let tail : AreApart (preorder k ++ preorder r) = λ n. (apart n).1 in
    let other : is_at a.slot b ≡ false = not_first a b (preorder k ++ preorder r) (apart a.slot) (in_left a (preorder k) (preorder r) i) in
    let nothing : below_those (is_at a.slot) r ≡ none = none_below a.slot r (once_right (is_at a.slot) (preorder k) (preorder r) a (tail a.slot) i (eqb_self a.slot)) in
    record {
      front = (b, above) ∷ s.front;
      over = s.over;
      under = s.under;
      back = s.back ++ parented above r;
      is = ap (λ (l : List (Entry × Option Entry)). (b, above) ∷ l)
          (ap (λ (l : List (Entry × Option Entry)). l ++ parented above r) s.is
          ∙ append_assoc s.front ((a, s.over) ∷ (parented (Some a) s.under ++ s.back)) (parented above r)
          ∙ ap (λ (l : List (Entry × Option Entry)). s.front ++ ((a, s.over) ∷ l)) (append_assoc (parented (Some a) s.under) s.back (parented above r)));
      below = ap (λ (c : Bool). cond c k (join (below_those (is_at a.slot) k) (below_those (is_at a.slot) r))) other
          ∙ (λ j. join (s.below j) (nothing j)) ∙ join_none s.under;
      inside = λ y j. inr (in_left y (preorder k) (preorder r) (s.inside y j));
      rest = λ x j. elim (in_append x s.back (parented above r) j) [
        | inl j' ↦ elim (s.rest x j') [
          | inl e ↦ inr (b, (e, (inl refl, none_of (is_at b.slot) (preorder k ++ preorder r) (a ∷ preorder s.under) (λ y h. in_left y (preorder k) (preorder r) (s.inside y h)) ((apart b.slot).0 (eqb_self b.slot)))))
          | inr w ↦ inr (w.0, (w.1.0, (inr (in_left w.0 (preorder k) (preorder r) w.1.1.0), w.1.1.1)))
        ]
        | inr j' ↦ elim (owned above r x j') [
          | inl e ↦ inl e
          | inr w ↦ inr (
            w.0,
            (
              w.1.0,
              (
                inr (in_right w.0 (preorder k) (preorder r) w.1.1),
                none_of (is_at w.0.slot) (preorder k) (a ∷ preorder s.under) s.inside (once_left (is_at w.0.slot) (preorder k) (preorder r) w.0 (tail w.0.slot) w.1.1 (eqb_self w.0.slot)),
              ),
            ),
          )
        ]
      ];
    }

split_right : (a b : Entry) (above : Option Entry) (k r : Forest Entry) → AreApart (preorder (tree b k r)) → In a (preorder r) → Split a above r → Split a above (tree b k r)
split_right a b above k r apart i s =
    let tail : AreApart (preorder k ++ preorder r) = λ n. (apart n).1 in
    let other : is_at a.slot b ≡ false = not_first a b (preorder k ++ preorder r) (apart a.slot) (in_right a (preorder k) (preorder r) i) in
    let nothing : below_those (is_at a.slot) k ≡ none = none_below a.slot k (once_left (is_at a.slot) (preorder k) (preorder r) a (tail a.slot) i (eqb_self a.slot)) in
    record {
      front = (b, above) ∷ (parented (Some b) k ++ s.front);
      over = s.over;
      under = s.under;
      back = s.back;
      is = ap (λ (l : List (Entry × Option Entry)). (b, above) ∷ l)
          (ap (λ (l : List (Entry × Option Entry)). parented (Some b) k ++ l) s.is
          ∙ sym (append_assoc (parented (Some b) k) s.front ((a, s.over) ∷ (parented (Some a) s.under ++ s.back))));
      below = ap (λ (c : Bool). cond c k (join (below_those (is_at a.slot) k) (below_those (is_at a.slot) r))) other
          ∙ (λ j. join (nothing j) (s.below j));
      inside = λ y j. inr (in_right y (preorder k) (preorder r) (s.inside y j));
      rest = λ x j. elim (s.rest x j) [
        | inl e ↦ inl e
        | inr w ↦ inr (w.0, (w.1.0, (inr (in_right w.0 (preorder k) (preorder r) w.1.1.0), w.1.1.1)))
      ];
    }

pub split : (a : Entry) (above : Option Entry) (f : Forest Entry) → AreApart (preorder f) → In a (preorder f) → Split a above f
split a above none apart i = absurd i
split a above (tree b k r) apart (inl e) = let P : Entry → Type 0 = λ c. Split c above (tree b k r) in subst P (sym e) (split_here b above k r apart)
split a above (tree b k r) apart (inr i) = elim (in_append a (preorder k) (preorder r) i) [
  | inl j ↦ split_left a b above k r apart j (split a (Some b) k (apart_left (preorder k) (preorder r) (λ n. (apart n).1)) j)
  | inr j ↦ split_right a b above k r apart j (split a above r (apart_right (preorder k) (preorder r) (λ n. (apart n).1)) j)
]

-- ---- so the run behind an entry is what stands below it

any_told : (n : ℕ) (above : Option Entry) (f : Forest Entry) → list_any (λ (x : EntryBelow). x.0.slot == n) (map told (parented above f)) ≡ list_any (is_at n) (preorder f)
any_told n above none = refl
any_told n above (tree a k r) =
    ap (λ (b : Bool). (a.slot == n) || b)
    (ap (list_any (λ (x : EntryBelow). x.0.slot == n)) (map-append told (parented (Some a) k) (parented above r))
    ∙ list_any-append (λ (x : EntryBelow). x.0.slot == n) (map told (parented (Some a) k)) (map told (parented above r))
    ∙ (λ i. any_told n (Some a) k i || any_told n above r i)
    ∙ sym (list_any-append (is_at n) (preorder k) (preorder r)))

stops : (above back : List EntryBelow) → ((x : EntryBelow) (rest : List EntryBelow) → back ≡ x ∷ rest → is_below_one_of above x ≡ false) → run above back ≡ []
stops above [] h = refl
stops above (x ∷ back) h = run_left above x back (h x back refl)

pub run_of : (a : Entry) (f : Forest Entry) (s : Split a None f) → run (told (a, s.over) ∷ []) (map told (parented (Some a) s.under) ++ map told s.back) ≡ map told (parented (Some a) s.under)
run_of a f s =
    let one : list_any (λ (x : EntryBelow). x.0.slot == a.slot) (told (a, s.over) ∷ []) ≡ true = ap (λ (b : Bool). b || false) (eqb_self a.slot) in
    let B : List EntryBelow = map told (parented (Some a) s.under) in
    run_below (told (a, s.over) ∷ []) a s.under (map told s.back) one
    ∙ ap (λ (l : List EntryBelow). B ++ l) (stops (told (a, s.over) ∷ B) (map told s.back) (λ x rest e. ended s.back s.rest x rest e))
    ∙ append-nil B
  where
    by_parent : (c : Entry × Option Entry) → ((c.1 ≡ None) ⊎ ((d : Entry) × ((c.1 ≡ Some d) × (In d (preorder f) × (list_any (is_at d.slot) (a ∷ preorder s.under) ≡ false))))) →
        is_below_one_of (told (a, s.over) ∷ map told (parented (Some a) s.under)) (told c) ≡ false
    by_parent (e, o) (inl top) = ap (λ (p : Option Entry). is_below_one_of (told (a, s.over) ∷ map told (parented (Some a) s.under)) (e, option_map slot_of p)) top
    by_parent (e, o) (inr w) =
        ap (λ (p : Option Entry). is_below_one_of (told (a, s.over) ∷ map told (parented (Some a) s.under)) (e, option_map slot_of p)) w.1.0
        ∙ ap (λ (b : Bool). (a.slot == w.0.slot) || b) (any_told w.0.slot (Some a) s.under) ∙ w.1.1.1

    ended : (back : List (Entry × Option Entry)) →
        ((x : Entry × Option Entry) → In x back → (x.1 ≡ None) ⊎ ((c : Entry) × ((x.1 ≡ Some c) × (In c (preorder f) × (list_any (is_at c.slot) (a ∷ preorder s.under) ≡ false))))) →
        (x : EntryBelow) (rest : List EntryBelow) → map told back ≡ x ∷ rest → is_below_one_of (told (a, s.over) ∷ map told (parented (Some a) s.under)) x ≡ false
    ended [] own x rest e = cc
    ended (c ∷ back) own x rest e =
        let same : told c ≡ x = cc in
        ap (is_below_one_of (told (a, s.over) ∷ map told (parented (Some a) s.under))) (sym same) ∙ by_parent c (own c (inl refl))
