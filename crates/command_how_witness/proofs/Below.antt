-- Which slots are listed as those that stand below the slots of a part.
use Rattle.std.proofs.Common.{◌≡◌, ℕ, ◌+◌, ◌<◌, inl, inr, ◌⊎◌, Bool, true, false, not, cond, ◌==◌, ◌||◌, List, [], ◌∷◌, ◌++◌, length, take, get_or, map, Option, Some, None, refl, sym, ap, subst, ◌∙◌, append_assoc}
use Rattle.std.proofs.lemmas.List.{map-append, append-nil, take_more}
use Rattle.std.proofs.lemmas.List.Folds.{list_any-append}
use Rattle.std.proofs.lemmas.List.Elements.{Contains-append_left, Contains-append_right}
use Rattle.std.specs.Prelude.{option_map}
use Rattle.std.specs.List.{list_any, AllByRecursion as Each, Contains}
use Rattle.std.proofs.lemmas.Bool.{false≢true, eqb-true, eq-eqb}
use Rattle.kernel_forest.specs.Forest.{Forest, none, tree, preorder, below_those, descendants, parented, join}
use Rattle.kernel_forest.specs.Entries.{Entry, is_at, slot_of, derivations_of}
use Rattle.kernel_forest.proofs.Trees.Forests.{preorder-join, each-append, each-left_part, each-right_part, each-weaker, each-contained, each-from_contained, each-join}
use Rattle.kernel_forest.proofs.Slots.DistinctEntries.{AreDistinct, distinct-head, distinct-tail, distinct-left, distinct-right}
use Rattle.kernel_core.proofs.Endings.EndedObjects.{eqb_swap}
use Rattle.kernel_delete.proofs.Members.{either_true, true_left, true_right, any_in, any_of, eqb_self}
use Rattle.kernel_delete.proofs.Clearable.{in_contains}
use Rattle.slot_core.specs.declared.derivations.Derivation.{Derivation}
use Rattle.query_parts.specs.declared.listed.PartMemory.{PartMemory}
use Rattle.query_parts.specs.declared.listed.PartUse.{PartUse}
use Rattle.query_parts.specs.Listed.{part_at, parts_listed}
use Rattle.query_parts.specs.Below.{StandsNoneBelow}
use Rattle.setup_report.specs.State.{is_in}
use Rattle.command_parts.specs.Text.{is_part}
use Rattle.command_how_witness.specs.Excluded.{StandsOneBelow}
use Rattle.command_how_witness.specs.Private.{is_parent_above, slots_listed, is_slot_within}

-- ---- lists

both_of : {A : Type 0} (P Q : A → Type 0) (l : List A) → Each P l → Each Q l → Each (λ a. P a × Q a) l
both_of P Q [] h k = tt
both_of P Q (a ∷ l) h k = ((h.0, k.0), both_of P Q l h.1 k.1)

-- a number is none of the slots of these entries
abbrev IsNone : List Entry → ℕ → Type 0
IsNone l n = Each (λ (e : Entry). (n == e.slot) ≡ false) l

apart : (xs ys : List Entry) → AreDistinct (xs ++ ys) → Each (λ (e : Entry). IsNone xs e.slot) ys
apart [] ys d = each-from_contained (λ (e : Entry). Unit {0}) ys (λ e h. tt)
apart (x ∷ xs) ys d =
    both_of (λ (e : Entry). (e.slot == x.slot) ≡ false) (λ (e : Entry). IsNone xs e.slot) ys
    (each-weaker (λ (e : Entry). (x.slot == e.slot) ≡ false) (λ (e : Entry). (e.slot == x.slot) ≡ false) (λ e h. eqb_swap e.slot x.slot ∙ h) ys
    (each-right_part (λ (e : Entry). (x.slot == e.slot) ≡ false) xs ys (distinct-head x (xs ++ ys) d)))
    (apart xs ys (distinct-tail x (xs ++ ys) d))

neither : (b c : Bool) → b ≡ false → c ≡ false → (b || c) ≡ false
neither b c h k = ap (λ a. a || c) h ∙ k

out_of_both : (n : ℕ) (xs ys : List ℕ) → is_in n xs ≡ false → is_in n ys ≡ false → is_in n (xs ++ ys) ≡ false
out_of_both n xs ys h k = list_any-append (λ a. n == a) xs ys ∙ neither (is_in n xs) (is_in n ys) h k

in_first : (n : ℕ) (xs ys : List ℕ) → is_in n xs ≡ true → is_in n (xs ++ ys) ≡ true
in_first n xs ys h = list_any-append (λ a. n == a) xs ys ∙ true_left (is_in n xs) (is_in n ys) h

in_second : (n : ℕ) (xs ys : List ℕ) → is_in n ys ≡ true → is_in n (xs ++ ys) ≡ true
in_second n xs ys h = list_any-append (λ a. n == a) xs ys ∙ true_right (is_in n xs) (is_in n ys) h

-- the slot of an entry, where a test passes
abbrev where_so : Bool → ℕ → List ℕ
where_so h n = cond h (n ∷ []) []

out_of_one : (m n : ℕ) (h : Bool) → (m == n) ≡ false → is_in m (where_so h n) ≡ false
out_of_one m n true k = neither (m == n) false k refl
out_of_one m n false k = refl

in_one : (n : ℕ) (h : Bool) → is_in n (where_so h n) ≡ h
in_one n true = true_left (n == n) false (eqb_self n)
in_one n false = refl

or_swap : (b c : Bool) → (b || c) ≡ (c || b)
or_swap true true = refl
or_swap true false = refl
or_swap false true = refl
or_swap false false = refl

put : (h : Bool) (below : List ℕ) (n : ℕ) → cond h (below ++ n ∷ []) below ≡ below ++ where_so h n
put true below n = refl
put false below n = sym (append-nil below)

pub part_is : (o : Option ℕ) (i : ℕ) → o ≡ Some i → is_part i o ≡ true
part_is o i h = ap (is_part i) h ∙ eq-eqb i i refl

pub is_the_part : (o : Option ℕ) (i : ℕ) → is_part i o ≡ true → o ≡ Some i
is_the_part None i h = absurd (false≢true h)
is_the_part (Some j) i h = ap Some (eqb-true j i h)

module _ (memory : List PartMemory) (part : ℕ) where
  abbrev own : ℕ → Bool
  own slot = is_part part (part_at memory slot)

  abbrev told : Entry × Option Entry → Entry × Option ℕ
  told e = (e.0, option_map slot_of e.1)

  abbrev seen : Option Entry → Forest Entry → List (Entry × Option ℕ)
  seen above f = map told (parented above f)

  -- the slots below those of the part, in order; all of them where the trees stand below one
  abbrev under_part : Bool → Forest Entry → List ℕ
  under_part h none = []
  under_part h (tree a k r) = where_so h a.slot ++ (under_part (h || own a.slot) k ++ under_part h r)

  out_of_all : (n : ℕ) (h : Bool) (f : Forest Entry) → IsNone (preorder f) n → is_in n (under_part h f) ≡ false
  out_of_all n h none out = refl
  out_of_all n h (tree a k r) out =
      out_of_both n (where_so h a.slot) (under_part (h || own a.slot) k ++ under_part h r) (out_of_one n a.slot h out.0)
      (out_of_both n (under_part (h || own a.slot) k) (under_part h r)
      (out_of_all n (h || own a.slot) k (each-left_part (λ (e : Entry). (n == e.slot) ≡ false) (preorder k) (preorder r) out.1))
      (out_of_all n h r (each-right_part (λ (e : Entry). (n == e.slot) ≡ false) (preorder k) (preorder r) out.1)))

  -- ---- the list that is made

  listed_append : (below : List ℕ) (xs ys : List (Entry × Option ℕ)) → slots_listed memory part below (xs ++ ys) ≡ slots_listed memory part (slots_listed memory part below xs) ys
  listed_append below [] ys = refl
  listed_append below (x ∷ xs) ys = listed_append (cond (is_parent_above memory part below x.1) (below ++ x.0.slot ∷ []) below) xs ys

  -- one derivation more
  next_listed : (w : Derivation → Entry × Option ℕ) (ds : List Derivation) (i : ℕ) (d : Derivation) (below : List ℕ) → i < length ds →
      below ≡ slots_listed memory part [] (map w (take i ds)) →
      cond (is_parent_above memory part below (w (get_or ds i d)).1) (below ++ (w (get_or ds i d)).0.slot ∷ []) below ≡ slots_listed memory part [] (map w (take (i + 1) ds))
  next_listed w ds i d below low is =
      let x : Entry × Option ℕ = w (get_or ds i d) in
      ap (λ b. cond (is_parent_above memory part b x.1) (b ++ x.0.slot ∷ []) b) is
      ∙ sym (listed_append [] (map w (take i ds)) (x ∷ []))
      ∙ ap (slots_listed memory part []) (sym (map-append w (take i ds) (get_or ds i d ∷ [])))
      ∙ ap (λ l. slots_listed memory part [] (map w l)) (sym (take_more ds i d low))

  module _ (w : Derivation → Entry × Option ℕ) (ds : List Derivation) (i : ℕ) (d : Derivation) (below after : List ℕ) (low : i < length ds)
      (is : below ≡ slots_listed memory part [] (map w (take i ds))) (at : d ≡ get_or ds i d) where
    chosen : (b : Bool) → is_parent_above memory part below (w d).1 ≡ b →
        cond b (below ++ (w d).0.slot ∷ []) below ≡ slots_listed memory part [] (map w (take (i + 1) ds))
    chosen b above =
        sym (ap (λ y. cond (is_parent_above memory part below (w y).1) (below ++ (w y).0.slot ∷ []) below) (sym at)
        ∙ ap (λ t. cond t (below ++ (w d).0.slot ∷ []) below) above)
        ∙ next_listed w ds i d below low is

    pub put_listed : is_parent_above memory part below (w d).1 ≡ true → after ≡ below ++ (w d).0.slot ∷ [] → after ≡ slots_listed memory part [] (map w (take (i + 1) ds))
    put_listed above put_in = put_in ∙ chosen true above

    pub kept_listed : is_parent_above memory part below (w d).1 ≡ false → after ≡ below → after ≡ slots_listed memory part [] (map w (take (i + 1) ds))
    kept_listed above same = same ∙ chosen false above

  -- what the trees stand below is none of them
  abbrev IsOutOf : Option Entry → Forest Entry → Type 0
  IsOutOf None f = Unit {0}
  IsOutOf (Some a) f = IsNone (preorder f) a.slot

  abbrev IsNew : List ℕ → Forest Entry → Type 0
  IsNew below f = Each (λ (e : Entry). is_in e.slot below ≡ false) (preorder f)

  abbrev is_marked : List ℕ → Option Entry → Bool
  is_marked below above = is_parent_above memory part below (option_map slot_of above)

  -- more of the list does not change what is said of a slot that is none of it
  same_above : (below more : List ℕ) (a : Entry) → is_in a.slot more ≡ false → is_in a.slot (below ++ more) ≡ is_in a.slot below
  same_above below more a h =
      list_any-append (λ n. a.slot == n) below more ∙ ap (λ b. is_in a.slot below || b) h ∙ or_swap (is_in a.slot below) false

  same_mark : (below : List ℕ) (above : Option Entry) (b : Entry) (k r : Forest Entry) (h c : Bool) → IsOutOf above (tree b k r) →
      is_marked ((below ++ where_so h b.slot) ++ under_part c k) above ≡ is_marked below above
  same_mark below None b k r h c out = refl
  same_mark below (Some a) b k r h c out =
      ap (λ t. own a.slot || t)
      (same_above (below ++ where_so h b.slot) (under_part c k) a
      (out_of_all a.slot c k (each-left_part (λ (e : Entry). (a.slot == e.slot) ≡ false) (preorder k) (preorder r) out.1))
      ∙ same_above below (where_so h b.slot) a (out_of_one a.slot b.slot h out.0))

  out_right : (above : Option Entry) (b : Entry) (k r : Forest Entry) → IsOutOf above (tree b k r) → IsOutOf above r
  out_right None b k r out = tt
  out_right (Some a) b k r out = each-right_part (λ (e : Entry). (a.slot == e.slot) ≡ false) (preorder k) (preorder r) out.1

  still_new : (below more : List ℕ) (l : List Entry) → Each (λ (e : Entry). is_in e.slot below ≡ false) l → Each (λ (e : Entry). is_in e.slot more ≡ false) l →
      Each (λ (e : Entry). is_in e.slot (below ++ more) ≡ false) l
  still_new below more l h k =
      each-weaker (λ (e : Entry). (is_in e.slot below ≡ false) × (is_in e.slot more ≡ false)) (λ (e : Entry). is_in e.slot (below ++ more) ≡ false)
      (λ e both. out_of_both e.slot below more both.0 both.1) l
      (both_of (λ (e : Entry). is_in e.slot below ≡ false) (λ (e : Entry). is_in e.slot more ≡ false) l h k)

  listed_is : (f : Forest Entry) (above : Option Entry) (below : List ℕ) (h : Bool) → AreDistinct (preorder f) → IsNew below f → IsOutOf above f →
      is_marked below above ≡ h → slots_listed memory part below (seen above f) ≡ below ++ under_part h f
  listed_is none above below h d new out mark = sym (append-nil below)
  listed_is (tree b k r) above below h d new out mark =
      let c : Bool = h || own b.slot in
      let one : List ℕ = where_so h b.slot in
      let first : List ℕ = below ++ one in
      let rest : AreDistinct (preorder k ++ preorder r) = distinct-tail b (preorder k ++ preorder r) d in
      let head : Each (λ (e : Entry). (b.slot == e.slot) ≡ false) (preorder k ++ preorder r) = distinct-head b (preorder k ++ preorder r) d in
      let others : Each (λ (e : Entry). is_in e.slot one ≡ false) (preorder k ++ preorder r) =
      each-weaker (λ (e : Entry). (b.slot == e.slot) ≡ false) (λ (e : Entry). is_in e.slot one ≡ false)
      (λ e n. out_of_one e.slot b.slot h (eqb_swap e.slot b.slot ∙ n)) (preorder k ++ preorder r) head in
      let new_first : Each (λ (e : Entry). is_in e.slot first ≡ false) (preorder k ++ preorder r) = still_new below one (preorder k ++ preorder r) new.1 others in
      let kids : slots_listed memory part first (seen (Some b) k) ≡ first ++ under_part c k =
      listed_is k (Some b) first c (distinct-left (preorder k) (preorder r) rest)
      (each-left_part (λ (e : Entry). is_in e.slot first ≡ false) (preorder k) (preorder r) new_first)
      (each-left_part (λ (e : Entry). (b.slot == e.slot) ≡ false) (preorder k) (preorder r) head)
      (ap (λ t. own b.slot || t)
      (list_any-append (λ n. b.slot == n) below one ∙ ap (λ t. t || is_in b.slot one) new.0 ∙ in_one b.slot h)
      ∙ or_swap (own b.slot) h) in
      let second : List ℕ = first ++ under_part c k in
      let beside : Each (λ (e : Entry). is_in e.slot (under_part c k) ≡ false) (preorder r) =
      each-weaker (λ (e : Entry). IsNone (preorder k) e.slot) (λ (e : Entry). is_in e.slot (under_part c k) ≡ false)
      (λ e n. out_of_all e.slot c k n) (preorder r) (apart (preorder k) (preorder r) rest) in
      let more : slots_listed memory part second (seen above r) ≡ second ++ under_part h r =
      listed_is r above second h (distinct-right (preorder k) (preorder r) rest)
      (still_new first (under_part c k) (preorder r) (each-right_part (λ (e : Entry). is_in e.slot first ≡ false) (preorder k) (preorder r) new_first) beside)
      (out_right above b k r out) (same_mark below above b k r h c out ∙ mark) in
      ap (λ t. slots_listed memory part (cond t (below ++ b.slot ∷ []) below) (map told (parented (Some b) k ++ parented above r))) mark
      ∙ ap (λ l. slots_listed memory part l (map told (parented (Some b) k ++ parented above r))) (put h below b.slot)
      ∙ ap (slots_listed memory part first) (map-append told (parented (Some b) k) (parented above r))
      ∙ listed_append first (seen (Some b) k) (seen above r)
      ∙ ap (λ l. slots_listed memory part l (seen above r)) kids
      ∙ more
      ∙ append_assoc first (under_part c k) (under_part h r)
      ∙ append_assoc below one (under_part c k ++ under_part h r)

  -- ---- what stands in it

  abbrev AreIn : List ℕ → List Entry → Type 0
  AreIn list l = Each (λ (e : Entry). is_in e.slot list ≡ true) l

  are_first : (xs ys : List ℕ) (l : List Entry) → AreIn xs l → AreIn (xs ++ ys) l
  are_first xs ys l h = each-weaker (λ (e : Entry). is_in e.slot xs ≡ true) (λ (e : Entry). is_in e.slot (xs ++ ys) ≡ true) (λ e k. in_first e.slot xs ys k) l h

  are_second : (xs ys : List ℕ) (l : List Entry) → AreIn ys l → AreIn (xs ++ ys) l
  are_second xs ys l h = each-weaker (λ (e : Entry). is_in e.slot ys ≡ true) (λ (e : Entry). is_in e.slot (xs ++ ys) ≡ true) (λ e k. in_second e.slot xs ys k) l h

  all_in : (f : Forest Entry) → AreIn (under_part true f) (preorder f)
  all_in none = tt
  all_in (tree a k r) = (
    true_left (a.slot == a.slot) (is_in a.slot (under_part true k ++ under_part true r)) (eqb_self a.slot),
    are_second (a.slot ∷ []) (under_part true k ++ under_part true r) (preorder k ++ preorder r)
        (each-append (λ (e : Entry). is_in e.slot (under_part true k ++ under_part true r) ≡ true) (preorder k) (preorder r)
        (are_first (under_part true k) (under_part true r) (preorder k) (all_in k)) (are_second (under_part true k) (under_part true r) (preorder r) (all_in r))),
  )

  -- all that stands below a slot of the part is listed
  below_in : (f : Forest Entry) (h : Bool) (s : ℕ) → own s ≡ true → AreIn (under_part h f) (descendants (is_at s) f)
  below_in none h s mine = tt
  below_in (tree a k r) h s mine =
      let K : List ℕ = under_part (h || own a.slot) k in
      let R : List ℕ = under_part h r in
      (elim (is_at s a) as (λ b. is_at s a ≡ b → AreIn (where_so h a.slot ++ (K ++ R)) (preorder (cond b k (join (below_those (is_at s) k) (below_those (is_at s) r))))) [
        | true ↦ λ at.
            let all : h || own a.slot ≡ true = true_right h (own a.slot) (ap own (eqb-true a.slot s at) ∙ mine) in
            are_second (where_so h a.slot) (K ++ R) (preorder k)
            (are_first K R (preorder k) (subst (λ t. AreIn (under_part t k) (preorder k)) (sym all) (all_in k)))
        | false ↦ λ differs.
            each-join (λ (e : Entry). is_in e.slot (where_so h a.slot ++ (K ++ R)) ≡ true) (below_those (is_at s) k) (below_those (is_at s) r)
            (are_second (where_so h a.slot) (K ++ R) (descendants (is_at s) k) (are_first K R (descendants (is_at s) k) (below_in k (h || own a.slot) s mine)))
            (are_second (where_so h a.slot) (K ++ R) (descendants (is_at s) r) (are_second K R (descendants (is_at s) r) (below_in r h s mine)))
      ]) refl

  -- a listed slot is one of the forest
  one_of : (f : Forest Entry) (h : Bool) (n : ℕ) → is_in n (under_part h f) ≡ true → (e : Entry) × (Contains (preorder f) e × (e.slot ≡ n))
  one_of f h n listed = elim (tells_where f n) [
    | inl found ↦ found
    | inr out ↦ absurd (false≢true (sym (out_of_all n h f out) ∙ listed))
  ]
    where
      in_list : (l : List Entry) (n : ℕ) → ((e : Entry) × (Contains l e × (e.slot ≡ n))) ⊎ IsNone l n
      in_list [] n = inr tt
      in_list (x ∷ l) n = (elim (n == x.slot) as (λ b. (n == x.slot) ≡ b → ((e : Entry) × (Contains (x ∷ l) e × (e.slot ≡ n))) ⊎ IsNone (x ∷ l) n) [
        | true ↦ λ is. inl (x, (Contains-append_left (x ∷ []) l x (in_contains (x ∷ []) x (inl refl)), sym (eqb-true n x.slot is)))
        | false ↦ λ differs. elim (in_list l n) [
          | inl found ↦ inl (found.0, (Contains-append_right (x ∷ []) l found.0 found.1.0, found.1.1))
          | inr out ↦ inr (differs, out)
        ]
      ]) refl

      tells_where : (f : Forest Entry) (n : ℕ) → ((e : Entry) × (Contains (preorder f) e × (e.slot ≡ n))) ⊎ IsNone (preorder f) n
      tells_where f n = in_list (preorder f) n

  -- a slot stands below one of the part
  abbrev StandsUnder : Forest Entry → ℕ → Type 0
  StandsUnder f n =
      (top : Entry) × (Contains (preorder f) top × ((own top.slot ≡ true) × ((e : Entry) × (Contains (descendants (is_at top.slot) f) e × (e.slot ≡ n)))))

  -- below an entry that is not the one sought, all is as in the trees under it and beside it
  deeper : (a : Entry) (k r : Forest Entry) (n : ℕ) → AreDistinct (a ∷ (preorder k ++ preorder r)) → (top : Entry) → Contains (preorder k ++ preorder r) top → own top.slot ≡ true →
      (e : Entry) → Contains (preorder (join (below_those (is_at top.slot) k) (below_those (is_at top.slot) r))) e → e.slot ≡ n → StandsUnder (tree a k r) n
  deeper a k r n d top in_rest mine e in_e is =
      let differs : is_at top.slot a ≡ false = each-contained (λ (x : Entry). (a.slot == x.slot) ≡ false) (preorder k ++ preorder r) top (distinct-head a (preorder k ++ preorder r) d) in_rest in (
        top,
        (
          Contains-append_right (a ∷ []) (preorder k ++ preorder r) top in_rest,
          (
            mine,
            (
              e,
              (subst (λ b. Contains (preorder (cond b k (join (below_those (is_at top.slot) k) (below_those (is_at top.slot) r)))) e) (sym differs) in_e, is),
            ),
          ),
        ),
      )

  stands_under : (f : Forest Entry) (h : Bool) (n : ℕ) → AreDistinct (preorder f) → is_in n (under_part h f) ≡ true → (h ≡ true) ⊎ StandsUnder f n
  stands_under none h n d listed = absurd (false≢true listed)
  stands_under (tree a k r) true n d listed = inl refl
  stands_under (tree a k r) false n d listed =
      let K : List ℕ = under_part (own a.slot) k in
      let R : List ℕ = under_part false r in
      let rest : AreDistinct (preorder k ++ preorder r) = distinct-tail a (preorder k ++ preorder r) d in
      let under : (s : ℕ) (e : Entry) → Contains (descendants (is_at s) k) e → Contains (preorder (join (below_those (is_at s) k) (below_those (is_at s) r))) e =
      λ s e m. subst (λ l. Contains l e) (sym (preorder-join (below_those (is_at s) k) (below_those (is_at s) r))) (Contains-append_left (descendants (is_at s) k) (descendants (is_at s) r) e m) in
      let beside : (s : ℕ) (e : Entry) → Contains (descendants (is_at s) r) e → Contains (preorder (join (below_those (is_at s) k) (below_those (is_at s) r))) e =
      λ s e m. subst (λ l. Contains l e) (sym (preorder-join (below_those (is_at s) k) (below_those (is_at s) r))) (Contains-append_right (descendants (is_at s) k) (descendants (is_at s) r) e m) in
      elim (either_true (is_in n K) (is_in n R) (sym (list_any-append (λ m. n == m) K R) ∙ listed)) [
        | inl in_k ↦ elim (stands_under k (own a.slot) n (distinct-left (preorder k) (preorder r) rest) in_k) [
          | inl mine ↦
              let e = one_of k (own a.slot) n in_k in
              inr (
                a,
                (
                  Contains-append_left (a ∷ []) (preorder k ++ preorder r) a (in_contains (a ∷ []) a (inl refl)),
                  (
                    mine,
                    (
                      e.0,
                      (subst (λ b. Contains (preorder (cond b k (join (below_those (is_at a.slot) k) (below_those (is_at a.slot) r)))) e.0) (sym (eqb_self a.slot)) e.1.0, e.1.1),
                    ),
                  ),
                ),
              )
          | inr u ↦
              inr (deeper a k r n d u.0 (Contains-append_left (preorder k) (preorder r) u.0 u.1.0) u.1.1.0 u.1.1.1.0 (under u.0.slot u.1.1.1.0 u.1.1.1.1.0) u.1.1.1.1.1)
        ]
        | inr in_r ↦ elim (stands_under r false n (distinct-right (preorder k) (preorder r) rest) in_r) [
          | inl never ↦ absurd (false≢true never)
          | inr u ↦
              inr (deeper a k r n d u.0 (Contains-append_right (preorder k) (preorder r) u.0 u.1.0) u.1.1.0 u.1.1.1.0 (beside u.0.slot u.1.1.1.0 u.1.1.1.1.0) u.1.1.1.1.1)
        ]
      ]

  -- ---- both

  whole : (f : Forest Entry) → AreDistinct (preorder f) → slots_listed memory part [] (derivations_of f) ≡ under_part false f
  whole f d = listed_is f None [] false d (each-from_contained (λ (e : Entry). false ≡ false) (preorder f) (λ e m. refl)) tt refl

  pub none_below : (other : ℕ) (uses : List PartUse) (f : Forest Entry) → AreDistinct (preorder f) →
      list_any (is_slot_within memory other) (slots_listed memory part [] (derivations_of f)) ≡ false → StandsNoneBelow (parts_listed memory uses) part other f
  none_below other uses f d lacking slot e mine under there =
      let listed : is_in e.slot (under_part false f) ≡ true =
      each-contained (λ (x : Entry). is_in x.slot (under_part false f) ≡ true) (descendants (is_at slot) f) e
      (below_in f false slot (part_is (part_at memory slot) part mine)) under in
      let found = any_of (λ m. e.slot == m) (under_part false f) listed in
      let is : is_slot_within memory other found.0 ≡ true =
      ap (is_slot_within memory other) (sym (eqb-true e.slot found.0 found.1.1)) ∙ part_is (part_at memory e.slot) other there in
      false≢true
      (sym lacking ∙ ap (list_any (is_slot_within memory other)) (whole f d) ∙ any_in (is_slot_within memory other) (under_part false f) found.0 found.1.0 is)

  pub one_below : (other : ℕ) (f : Forest Entry) → AreDistinct (preorder f) →
      list_any (is_slot_within memory other) (slots_listed memory part [] (derivations_of f)) ≡ true → StandsOneBelow memory part other f
  one_below other f d some =
      let found = any_of (is_slot_within memory other) (under_part false f) (sym (ap (list_any (is_slot_within memory other)) (whole f d)) ∙ some) in
      let listed : is_in found.0 (under_part false f) ≡ true = any_in (λ m. found.0 == m) (under_part false f) found.0 found.1.0 (eqb_self found.0) in
      elim (stands_under f false found.0 d listed) [
        | inl never ↦ absurd (false≢true never)
        | inr u ↦ record {
          slot = u.0.slot;
          under = u.1.1.1.0;
          slot_in = is_the_part (part_at memory u.0.slot) part u.1.1.0;
          below = u.1.1.1.1.0;
          under_in = ap (part_at memory) u.1.1.1.1.1 ∙ is_the_part (part_at memory found.0) other found.1.1;
        }
      ]

-- what a loop over derivations lists is what a forest lists that they tell
module _ (memory : List PartMemory) (part other : ℕ) (ds : List (Entry × Option ℕ)) (below : List ℕ) (is : below ≡ slots_listed memory part [] ds)
    (f : Forest Entry) (tells : ds ≡ derivations_of f) (d : AreDistinct (preorder f)) where
  listed_of : (b : Bool) → b ≡ list_any (is_slot_within memory other) below → list_any (is_slot_within memory other) (slots_listed memory part [] (derivations_of f)) ≡ b
  listed_of b has = sym (has ∙ ap (list_any (is_slot_within memory other)) (is ∙ ap (slots_listed memory part []) tells))

  pub told_none : (uses : List PartUse) (b : Bool) → b ≡ list_any (is_slot_within memory other) below → not b ≡ true → StandsNoneBelow (parts_listed memory uses) part other f
  told_none uses true has so = absurd (false≢true so)
  told_none uses false has so = none_below memory part other uses f d (listed_of false has)

  pub told_one : (b : Bool) → b ≡ list_any (is_slot_within memory other) below → not b ≡ false → StandsOneBelow memory part other f
  told_one true has so = one_below memory part other f d (listed_of true has)
  told_one false has so = absurd (false≢true (sym so))
