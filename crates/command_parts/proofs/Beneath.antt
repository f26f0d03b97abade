-- What stands below a slot of a part is found, by one walk from the top down.
use Rattle.std.proofs.Common.{◌≡◌, ℕ, Bool, true, false, not, cond, ◌==◌, ◌||◌, ◌&&◌, List, [], ◌∷◌, ◌++◌, map, Option, Some, None, inl, inr, ◌⊎◌, refl, sym, ap, subst, ◌∙◌, append_assoc}
use Rattle.std.specs.Prelude.{option_map}
use Rattle.std.proofs.lemmas.Bool.{false≢true, eqb-true, ne_eqb}
use Rattle.std.proofs.lemmas.List.{map-append}
use Rattle.std.proofs.lemmas.List.Folds.{list_any-append}
use Rattle.kernel_forest.specs.Forest.{Forest, none, tree, join, preorder, below_those, descendants, parented}
use Rattle.kernel_forest.specs.Entries.{Entry, is_at, slot_of}
use Rattle.kernel_forest.proofs.Trees.Forests.{preorder-join}
use Rattle.kernel_delete.specs.Members.{In}
use Rattle.kernel_delete.proofs.Members.{true_left, true_right, in_append, eqb_self}
use Rattle.kernel_delete.proofs.Clearable.{contains_in}
use Rattle.query_parts.specs.declared.listed.PartMemory.{PartMemory}
use Rattle.query_parts.specs.declared.listed.PartUse.{PartUse}
use Rattle.query_parts.specs.Listed.{part_at}
use Rattle.setup_report.specs.State.{is_in, rising}
use Rattle.setup_report.proofs.Addresses.Rising.{any_rising, in_filter}
use Rattle.command_parts.specs.declared.takes.PartSlot.{PartSlot}
use Rattle.command_parts.specs.Takes.{part_slot, part_slots, is_beneath, is_part, part_or_none, part_below, with_slot, parts_below}
use Rattle.command_parts.specs.NotTaken.{TakesNone}

-- a number is in a list, and so in what begins or ends with it
in_front : (n : ℕ) (k l : List ℕ) → is_in n k ≡ true → is_in n (k ++ l) ≡ true
in_front n k l h = list_any-append (λ a. n == a) k l ∙ true_left _ _ h

in_back : (n : ℕ) (k l : List ℕ) → is_in n l ≡ true → is_in n (k ++ l) ≡ true
in_back n k l h = list_any-append (λ a. n == a) k l ∙ true_right _ _ h

module _ (memory : List PartMemory) (i j : ℕ) where
  -- the slots of a forest whose trees stand below one
  abbrev pub standing : Option Entry → Forest Entry → List PartSlot
  standing above f = map (part_slot memory) (map (λ (e : Entry × Option Entry). (e.0, option_map slot_of e.1)) (parented above f))

  abbrev pub one : Entry → Option Entry → PartSlot
  one a above = part_slot memory (a, option_map slot_of above)

  -- the slots that are of the part, or stand below one that is, behind a list
  unfoldable pub slots_after : List ℕ → List PartSlot → List ℕ
  slots_after above [] = above
  slots_after above (s ∷ rest) = slots_after (with_slot i above s) rest

  grown : (n : ℕ) (above : List ℕ) (s : PartSlot) → is_in n above ≡ true → is_in n (with_slot i above s) ≡ true
  grown n above s h = by (is_beneath above s.above || is_part i s.part)
    where
      by : (b : Bool) → is_in n (cond b (s.slot ∷ above) above) ≡ true
      by true = true_right _ _ h
      by false = h

  still : (n : ℕ) (above : List ℕ) (l : List PartSlot) → is_in n above ≡ true → is_in n (slots_after above l) ≡ true
  unfolding slots_after
  still n above [] h = h
  still n above (s ∷ l) h = still n (with_slot i above s) l (grown n above s h)

  both : (above : List ℕ) (k l : List PartSlot) → parts_below i above (k ++ l) ≡ parts_below i above k ++ parts_below i (slots_after above k) l
  unfolding slots_after
  both above [] l = refl
  both above (s ∷ k) l =
      ap (λ (r : List ℕ). part_below above s ++ r) (both (with_slot i above s) k l)
      ∙ sym (append_assoc (part_below above s) (parts_below i (with_slot i above s) k) (parts_below i (slots_after (with_slot i above s) k) l))

  -- the walk over a tree: its top, what is below, and the other trees
  pub walked : (above : List ℕ) (a : Entry) (top : Option Entry) (under others : Forest Entry) →
      parts_below i above (standing top (tree a under others))
      ≡ part_below above (one a top) ++ (parts_below i (with_slot i above (one a top)) (standing (Some a) under)
      ++ parts_below i (slots_after (with_slot i above (one a top)) (standing (Some a) under)) (standing top others))
  walked above a top under others =
      ap (λ (r : List PartSlot). part_below above (one a top) ++ parts_below i (with_slot i above (one a top)) r)
      (ap (map (part_slot memory)) (map-append (λ (e : Entry × Option Entry). (e.0, option_map slot_of e.1)) (parented (Some a) under) (parented top others))
      ∙ map-append (part_slot memory) (map (λ (e : Entry × Option Entry). (e.0, option_map slot_of e.1)) (parented (Some a) under))
      (map (λ (e : Entry × Option Entry). (e.0, option_map slot_of e.1)) (parented top others)))
      ∙ ap (λ (r : List ℕ). part_below above (one a top) ++ r) (both (with_slot i above (one a top)) (standing (Some a) under) (standing top others))

  -- the part of a slot
  told : (o : Option ℕ) → o ≡ Some j → is_in j (part_or_none o) ≡ true
  told None h = cc
  told (Some k) h = by k h
    where
      by : (k : ℕ) → Some k ≡ Some j → is_in j (k ∷ []) ≡ true
      by k e = let same : k ≡ j = cc in true_left _ _ (ap (λ n. j == n) same ∙ eqb_self j)

  abbrev next_after : List ℕ → Entry → Option Entry → List ℕ
  next_after above a top = with_slot i above (one a top)

  abbrev InTree : List ℕ → Entry → Option Entry → Forest Entry → Forest Entry → Type 0
  InTree above a top under others =
      is_in j (parts_below i (next_after above a top) (standing (Some a) under)
      ++ parts_below i (slots_after (next_after above a top) (standing (Some a) under)) (standing top others)) ≡ true

  below_known : (above : List ℕ) (top a : Entry) → is_in top.slot above ≡ true → is_in a.slot (next_after above a (Some top)) ≡ true
  below_known above top a known =
      ap (λ b. is_in a.slot (cond (b || is_part i (part_at memory a.slot)) (a.slot ∷ above) above)) known ∙ true_left _ _ (eqb_self a.slot)

  own_top : (above : List ℕ) (a : Entry) (top : Option Entry) → part_at memory a.slot ≡ Some i → is_in a.slot (next_after above a top) ≡ true
  own_top above a top mine =
      ap (λ b. is_in a.slot (cond b (a.slot ∷ above) above)) (true_right (is_beneath above (option_map slot_of top)) _ (ap (is_part i) mine ∙ eqb_self i))
      ∙ true_left _ _ (eqb_self a.slot)

  -- a tree whose top stands below one of the slots, where its trees below and the other trees are walked
  tree_top : (above : List ℕ) (top a : Entry) (under others : Forest Entry) → is_in top.slot above ≡ true → (e : Entry) → part_at memory e.slot ≡ Some j →
      ((next : List ℕ) → is_in a.slot next ≡ true → In e (preorder under) → is_in j (parts_below i next (standing (Some a) under)) ≡ true) →
      ((next : List ℕ) → is_in top.slot next ≡ true → In e (preorder others) → is_in j (parts_below i next (standing (Some top) others)) ≡ true) →
      (e ≡ a) ⊎ In e (preorder under ++ preorder others) →
      is_in j (part_below above (one a (Some top)) ++ (parts_below i (next_after above a (Some top)) (standing (Some a) under)
      ++ parts_below i (slots_after (next_after above a (Some top)) (standing (Some a) under)) (standing (Some top) others))) ≡ true
  tree_top above top a under others known e at in_under in_others (inl same) =
      in_front j (part_below above (one a (Some top))) _
      (ap (λ b. is_in j (cond b (part_or_none (part_at memory a.slot)) [])) known ∙ told (part_at memory a.slot) (ap (λ (x : Entry). part_at memory x.slot) (sym same) ∙ at))
  tree_top above top a under others known e at in_under in_others (inr more) =
      in_back j (part_below above (one a (Some top))) _ (by (in_append e (preorder under) (preorder others) more))
    where
      by : In e (preorder under) ⊎ In e (preorder others) → InTree above a (Some top) under others
      by (inl here) = in_front j (parts_below i (next_after above a (Some top)) (standing (Some a) under)) _ (in_under (next_after above a (Some top)) (below_known above top a known) here)
      by (inr there) =
          in_back j (parts_below i (next_after above a (Some top)) (standing (Some a) under)) _
          (in_others (slots_after (next_after above a (Some top)) (standing (Some a) under))
          (still top.slot (next_after above a (Some top)) (standing (Some a) under) (grown top.slot above (one a (Some top)) known)) there)

  -- where the top is one of the slots, the slots of a forest are found
  below_top : (f : Forest Entry) (above : List ℕ) (top : Entry) → is_in top.slot above ≡ true → (e : Entry) → In e (preorder f) → part_at memory e.slot ≡ Some j →
      is_in j (parts_below i above (standing (Some top) f)) ≡ true
  below_top none above top known e m at = absurd m
  below_top (tree a under others) above top known e m at =
      subst (λ (l : List ℕ). is_in j l ≡ true) (sym (walked above a (Some top) under others))
      (tree_top above top a under others known e at (λ next h n. below_top under next a h e n at) (λ next h n. below_top others next top h e n at) m)

  -- a tree, where what stands below a slot of the part is found in its trees below and in the other trees
  tree_own : (above : List ℕ) (top : Option Entry) (s : ℕ) (a : Entry) (under others : Forest Entry) → part_at memory s ≡ Some i → (e : Entry) → part_at memory e.slot ≡ Some j →
      ((next : List ℕ) → In e (descendants (is_at s) under) → is_in j (parts_below i next (standing (Some a) under)) ≡ true) →
      ((next : List ℕ) → In e (descendants (is_at s) others) → is_in j (parts_below i next (standing top others)) ≡ true) →
      (b : Bool) → is_at s a ≡ b → In e (preorder (cond b under (join (below_those (is_at s) under) (below_those (is_at s) others)))) →
      InTree above a top under others
  tree_own above top s a under others mine e at in_under in_others true here m =
      in_front j (parts_below i (next_after above a top) (standing (Some a) under)) _
      (below_top under (next_after above a top) a (own_top above a top (ap (part_at memory) (eqb-true a.slot s here) ∙ mine)) e m at)
  tree_own above top s a under others mine e at in_under in_others false other m =
      by (in_append e (descendants (is_at s) under) (descendants (is_at s) others)
      (subst (λ (l : List Entry). In e l) (preorder-join (below_those (is_at s) under) (below_those (is_at s) others)) m))
    where
      by : In e (descendants (is_at s) under) ⊎ In e (descendants (is_at s) others) → InTree above a top under others
      by (inl here) = in_front j (parts_below i (next_after above a top) (standing (Some a) under)) _ (in_under (next_after above a top) here)
      by (inr there) = in_back j (parts_below i (next_after above a top) (standing (Some a) under)) _ (in_others (slots_after (next_after above a top) (standing (Some a) under)) there)

  -- what stands below a slot of the part is found
  below_own : (f : Forest Entry) (above : List ℕ) (top : Option Entry) (s : ℕ) → part_at memory s ≡ Some i → (e : Entry) → In e (descendants (is_at s) f) →
      part_at memory e.slot ≡ Some j → is_in j (parts_below i above (standing top f)) ≡ true
  below_own none above top s mine e m at = absurd m
  below_own (tree a under others) above top s mine e m at =
      subst (λ (l : List ℕ). is_in j l ≡ true) (sym (walked above a top under others))
      (in_back j (part_below above (one a top)) _
      (tree_own above top s a under others mine e at (λ next n. below_own under next (Some a) s mine e n at) (λ next n. below_own others next top s mine e n at) (is_at s a) refl m))

pub takes_none : (memory : List PartMemory) (uses : List PartUse) (f : Forest Entry) (i j : ℕ) → TakesNone memory uses f i j
takes_none memory uses f i j two untold slot e mine m at =
    let found = below_own memory i j f [] None slot mine e (contains_in (descendants (is_at slot) f) e m) at in
    let other : not (j == i) ≡ true = ap not (ne_eqb j i (λ same. two (sym same))) in
    false≢true (sym untold ∙ in_filter (λ k. not (k == i)) j (rising (parts_below i [] (part_slots memory f)))
    ∙ ap (λ b. b && is_in j (rising (parts_below i [] (part_slots memory f)))) other
    ∙ any_rising (λ a. j == a) (parts_below i [] (part_slots memory f)) ∙ found)
