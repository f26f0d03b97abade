-- A slot has children where some slot stands right below it.
use Rattle.std.proofs.Common.{◌≡◌, ℕ, ◌==◌, ◌||◌, Bool, true, false, cond, is_some, List, [], ◌∷◌, map, Option, None, Some, option_map, refl, sym, ap, ◌∙◌}
use Rattle.std.specs.List.{IsDistinct, find, list_any}
use Rattle.std.proofs.lemmas.List.{map-append}
use Rattle.std.proofs.lemmas.List.Folds.{list_any-append}
use Rattle.kernel_forest.specs.Forest.{Forest, preorder, join, tops, below_those, parented}
use Rattle.kernel_forest.specs.Forest.Forest.{none, tree}
use Rattle.kernel_forest.specs.Entries.{Entry, slots, is_at, first_slot, cap_in, slot_of as entry_slot, derivations_of}
use Rattle.kernel_forest.proofs.Trees.Forests.{each-left_part, each-right_part}
use Rattle.kernel_forest.proofs.Trees.Built.{Absent, Once, once-right_part}
use Rattle.kernel_forest.proofs.Trees.Lines.{once-left_part}
use Rattle.kernel_forest.proofs.Slots.Distinct.{once_at}
use Rattle.kernel_abstract.specs.Shown.{has_child}
use Rattle.setup_report.specs.State.{Derived, slot_of, found}
use Rattle.command_trace_laws.specs.Laws.{is_under, has_slot_under}

abbrev viewed : Entry × Option Entry → Derived
viewed x = (x.0, option_map entry_slot x.1)

abbrev stands_under : ℕ → Derived → Bool
stands_under slot d = is_under slot d.1

-- ---- whether some slot of a forest stands under one, where its tops stand under `above`

abbrev under_in : ℕ → Option Entry → Forest Entry → Bool
under_in slot above f = list_any (stands_under slot) (map viewed (parented above f))

under_tree : (slot : ℕ) (above : Option Entry) (e : Entry) (under others : Forest Entry) →
    under_in slot above (tree e under others) ≡ (is_under slot (option_map entry_slot above) || (under_in slot (Some e) under || under_in slot above others))
under_tree slot above e under others =
    ap (λ b. is_under slot (option_map entry_slot above) || b)
    (ap (list_any (stands_under slot)) (map-append viewed (parented (Some e) under) (parented above others))
    ∙ list_any-append (stands_under slot) (map viewed (parented (Some e) under)) (map viewed (parented above others)))

none_under : (slot : ℕ) (above : Option Entry) (f : Forest Entry) → is_under slot (option_map entry_slot above) ≡ false → Absent (is_at slot) (preorder f) → under_in slot above f ≡ false
none_under slot above none apart absent = refl
none_under slot above (tree e under others) apart absent =
    under_tree slot above e under others
    ∙ (λ i. apart i || (none_under slot (Some e) under absent.0 (each-left_part (λ a. is_at slot a ≡ false) (preorder under) (preorder others) absent.1) i
    || none_under slot above others apart (each-right_part (λ a. is_at slot a ≡ false) (preorder under) (preorder others) absent.1) i))

-- right below the slot stand the tops, if there are any
tops_under : (slot : ℕ) (e : Entry) (f : Forest Entry) → is_at slot e ≡ true → under_in slot (Some e) f ≡ is_some (first_slot (tops f))
tops_under slot e none is = refl
tops_under slot e (tree a under others) is =
    under_tree slot (Some e) a under others ∙ ap (λ b. b || (under_in slot (Some a) under || under_in slot (Some e) others)) is

first_of_both : (f g : Forest Entry) → is_some (first_slot (tops (join f g))) ≡ (is_some (first_slot (tops f)) || is_some (first_slot (tops g)))
first_of_both none g = refl
first_of_both (tree a under others) g = refl

or_false : (a : Bool) → (a || false) ≡ a
or_false true = refl
or_false false = refl

children_under : (slot : ℕ) (above : Option Entry) (f : Forest Entry) → is_under slot (option_map entry_slot above) ≡ false → Once (is_at slot) (preorder f) →
    under_in slot above f ≡ is_some (first_slot (tops (below_those (is_at slot) f)))
children_under slot above none apart once = refl
children_under slot above (tree e under others) apart once =
    under_tree slot above e under others
    ∙ ap (λ b. b || (under_in slot (Some e) under || under_in slot above others)) apart
    ∙ elim (is_at slot e) as (λ b. is_at slot e ≡ b →
    (under_in slot (Some e) under || under_in slot above others) ≡ is_some (first_slot (tops (cond b under (join (below_those (is_at slot) under) (below_those (is_at slot) others)))))) [
      | true ↦ λ is.
          (λ i. tops_under slot e under is i || none_under slot above others apart (each-right_part (λ a. is_at slot a ≡ false) (preorder under) (preorder others) (once.0 is)) i)
          ∙ or_false (is_some (first_slot (tops under)))
      | false ↦ λ is.
          (λ i. children_under slot (Some e) under is (once-left_part (is_at slot) (preorder under) (preorder others) once.1) i
          || children_under slot above others apart (once-right_part (is_at slot) (preorder under) (preorder others) once.1) i)
          ∙ sym (first_of_both (below_those (is_at slot) under) (below_those (is_at slot) others))
    ] refl

pub child_is_under : (slot : ℕ) (f : Forest Entry) → IsDistinct (λ (a b : ℕ). a == b) (slots f) → has_slot_under slot (derivations_of f) ≡ has_child slot f
child_is_under slot f distinct = children_under slot None f refl (once_at slot (preorder f) distinct)

-- ---- capabilities

-- a slot that is found holds the capability of what is found there
pub held_there : (list : List Derived) (slot : ℕ) (d : Derived) → found list slot ≡ Some d → cap_in slot (map (λ (e : Derived). e.0) list) ≡ d.0.cap
held_there [] slot d is = cc
held_there (e ∷ list) slot d is =
    elim (slot_of e == slot) as (λ b. cond b (Some e) (find (λ (a : Derived). slot_of a == slot) list) ≡ Some d → cond b e.0.cap (cap_in slot (map (λ (a : Derived). a.0) list)) ≡ d.0.cap) [
      | true ↦ λ there. let same : e ≡ d = cc in ap (λ (a : Derived). a.0.cap) same
      | false ↦ λ there. held_there list slot d there
    ] is
