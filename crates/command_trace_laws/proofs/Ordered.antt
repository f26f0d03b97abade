-- The lines of siblings tell the kernel's order.
use Rattle.std.proofs.Common.{◌≡◌, ℕ, ◌==◌, Bool, true, false, cond, List, [], ◌∷◌, ◌++◌, map, Option, None, Some, option_and_then, ◌⊎◌, inl, inr, refl, sym, ap, subst, ◌∙◌, eq-eqb}
use Rattle.std.specs.List.{AllByRecursion as Each, IsDistinct, find}
use Rattle.cap_core.specs.declared.profile.ProfileName.{ProfileName}
use Rattle.kernel_forest.specs.Forest.{Forest, preorder, tops, join, below_those, children}
use Rattle.kernel_forest.specs.Forest.Forest.{none, tree}
use Rattle.kernel_forest.specs.Entries.{Entry, slots, is_at, slot_of as entry_slot}
use Rattle.kernel_forest.proofs.Trees.Forests.{each-left_part, each-right_part}
use Rattle.kernel_forest.proofs.Trees.Built.{Absent, Once, once-right_part, below_those_none, join-nothing}
use Rattle.kernel_forest.proofs.Trees.Lines.{once-left_part}
use Rattle.kernel_forest.proofs.Slots.Distinct.{once_at}
use Rattle.kernel_abstract.specs.Reached.{IsReached}
use Rattle.kernel_abstract.specs.State.{State, shown}
use Rattle.kernel_abstract.proofs.Reached.Simulation.{reached_is}
use Rattle.command_trace.specs.Siblings.{Sibling, siblings, in_front}
use Rattle.command_trace_laws.specs.Laws.{in_a_row, TellsTheOrder}
use Rattle.command_trace.proofs.Walks.Walked.{slots_are}

-- ---- in front of each stands what the list has there

front_past : (x : Sibling) (all xs : List Sibling) → Each (λ (n : ℕ). (x.0 == n) ≡ false) (map (λ (y : Sibling). y.0) xs) → Each (λ (y : Sibling). in_front all y.0 ≡ y.1) xs →
    Each (λ (y : Sibling). in_front (x ∷ all) y.0 ≡ y.1) xs
front_past x all [] h k = tt
front_past x all (y ∷ xs) h k = (
  ap (λ b. option_and_then (λ (z : Sibling). z.1) (cond b (Some x) (find (λ (z : Sibling). z.0 == y.0) all))) h.0 ∙ k.0,
  front_past x all xs h.1 k.1,
)

pub each_front : (xs : List Sibling) → IsDistinct (λ (a b : ℕ). a == b) (map (λ (x : Sibling). x.0) xs) → Each (λ (x : Sibling). in_front xs x.0 ≡ x.1) xs
unfolding IsDistinct
each_front [] apart = tt
each_front (x ∷ xs) apart = (
  ap (λ b. option_and_then (λ (z : Sibling). z.1) (cond b (Some x) (find (λ (z : Sibling). z.0 == x.0) xs))) (eq-eqb x.0 x.0 refl),
  front_past x xs xs apart.0 (each_front xs apart.1),
)

-- ---- the slots below a slot stand in a row

pub either_side : {X : Type 0} (is : X → Bool) (xs ys : List X) → Once is (xs ++ ys) → Absent is xs ⊎ Absent is ys
either_side is [] ys once = inl tt
either_side is (x ∷ xs) ys once =
    elim (is x) as (λ b. is x ≡ b → Absent is (x ∷ xs) ⊎ Absent is ys) [
      | true ↦ λ e. inr (each-right_part (λ y. is y ≡ false) xs ys (once.0 e))
      | false ↦ λ e. elim (either_side is xs ys once.1) [ inl a ↦ inl (e, a) | inr b ↦ inr b ]
    ] refl

tops_row : (P : Sibling → Type 0) (before : Option ℕ) (f : Forest Entry) → Each P (siblings before f) → Each P (in_a_row before (map entry_slot (tops f)))
tops_row P before none h = tt
tops_row P before (tree e under others) h = (h.0, tops_row P (Some e.slot) others (each-right_part P (siblings None under) (siblings (Some e.slot) others) h.1))

abbrev IsInARow : (Sibling → Type 0) → Forest Entry → Type 0
IsInARow P f = Each P (in_a_row None (map entry_slot (tops f)))

children_row : (P : Sibling → Type 0) (slot : ℕ) (before : Option ℕ) (f : Forest Entry) → Once (is_at slot) (preorder f) → Each P (siblings before f) → IsInARow P (below_those (is_at slot) f)
children_row P slot before none once h = tt
children_row P slot before (tree e under others) once h =
    let is = is_at slot in
    let below = each-left_part P (siblings None under) (siblings (Some e.slot) others) h.1 in
    let beside = each-right_part P (siblings None under) (siblings (Some e.slot) others) h.1 in
    let here = below_those is under in
    let there = below_those is others in
    elim (is e) as (λ c. IsInARow P (cond c under (join here there))) [
      | true ↦ tops_row P None under below
      | false ↦ elim (either_side is (preorder under) (preorder others) once.1) [
        | inl a ↦ subst (λ g. IsInARow P (join g there)) (sym (below_those_none is under a)) (children_row P slot (Some e.slot) others (once-right_part is (preorder under) (preorder others) once.1) beside)
        | inr a ↦ subst (λ g. IsInARow P (join here g)) (sym (below_those_none is others a))
            (subst (IsInARow P) (sym (join-nothing here)) (children_row P slot None under (once-left_part is (preorder under) (preorder others) once.1) below))
      ]
    ]

row_told : (all : List Sibling) (before : Option ℕ) (slots : List ℕ) → Each (λ (x : Sibling). in_front all x.0 ≡ x.1) (in_a_row before slots) → map (λ (slot : ℕ). (slot, in_front all slot)) slots ≡ in_a_row before slots
row_told all before [] h = refl
row_told all before (slot ∷ slots) h = λ i. (slot, h.0 i) ∷ row_told all (Some slot) slots h.1 i

-- ---- of each state that runs reach

module _ (p : ProfileName) (A : State) (reached : IsReached p A) where
  apart : IsDistinct (λ (a b : ℕ). a == b) (slots (shown A).derivations)
  unfolding shown
  apart = (reached_is p A reached).store.slots_distinct

  fronts : Each (λ (x : Sibling). in_front (siblings None (shown A).derivations) x.0 ≡ x.1) (siblings None (shown A).derivations)
  fronts = each_front (siblings None (shown A).derivations) (subst (IsDistinct (λ (a b : ℕ). a == b)) (sym (slots_are (shown A).derivations)) apart)

  pub trees_told : TellsTheOrder (shown A).derivations (map entry_slot (tops (shown A).derivations))
  trees_told =
      let f = (shown A).derivations in
      row_told (siblings None f) None (map entry_slot (tops f)) (tops_row (λ (x : Sibling). in_front (siblings None f) x.0 ≡ x.1) None f fronts)

  pub children_told : (slot : ℕ) → TellsTheOrder (shown A).derivations (map entry_slot (children (is_at slot) (shown A).derivations))
  children_told slot =
      let f = (shown A).derivations in
      row_told (siblings None f) None (map entry_slot (children (is_at slot) f)) (children_row (λ (x : Sibling). in_front (siblings None f) x.0 ≡ x.1) slot None f (once_at slot (preorder f) apart) fronts)
