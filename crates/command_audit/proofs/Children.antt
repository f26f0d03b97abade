-- A slot with a child is full.
use Rattle.std.proofs.Common.{◌≡◌, ℕ, Bool, true, false, cond, ◌||◌, ◌++◌, is_some, refl, sym, ap, ◌∙◌}
use Rattle.std.specs.List.{list_any}
use Rattle.std.proofs.lemmas.List.Folds.{list_any-append}
use Rattle.kernel_forest.specs.Forest.{Forest, none, tree, preorder, join, tops, below_those}
use Rattle.kernel_forest.specs.Entries.{Entry, is_at, is_full, first_slot}
use Rattle.kernel_abstract.specs.Shown.{has_child}

first_false : (a b : Bool) → (a || b) ≡ false → a ≡ false
first_false true b h = h
first_false false b h = refl

second_false : (a b : Bool) → (a || b) ≡ false → b ≡ false
second_false true b h = cc
second_false false b h = h

none_below : (slot : ℕ) (f : Forest Entry) → list_any (is_at slot) (preorder f) ≡ false → below_those (is_at slot) f ≡ none
none_below slot none h = refl
none_below slot (tree a under others) h =
    let rest : list_any (is_at slot) (preorder under ++ preorder others) ≡ false =
    second_false (is_at slot a) (list_any (is_at slot) (preorder under ++ preorder others)) h in
    let both : (list_any (is_at slot) (preorder under) || list_any (is_at slot) (preorder others)) ≡ false =
    sym (list_any-append (is_at slot) (preorder under) (preorder others)) ∙ rest in
    let own : is_at slot a ≡ false = first_false (is_at slot a) (list_any (is_at slot) (preorder under ++ preorder others)) h in
    (λ i. cond (own i) under
    (join (none_below slot under (first_false (list_any (is_at slot) (preorder under)) (list_any (is_at slot) (preorder others)) both) i)
    (none_below slot others (second_false (list_any (is_at slot) (preorder under)) (list_any (is_at slot) (preorder others)) both) i)))

pub child_full : (slot : ℕ) (f : Forest Entry) → has_child slot f ≡ true → is_full slot f ≡ true
child_full slot f h =
    elim (is_full slot f) as (λ b. is_full slot f ≡ b → b ≡ true) [
      | true ↦ λ e. refl
      | false ↦ λ e. absurd (let two : true ≡ false = sym h ∙ ap (λ (g : Forest Entry). is_some (first_slot (tops g))) (none_below slot f e) in cc)
    ] refl
