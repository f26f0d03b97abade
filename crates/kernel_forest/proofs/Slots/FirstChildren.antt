-- The newest child of a slot after a put.
use Rattle.std.proofs.Common.{◌≡◌, ℕ, Bool, true, false, cond, ◌||◌, ◌++◌, Some, None, refl, sym, ◌∙◌, ap, arith}
use Rattle.std.specs.List.{Contains, list_any}
use Rattle.std.proofs.lemmas.List.Folds.{list_any-append}
use Rattle.kernel_forest.specs.Forest.{Forest, none, tree, preorder, join, tops, below_those, descendants, below}
use Rattle.kernel_forest.specs.Entries.{Entry, is_at, first_child, first_slot}
use Rattle.kernel_forest.proofs.Trees.Built.{fixed-below, below_those_none}
use Rattle.kernel_forest.proofs.Trees.Lines.{any_none, one_of}

first_join : (g h : Forest Entry) (s : ℕ) → first_slot (tops g) ≡ Some s → first_slot (tops (join g h)) ≡ Some s
first_join none h s e = cc
first_join (tree a k r) h s e = e

first-below : (is : Entry → Bool) (x : Entry) (f : Forest Entry) → list_any is (preorder f) ≡ true → first_slot (tops (below_those is (below is x f))) ≡ Some x.slot
first-below is x none h = cc
first-below is x (tree a k r) h =
    (elim (is a) as (λ c. is a ≡ c → (c || list_any is (preorder k ++ preorder r)) ≡ true → first_slot (tops (below_those is (cond c (tree a (tree x none k) r) (tree a (below is x k) (below is x r))))) ≡ Some x.slot) [
      | true ↦ λ t g. rw t refl
      | false ↦ λ t g. rw t
          ((elim (list_any is (preorder k)) as (λ c. list_any is (preorder k) ≡ c → first_slot (tops (join (below_those is (below is x k)) (below_those is (below is x r)))) ≡ Some x.slot) [
            | true ↦ λ e. first_join (below_those is (below is x k)) (below_those is (below is x r)) x.slot (first-below is x k e)
            | false ↦ λ e. ap (λ (m : Forest Entry). first_slot (tops (join m (below_those is (below is x r)))))
                (ap (below_those is) (fixed-below is x k (any_none is (preorder k) e)) ∙ below_those_none is k (any_none is (preorder k) e))
                ∙ first-below is x r (one_of (list_any is (preorder k)) (list_any is (preorder r)) (sym (list_any-append is (preorder k) (preorder r)) ∙ g) e)
          ]) refl)
    ]) refl h

-- below a slot that has no child there is nothing
pub childless-bare : (a : ℕ) (f : Forest Entry) → first_child a f ≡ None → (u : Entry) → Contains (descendants (is_at a) f) u → ⊥
childless-bare a f h u m = go (below_those (is_at a) f) h m
  where
    go : (g : Forest Entry) → first_slot (tops g) ≡ None → Contains (preorder g) u → ⊥
    go none e n = omega (arith, n.1)
    go (tree b k r) e n = cc
