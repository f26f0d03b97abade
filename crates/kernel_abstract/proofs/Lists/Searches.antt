-- Searches through keys, and tables, that agree.
use Rattle.std.proofs.Common.{◌≡◌, ℕ, ◌≤◌, Bool, true, false, cond, ◌==◌, ◌||◌, List, [], ◌∷◌, find, Option, None, Some, refl, sym, ap, ◌∙◌, arith, inl, inr, eq-eqb}
use Rattle.std.specs.List.{list_any}
use Rattle.std.proofs.lemmas.Bool.{false≢true, cases_lt}
use Rattle.kernel_abstract.proofs.Lists.Tables.{get_table, same_nat_map}
use Rattle.kernel_abstract.proofs.Messages.WaitsOnce.{find_fails}
use Rattle.kernel_abstract.proofs.Lists.Numbered.{find_nothing, tally, zero_none}
use Rattle.kernel_abstract.specs.Shown.{table}

-- a key that is found is among the keys, and passes
pub find_found : (p : ℕ → Bool) (keys : List ℕ) (e : ℕ) → find p keys ≡ Some e → (list_any (λ k. e == k) keys ≡ true) × (p e ≡ true)
find_found p [] e h = cc
find_found p (k ∷ ks) e h = elim (p k) as (λ b. p k ≡ b → cond b (Some k) (find p ks) ≡ Some e → ((e == k || list_any (λ x. e == x) ks) ≡ true) × (p e ≡ true)) [
  | true ↦ λ passes found. let same : k ≡ e = cc in
      (ap (λ (b : Bool). b || list_any (λ x. e == x) ks) (eq-eqb e k (sym same)), ap p (sym same) ∙ passes)
  | false ↦ λ fails found. let w = find_found p ks e found in (either (e == k) _ w.0, w.1)
] refl h
  where
    either : (b c : Bool) → c ≡ true → (b || c) ≡ true
    either true c h = refl
    either false c h = h

-- searches agree where the same keys pass, and no two of them
pub find_agrees : (p p' : ℕ → Bool) (keys keys' : List ℕ) →
    ((k : ℕ) → list_any (λ x. k == x) keys ≡ true → p k ≡ true → (list_any (λ x. k == x) keys' ≡ true) × (p' k ≡ true)) →
    ((k : ℕ) → list_any (λ x. k == x) keys' ≡ true → p' k ≡ true → (list_any (λ x. k == x) keys ≡ true) × (p k ≡ true)) →
    ((b c : ℕ) → list_any (λ x. b == x) keys ≡ true → list_any (λ x. c == x) keys ≡ true → p b ≡ true → p c ≡ true → b ≡ c) →
    find p' keys' ≡ find p keys
find_agrees p p' keys keys' to back one = by_search (find p keys) refl
  where
    fails : find p keys ≡ None → (k : ℕ) → list_any (λ x. k == x) keys' ≡ true → p' k ≡ false
    fails none k there = elim (p' k) as (λ b. p' k ≡ b → b ≡ false) [
      | true ↦ λ passes. let w = back k there passes in absurd (false≢true (sym (find_fails p keys k none w.0) ∙ w.1))
      | false ↦ λ e. refl
    ] refl

    by_other : (k : ℕ) → find p keys ≡ Some k → (o : Option ℕ) → find p' keys' ≡ o → o ≡ Some k
    by_other k found None none = let w = find_found p keys k found in let v = to k w.0 w.1 in absurd (false≢true (sym (find_fails p' keys' k none v.0) ∙ v.1))
    by_other k found (Some q) other = let w = find_found p keys k found in let u = find_found p' keys' q other in let v = back q u.0 u.1 in ap Some (one q k v.0 w.0 v.1 w.1)

    by_search : (o : Option ℕ) → find p keys ≡ o → find p' keys' ≡ o
    by_search None none = find_nothing p' keys' (fails none)
    by_search (Some k) found = by_other k found (find p' keys') refl

-- tables agree where their keys and their values do
pub table_agrees : {X : Type 0} (keys keys' : List ℕ) (f g : ℕ → X) → ((q : ℕ) → list_any (λ k. q == k) keys' ≡ list_any (λ k. q == k) keys) →
    ((q : ℕ) → list_any (λ k. q == k) keys ≡ true → g q ≡ f q) → table keys' g ≡ table keys f
table_agrees {X} keys keys' f g same values = same_nat_map _ _ (λ q.
    get_table keys' g q ∙ ap (λ (b : Bool). cond b (Some (g q)) None) (same q) ∙ at q (list_any (λ k. q == k) keys) (values q) ∙ sym (get_table keys f q))
  where
    at : (q : ℕ) (b : Bool) → (b ≡ true → g q ≡ f q) → cond b (Some (g q)) None ≡ cond b (Some (f q)) None
    at q true h = ap Some (h refl)
    at q false h = refl

-- where one passes, the tally is not zero
pub some_tally : {X : Type 0} (p : X → Bool) (xs : List X) → list_any p xs ≡ true → 1 ≤ tally p xs
some_tally p xs h = elim (cases_lt 0 (tally p xs)) [
  | inl lt ↦ omega arith
  | inr le ↦ absurd (false≢true (sym (zero_none p xs (omega arith)) ∙ h))
]
