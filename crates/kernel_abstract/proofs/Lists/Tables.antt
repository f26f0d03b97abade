-- Finite maps with numbers as keys, and tables: a value for each key.
use Rattle.std.proofs.Common.{◌≡◌, ◌≢◌, ℕ, Bool, true, false, cond, ◌==◌, List, [], ◌∷◌, map, Option, None, Some, refl, sym, ap, subst, ◌∙◌, IsSome}
use Rattle.std.proofs.lemmas.Bool.{false≢true}
use Rattle.std.proofs.lemmas.Bool.Decides.{eqb_tells}
use Rattle.std.proofs.Common.{inl, inr}
use Rattle.std.specs.Prelude.{◌||◌}
use Rattle.std.specs.List.{list_any}
use Rattle.std.specs.Ordering.{nat_cmp}
use Rattle.std.specs.Cmp.{nat_cmp_total, unsigned_tied}
use Rattle.std.specs.FinMap.{FinMap, get, insert, from_entries, get-insert, get-empty, same_map, nat_cmp-IsAntisymmetric}
use Rattle.kernel_abstract.specs.Shown.{table}

pub get_after : {X : Type 0} (m : FinMap nat_cmp X) (k : ℕ) (v : X) (q : ℕ) → get (insert m k v) q ≡ cond (q == k) (Some v) (get m q)
get_after m k v q = get-insert nat_cmp_total m k v q ∙ ap (λ b. cond b (Some v) (get m q)) (unsigned_tied q k)

pub same_nat_map : {X : Type 0} (m n : FinMap nat_cmp X) → ((q : ℕ) → get m q ≡ get n q) → m ≡ n
same_nat_map m n h = same_map nat_cmp_total nat_cmp-IsAntisymmetric m n h

-- the first value of a key
abbrev pub at : {X : Type 0} → ℕ → List (ℕ × X) → Option X
at q [] = None
at q (e ∷ es) = cond (q == e.0) (Some e.1) (at q es)

pub get_at : {X : Type 0} (es : List (ℕ × X)) (q : ℕ) → get (from_entries {R = nat_cmp} es) q ≡ at q es
get_at [] q = get-empty nat_cmp q
get_at (e ∷ es) q = get_after (from_entries es) e.0 e.1 q ∙ ap (cond (q == e.0) (Some e.1)) (get_at es q)

-- a table has its value at each of its keys, and nothing else
pub get_table : {X : Type 0} (keys : List ℕ) (f : ℕ → X) (q : ℕ) → get (table keys f) q ≡ cond (list_any (λ k. q == k) keys) (Some (f q)) None
get_table keys f q = get_at (map (λ k. (k, f k)) keys) q ∙ scan keys
  where
    scan : (keys : List ℕ) → at q (map (λ k. (k, f k)) keys) ≡ cond (list_any (λ k. q == k) keys) (Some (f q)) None
    scan [] = refl
    scan (k ∷ keys) = elim (eqb_tells q k) [
      | inl w ↦ ap (λ b. cond b (Some (f k)) (at q (map (λ k. (k, f k)) keys))) w.0 ∙ ap (λ n. Some (f n)) (sym w.1) ∙ sym (ap (λ b. cond (b || list_any (λ k. q == k) keys) (Some (f q)) None) w.0)
      | inr w ↦ ap (λ b. cond b (Some (f k)) (at q (map (λ k. (k, f k)) keys))) w.0 ∙ scan keys ∙ sym (ap (λ b. cond (b || list_any (λ k. q == k) keys) (Some (f q)) None) w.0)
    ]

-- a table that changes at one of its keys
pub table_changed : {X : Type 0} (keys : List ℕ) (f g : ℕ → X) (e : ℕ) → IsSome (get (table keys f) e) → ((q : ℕ) → q ≢ e → g q ≡ f q) → table keys g ≡ insert (table keys f) e (g e)
table_changed keys f g e some others = same_nat_map _ _ (λ q. get_table keys g q ∙ here q ∙ sym (get_after (table keys f) e (g e) q))
  where
    present : (b : Bool) → IsSome (cond b (Some (f e)) None) → b ≡ true
    present true h = refl
    present false h = absurd (false≢true h)

    there : list_any (λ k. e == k) keys ≡ true
    there = present _ (subst IsSome (get_table keys f e) some)

    here : (q : ℕ) → cond (list_any (λ k. q == k) keys) (Some (g q)) None ≡ cond (q == e) (Some (g e)) (get (table keys f) q)
    here q = elim (eqb_tells q e) [
      | inl w ↦ ap (λ n. cond (list_any (λ k. n == k) keys) (Some (g n)) None) w.1 ∙ ap (λ b. cond b (Some (g e)) None) there ∙ sym (ap (λ b. cond b (Some (g e)) (get (table keys f) q)) w.0)
      | inr w ↦ ap (λ x. cond (list_any (λ k. q == k) keys) (Some x) None) (others q w.1) ∙ sym (get_table keys f q) ∙ sym (ap (λ b. cond b (Some (g e)) (get (table keys f) q)) w.0)
    ]
