-- The row behind that of a thread, on the same endpoint, is that of the thread that waits behind it.
use Rattle.std.proofs.Common.{◌≡◌, ◌≢◌, ℕ, zero, suc, ◌+◌, ◌==◌, Bool, true, false, cond, List, [], ◌∷◌, Option, None, Some, option_map, slice_get, find, inl, inr, refl, sym, ap, subst, ◌∙◌, arith}
use Rattle.std.specs.List.{AllByRecursion as Each}
use Rattle.std.proofs.lemmas.Bool.{eqb-true}
use Rattle.std.proofs.lemmas.Bool.Decides.{eqb_tells}
use Rattle.ipc_core.specs.declared.row.WaitRow.{WaitRow}
use Rattle.ipc_core.specs.Waits.{thread_of, IsNextBehind}
use Rattle.ipc_core.specs.Representation.Rows.{row_thread, row_role, is_at, is_of, waiting_at, waits_of, next_by, AreDistinct}
use Rattle.ipc_core.specs.Evidence.RowsAgree.{Differ, differ, with_first}

-- who waits at a place, of rows alone
abbrev thread_at : List WaitRow → ℕ → ℕ → Option ℕ
thread_at rows e place = option_map thread_of (slice_get (waiting_at rows e) place)

-- the same of one row and others, given whether the row is on the endpoint
abbrev thread_with : ℕ → WaitRow → List WaitRow → Bool → ℕ → Option ℕ
thread_with e r rows here place = option_map thread_of (slice_get (with_first e r rows here) place)

first_found : (rows : List WaitRow) (e : ℕ) → option_map row_thread (find (is_at e) rows) ≡ thread_at rows e 0
first_found [] e = refl
first_found (r ∷ rows) e = either (r.endpoint == e) (first_found rows e)
  where
    either : (b : Bool) → option_map row_thread (find (is_at e) rows) ≡ thread_at rows e 0 →
        option_map row_thread (cond b (Some r) (find (is_at e) rows)) ≡ thread_with e r rows b 0
    either true h = refl
    either false h = h

-- a thread that no row is of waits nowhere
not_there : (rows : List WaitRow) (t e place : ℕ) → Each (λ x. row_thread x ≢ t) rows → thread_at rows e place ≡ Some t → ⊥
not_there [] t e place each is = cc
not_there (r ∷ rows) t e place each is = either (r.endpoint == e) place (λ k. not_there rows t e k each.1) is
  where
    either : (b : Bool) (k : ℕ) → ((j : ℕ) → thread_at rows e j ≡ Some t → ⊥) → thread_with e r rows b k ≡ Some t → ⊥
    either true zero rest h = each.0 (let d : row_thread r ≡ t = cc in d)
    either true (suc k) rest h = rest k h
    either false k rest h = rest k h

behind : (rows : List WaitRow) (t e place : ℕ) → Differ rows → thread_at rows e place ≡ Some t → next_by t rows ≡ thread_at rows e (suc place)
behind [] t e place d is = cc
behind (r ∷ rows) t e place d is = elim (eqb_tells (row_thread r) t) [
  | inl w ↦
      let lacks : Each (λ x. row_thread x ≢ t) rows = (let P : ℕ → Type 0 = λ n. Each (λ x. row_thread x ≢ n) rows in subst P w.1 d.0) in
      ap (λ b. cond b (option_map row_thread (find (is_at r.endpoint) rows)) (next_by t rows)) w.0
      ∙ here lacks (r.endpoint == e) (eqb-true r.endpoint e) place is
  | inr w ↦
      ap (λ b. cond b (option_map row_thread (find (is_at r.endpoint) rows)) (next_by t rows)) w.0
      ∙ there w.1 (r.endpoint == e) place (λ k. behind rows t e k d.1) is
]
  where
    here : Each (λ x. row_thread x ≢ t) rows → (b : Bool) → (b ≡ true → r.endpoint ≡ e) → (k : ℕ) → thread_with e r rows b k ≡ Some t →
        option_map row_thread (find (is_at r.endpoint) rows) ≡ thread_with e r rows b (suc k)
    here lacks true same zero h = ap (λ n. option_map row_thread (find (is_at n) rows)) (same refl) ∙ first_found rows e
    here lacks true same (suc k) h = absurd (not_there rows t e k lacks h)
    here lacks false same k h = absurd (not_there rows t e k lacks h)

    there : row_thread r ≢ t → (b : Bool) (k : ℕ) → ((j : ℕ) → thread_at rows e j ≡ Some t → next_by t rows ≡ thread_at rows e (suc j)) →
        thread_with e r rows b k ≡ Some t → next_by t rows ≡ thread_with e r rows b (suc k)
    there ne true zero ih h = absurd (ne (let q : row_thread r ≡ t = cc in q))
    there ne true (suc k) ih h = ih k h
    there ne false k ih h = ih k h

pub rows_behind : (rows : List WaitRow) (t : ℕ) → AreDistinct rows → IsNextBehind (waits_of rows) t (next_by t rows)
rows_behind rows t distinct = λ e place is.
    let more : suc place ≡ place + 1 = omega arith in
    behind rows t e place (differ rows distinct) is ∙ ap (thread_at rows e) more

pub nobody_behind : (rows : List WaitRow) (t : ℕ) → (waits_of rows).role t ≡ None → next_by t rows ≡ None
nobody_behind [] t is = refl
nobody_behind (r ∷ rows) t is = elim (eqb_tells (row_thread r) t) [
  | inl w ↦ absurd (let e : Some (row_role r) ≡ None = sym (ap (λ b. option_map row_role (cond b (Some r) (find (is_of t) rows))) w.0) ∙ is in cc)
  | inr w ↦
      ap (λ b. cond b (option_map row_thread (find (is_at r.endpoint) rows)) (next_by t rows)) w.0
      ∙ nobody_behind rows t (sym (ap (λ b. option_map row_role (cond b (Some r) (find (is_of t) rows))) w.0) ∙ is)
]
