-- Taking out the first row of an endpoint, and adding a row at the end: who waits on each endpoint.
use Rattle.std.proofs.Common.{◌≡◌, ◌≢◌, ℕ, suc, zero, ◌+◌, ◌<◌, ◌≤◌, Bool, true, false, cond, List, [], ◌∷◌, ◌++◌, map, filter, length, get_or, remove, None, Some, position, not, inl, inr, refl, sym, ap, ◌∙◌, arith, eq-eqb}
use Rattle.std.proofs.lemmas.Bool.{ne_eqb, eqb-true}
use Rattle.std.proofs.lemmas.Bool.Decides.{leb_tells}
use Rattle.std.proofs.lemmas.List.{map-append, append-nil}
use Rattle.std.proofs.lemmas.List.Elements.{filter-append}
use Rattle.std.proofs.lemmas.List.Quantifiers.{position-Some}
use Rattle.std.specs.List.{prefix_len, position_or_len}
use Rattle.ipc_core.specs.declared.row.WaitRow.{WaitRow}
use Rattle.ipc_core.specs.Representation.Rows.{is_at, waiting_at}

module _ {X : Type 0} (p : X → Bool) where
  filter_first : (xs : List X) (i : ℕ) (d : X) → i < length xs → p (get_or xs i d) ≡ true → ((k : ℕ) → k < i → p (get_or xs k d) ≡ false) → filter p xs ≡ get_or xs i d ∷ filter p (remove xs i)
  filter_first [] i d lt here before = absurd (omega arith)
  filter_first (x ∷ xs) zero d lt here before = ap (λ b. cond b (x ∷ filter p xs) (filter p xs)) here
  filter_first (x ∷ xs) (suc i) d lt here before =
      let skip : p x ≡ false = before 0 (omega arith) in
      ap (λ b. cond b (x ∷ filter p xs) (filter p xs)) skip
      ∙ filter_first xs i d (omega arith) here (λ k le. before (suc k) (omega arith))
      ∙ ap (λ rest. get_or xs i d ∷ rest) (sym (ap (λ b. cond b (x ∷ filter p (remove xs i)) (filter p (remove xs i))) skip))

  filter_without : (xs : List X) (i : ℕ) (d : X) → p (get_or xs i d) ≡ false → filter p (remove xs i) ≡ filter p xs
  filter_without [] zero d here = refl
  filter_without [] (suc i) d here = refl
  filter_without (x ∷ xs) zero d here = sym (ap (λ b. cond b (x ∷ filter p xs) (filter p xs)) here)
  filter_without (x ∷ xs) (suc i) d here = ap (λ rest. cond (p x) (x ∷ rest) rest) (filter_without xs i d here)

  none_from : (xs : List X) → length xs ≤ prefix_len (λ x. not (p x)) xs → filter p xs ≡ []
  none_from [] h = refl
  none_from (x ∷ xs) h =
      elim (p x) as (λ b. length xs + 1 ≤ cond (not b) (1 + prefix_len (λ x. not (p x)) xs) 0 → cond b (x ∷ filter p xs) (filter p xs) ≡ []) [
        | true ↦ λ le. absurd (omega arith)
        | false ↦ λ le. none_from xs (omega arith)
      ] (omega arith)

  filter_none : (xs : List X) → position p xs ≡ None → filter p xs ≡ []
  filter_none xs e = elim (leb_tells (suc (position_or_len p xs)) (length xs)) [
    | inl w ↦ cc (sym (ap (λ b. cond b (Some (position_or_len p xs)) None) w.0) ∙ e)
    | inr w ↦ none_from xs (omega arith)
  ]

-- the row at the first place of an endpoint is the first of those that wait there
pub first_waits : (rows : List WaitRow) (e i : ℕ) (d : WaitRow) → position (is_at e) rows ≡ Some i → waiting_at rows e ≡ (get_or rows i d).waiter ∷ waiting_at (remove rows i) e
first_waits rows e i d found =
    let at = position-Some (is_at e) rows i d found in
    ap (map (λ (row : WaitRow). row.waiter)) (filter_first (is_at e) rows i d at.0 at.1 at.2)

pub nobody_waits : (rows : List WaitRow) (e : ℕ) → position (is_at e) rows ≡ None → waiting_at rows e ≡ []
nobody_waits rows e none = ap (map (λ (row : WaitRow). row.waiter)) (filter_none (is_at e) rows none)

pub others_wait : (rows : List WaitRow) (e i q : ℕ) (d : WaitRow) → position (is_at e) rows ≡ Some i → q ≢ e → waiting_at (remove rows i) q ≡ waiting_at rows q
others_wait rows e i q d found ne =
    let at = position-Some (is_at e) rows i d found in
    let here : (get_or rows i d).endpoint ≡ e = eqb-true _ _ at.1 in
    ap (map (λ (row : WaitRow). row.waiter)) (filter_without (is_at q) rows i d (ne_eqb _ _ (λ same. ne (sym same ∙ here))))

-- one more row
waiting_push : (rows : List WaitRow) (w : WaitRow) (q : ℕ) → waiting_at (rows ++ w ∷ []) q ≡ waiting_at rows q ++ map (λ (row : WaitRow). row.waiter) (filter (is_at q) (w ∷ []))
waiting_push rows w q = ap (map (λ (row : WaitRow). row.waiter)) (filter-append (is_at q) rows (w ∷ [])) ∙ map-append (λ (row : WaitRow). row.waiter) (filter (is_at q) rows) (filter (is_at q) (w ∷ []))

pub one_more_waits : (rows : List WaitRow) (w : WaitRow) → waiting_at (rows ++ w ∷ []) w.endpoint ≡ waiting_at rows w.endpoint ++ w.waiter ∷ []
one_more_waits rows w = waiting_push rows w w.endpoint ∙ ap (λ (b : Bool). waiting_at rows w.endpoint ++ map (λ (row : WaitRow). row.waiter) (cond b (w ∷ []) [])) (eq-eqb w.endpoint w.endpoint refl)

pub others_wait_still : (rows : List WaitRow) (w : WaitRow) (q : ℕ) → q ≢ w.endpoint → waiting_at (rows ++ w ∷ []) q ≡ waiting_at rows q
others_wait_still rows w q ne = waiting_push rows w q ∙ ap (λ (b : Bool). waiting_at rows q ++ map (λ (row : WaitRow). row.waiter) (cond b (w ∷ []) [])) (ne_eqb w.endpoint q (λ same. ne (sym same))) ∙ append-nil (waiting_at rows q)
