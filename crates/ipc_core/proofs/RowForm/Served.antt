-- Taking out the first row of an endpoint serves a thread, and adding a row queues one.
use Rattle.std.proofs.Common.{◌≡◌, ◌≢◌, ℕ, suc, zero, ◌<◌, ◌==◌, Bool, true, false, cond, List, [], ◌∷◌, ◌++◌, length, get_or, remove, drop, Option, None, Some, option_map, find, All, position, inl, inr, refl, sym, ap, ◌∙◌, arith, eq-eqb}
use Rattle.std.specs.Option.{option_or}
use Rattle.std.proofs.lemmas.Bool.{ne_eqb}
use Rattle.std.proofs.lemmas.Bool.Decides.{eqb_tells}
use Rattle.std.proofs.lemmas.List.Folds.{find-append}
use Rattle.std.proofs.lemmas.List.Quantifiers.{position-Some, all_pairs_push}
use Rattle.ipc_core.specs.declared.waiter.Waiter.{Waiter}
use Rattle.ipc_core.specs.declared.row.WaitRow.{WaitRow}
use Rattle.ipc_core.specs.Representation.Rows.{is_at, row_thread, row_role, is_of, waiting_at, waits_of, AreDistinct}
use Rattle.ipc_core.specs.Waits.{changed, served, queued, thread_of}
use Rattle.ipc_core.proofs.RowForm.Queue.{first_waits, others_wait, one_more_waits, others_wait_still}

-- f, but x at k, from what it is at k and elsewhere
pub changed_from : {X : Type 0} (f g : ℕ → X) (k : ℕ) (x : X) → g k ≡ x → ((q : ℕ) → q ≢ k → g q ≡ f q) → (j : ℕ) → g j ≡ changed f k x j
changed_from f g k x here others j = elim (eqb_tells j k) [
  | inl w ↦ ap g w.1 ∙ here ∙ sym (ap (λ b. cond b x (f j)) w.0)
  | inr w ↦ others j w.1 ∙ sym (ap (λ b. cond b x (f j)) w.0)
]

pub absent : (rows : List WaitRow) (t : ℕ) → ((k : ℕ) (d : WaitRow) → k < length rows → row_thread (get_or rows k d) ≢ t) → find (is_of t) rows ≡ None
absent [] t h = refl
absent (r ∷ rows) t h =
    ap (λ b. cond b (Some r) (find (is_of t) rows)) (ne_eqb _ _ (h 0 r (omega arith)))
    ∙ absent rows t (λ k d lt. h (suc k) d (omega arith))

-- a thread's one row is taken out
found_still : (rows : List WaitRow) (i : ℕ) (d : WaitRow) (t : ℕ) → i < length rows → AreDistinct rows →
    find (is_of t) (remove rows i) ≡ cond (t == row_thread (get_or rows i d)) None (find (is_of t) rows)
found_still [] i d t lt distinct = absurd (omega arith)
found_still (r ∷ rows) zero d t lt distinct = elim (eqb_tells t (row_thread r)) [
  | inl w ↦ absent rows t (λ k d' less same. distinct 0 (suc k) d' (omega arith) (omega arith) (sym w.1 ∙ sym same)) ∙ sym (ap (λ b. cond b None (find (is_of t) (r ∷ rows))) w.0)
  | inr w ↦ sym (ap (λ b. cond b (Some r) (find (is_of t) rows)) (ne_eqb _ _ (λ same. w.1 (sym same)))) ∙ sym (ap (λ b. cond b None (find (is_of t) (r ∷ rows))) w.0)
]
found_still (r ∷ rows) (suc i) d t lt distinct =
    let rest = found_still rows i d t (omega arith) (λ j k d' less within. distinct (suc j) (suc k) d' (omega arith) (omega arith)) in
    elim (eqb_tells (row_thread r) t) [
      | inl w ↦ ap (λ b. cond b (Some r) (find (is_of t) (remove rows i))) w.0
          ∙ sym (ap (λ b. cond b (Some r) (find (is_of t) rows)) w.0)
          ∙ sym (ap (λ b. cond b None (find (is_of t) (r ∷ rows))) (ne_eqb t (row_thread (get_or rows i d)) (λ same. distinct 0 (suc i) d (omega arith) lt (w.1 ∙ same))))
      | inr w ↦ ap (λ b. cond b (Some r) (find (is_of t) (remove rows i))) w.0
          ∙ rest
          ∙ ap (λ o. cond (t == row_thread (get_or rows i d)) None o) (sym (ap (λ b. cond b (Some r) (find (is_of t) rows)) w.0))
    ]

map_cond : (b : Bool) (o : Option WaitRow) → option_map row_role (cond b None o) ≡ cond b None (option_map row_role o)
map_cond true o = refl
map_cond false o = refl

pub waits_served : (rows : List WaitRow) (e i : ℕ) (d : WaitRow) (w : Waiter) (list : List Waiter) → position (is_at e) rows ≡ Some i → AreDistinct rows → waiting_at rows e ≡ w ∷ list →
    waits_of (remove rows i) ≡ served e (thread_of w) (waits_of rows)
waits_served rows e i d w list found distinct is =
    let first = first_waits rows e i d found in
    let itself : (get_or rows i d).waiter ≡ w = cc in
    let at = position-Some (is_at e) rows i d found in
    let queues = changed_from (waiting_at rows) (waiting_at (remove rows i)) e (drop 1 (waiting_at rows e)) (sym (ap (drop 1) first)) (λ q ne. others_wait rows e i q d found ne) in
    let roles : (t : ℕ) → option_map row_role (find (is_of t) (remove rows i)) ≡ changed (waits_of rows).role (thread_of w) None t =
    λ t. ap (option_map row_role) (found_still rows i d t at.0 distinct) ∙ map_cond (t == row_thread (get_or rows i d)) (find (is_of t) rows)
    ∙ ap (λ (v : Waiter). cond (t == thread_of v) None ((waits_of rows).role t)) itself in
    λ k. record { queue = λ q. queues q k; role = λ t. roles t k }

-- a thread that has no role has no row
no_role : (rows : List WaitRow) (t : ℕ) → option_map row_role (find (is_of t) rows) ≡ None → find (is_of t) rows ≡ None
no_role rows t none = elim (find (is_of t) rows) as (λ o. option_map row_role o ≡ None → o ≡ None) [ None ↦ λ h. refl | Some r ↦ λ h. cc ] none

not_head : (rows : List WaitRow) (r : WaitRow) (t : ℕ) → find (is_of t) (r ∷ rows) ≡ None → (row_thread r ≢ t) × (find (is_of t) rows ≡ None)
not_head rows r t none = elim (eqb_tells (row_thread r) t) [
  | inl w ↦ cc (sym (ap (λ b. cond b (Some r) (find (is_of t) rows)) w.0) ∙ none)
  | inr w ↦ (w.1, sym (ap (λ b. cond b (Some r) (find (is_of t) rows)) w.0) ∙ none)
]

no_row : (rows : List WaitRow) (t : ℕ) → find (is_of t) rows ≡ None → (k : ℕ) (d : WaitRow) → k < length rows → row_thread (get_or rows k d) ≢ t
no_row [] t none k d lt same = absurd (omega arith)
no_row (r ∷ rows) t none zero d lt same = (not_head rows r t none).0 same
no_row (r ∷ rows) t none (suc k) d lt same = no_row rows t (not_head rows r t none).1 k d (omega arith) same

pub distinct_push : (rows : List WaitRow) (row : WaitRow) → (waits_of rows).role (row_thread row) ≡ None → AreDistinct rows → AreDistinct (rows ++ row ∷ [])
distinct_push rows row free distinct =
    all_pairs_push (λ a b. row_thread a ≢ row_thread b) rows row distinct (no_row rows (row_thread row) (no_role rows (row_thread row) free))

pub waits_queued : (rows : List WaitRow) (row : WaitRow) → (waits_of rows).role (row_thread row) ≡ None →
    waits_of (rows ++ row ∷ []) ≡ queued row.endpoint (row_thread row) (row_role row) row.waiter (waits_of rows)
waits_queued rows row free =
    let none = no_role rows (row_thread row) free in
    let queues = changed_from (waiting_at rows) (waiting_at (rows ++ row ∷ [])) row.endpoint _ (one_more_waits rows row) (others_wait_still rows row) in
    let found : (t : ℕ) → find (is_of t) (rows ++ row ∷ []) ≡ option_or (find (is_of t) rows) (cond (row_thread row == t) (Some row) None) = λ t. find-append (is_of t) rows (row ∷ []) in
    let here : option_map row_role (find (is_of (row_thread row)) (rows ++ row ∷ [])) ≡ Some (row_role row) =
    ap (option_map row_role) (found (row_thread row) ∙ ap (λ o. option_or o (cond (row_thread row == row_thread row) (Some row) None)) none ∙ ap (λ b. cond b (Some row) None) (eq-eqb (row_thread row) (row_thread row) refl)) in
    let others : (t : ℕ) → t ≢ row_thread row → option_map row_role (find (is_of t) (rows ++ row ∷ [])) ≡ (waits_of rows).role t =
    λ t ne. ap (option_map row_role) (found t ∙ ap (λ b. option_or (find (is_of t) rows) (cond b (Some row) None)) (ne_eqb (row_thread row) t (λ same. ne (sym same))) ∙ or_none (find (is_of t) rows)) in
    let roles = changed_from (waits_of rows).role (waits_of (rows ++ row ∷ [])).role (row_thread row) (Some (row_role row)) here others in
    λ k. record { queue = λ q. queues q k; role = λ t. roles t k }
  where
    or_none : (o : Option WaitRow) → option_or o None ≡ o
    or_none None = refl
    or_none (Some r) = refl

-- what holds of each row holds of each that is left
module _ {X : Type 0} (P : X → Type 0) where
  pub all_left : (xs : List X) (i : ℕ) → All P xs → All P (remove xs i)
  all_left [] zero all k d lt = absurd (omega arith)
  all_left [] (suc i) all k d lt = absurd (omega arith)
  all_left (x ∷ xs) zero all k d lt = all (suc k) d (omega arith)
  all_left (x ∷ xs) (suc i) all zero d lt = all 0 d (omega arith)
  all_left (x ∷ xs) (suc i) all (suc k) d lt = all_left xs i (λ j d' less. all (suc j) d' (omega arith)) k d (omega arith)
