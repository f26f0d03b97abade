-- Rows that a test names are taken out: who waits then.
use Rattle.std.proofs.Common.{◌≡◌, ◌≢◌, ℕ, suc, ◌<◌, ◌==◌, ◌&&◌, ◌||◌, Bool, true, false, cond, not, List, [], ◌∷◌, map, filter, length, get_or, Option, None, Some, option_map, find, inl, inr, refl, sym, ap, ◌∙◌, arith}
use Rattle.std.specs.List.{list_any}
use Rattle.std.proofs.lemmas.Bool.{ne_eqb, eqb-true}
use Rattle.std.proofs.lemmas.Bool.Decides.{eqb_tells}
use Rattle.cap_core.specs.declared.capability.Badge.{Badge}
use Rattle.ipc_core.specs.declared.waiter.Waiter.{Waiter}
use Rattle.ipc_core.specs.declared.row.WaitRow.{WaitRow}
use Rattle.ipc_core.specs.Representation.Rows.{is_at, row_thread, row_role, is_of, waiting_at, waits_of, AreDistinct}
use Rattle.ipc_core.specs.Waits.{Waits}
use Rattle.ipc_core.specs.Cancelled.{is_thread, is_sender_with, those, others, after_cancel, after_cancel_thread, after_cancel_endpoint}
use Rattle.ipc_core.proofs.RowForm.Served.{changed_from}

-- rows are kept, or waiters are, where the tests agree on what is looked at
module _ {X Y : Type 0} (w : X → Y) (p k : X → Bool) (n : Y → Bool) (agree : (x : X) → p x ≡ true → k x ≡ n (w x)) where
  pub filter_kept : (xs : List X) → map w (filter p (filter k xs)) ≡ filter n (map w (filter p xs))
  filter_kept [] = refl
  filter_kept (x ∷ xs) = step (p x) (k x) refl refl (filter_kept xs)
    where
      step : (b c : Bool) → p x ≡ b → k x ≡ c → map w (filter p (filter k xs)) ≡ filter n (map w (filter p xs)) →
          map w (filter p (cond (k x) (x ∷ filter k xs) (filter k xs))) ≡ filter n (map w (cond (p x) (x ∷ filter p xs) (filter p xs)))
      step true true here there ih =
          let passes : n (w x) ≡ true = sym (agree x here) ∙ there in
          rw (here, there, passes) (rw here (ap (λ rest. w x ∷ rest) ih))
      step true false here there ih =
          let passes : n (w x) ≡ false = sym (agree x here) ∙ there in
          rw (here, there, passes) ih
      step false true here there ih = rw (here, there) (rw here ih)
      step false false here there ih = rw (here, there) ih

all_kept : {X : Type 0} (xs : List X) → filter (λ _. true) xs ≡ xs
all_kept [] = refl
all_kept (x ∷ xs) = ap (λ rest. x ∷ rest) (all_kept xs)

-- what is found among those that a test names, seen through a map
module _ {X Y : Type 0} (w : X → Y) (p : X → Bool) (n q : Y → Bool) where
  pub any_named : (xs : List X) → list_any q (filter n (map w (filter p xs))) ≡ list_any (λ x. q (w x)) (filter (λ x. p x && n (w x)) xs)
  any_named [] = refl
  any_named (x ∷ xs) = step (p x) (n (w x)) refl refl (any_named xs)
    where
      step : (b c : Bool) → p x ≡ b → n (w x) ≡ c → list_any q (filter n (map w (filter p xs))) ≡ list_any (λ x. q (w x)) (filter (λ x. p x && n (w x)) xs) →
          list_any q (filter n (map w (cond (p x) (x ∷ filter p xs) (filter p xs)))) ≡ list_any (λ x. q (w x)) (cond (p x && n (w x)) (x ∷ filter (λ x. p x && n (w x)) xs) (filter (λ x. p x && n (w x)) xs))
      step true true here there ih = rw (here, there) (ap (λ b. q (w x) || b) ih)
      step true false here there ih = rw (here, there) ih
      step false c here there ih = rw here ih

-- a thread's one row is kept, or taken out
no_rows : (rows : List WaitRow) (m : WaitRow → Bool) (t : ℕ) → ((k : ℕ) (d : WaitRow) → k < length rows → row_thread (get_or rows k d) ≢ t) →
    (find (is_of t) (filter (λ r. not (m r)) rows) ≡ None) × (list_any (is_of t) (filter m rows) ≡ false)
no_rows [] m t h = (refl, refl)
no_rows (r ∷ rows) m t h =
    step (m r) (no_rows rows m t (λ k d less. h (suc k) d (omega arith)))
  where
    away : is_of t r ≡ false
    away = ne_eqb _ _ (h 0 r (omega arith))

    step : (b : Bool) → (find (is_of t) (filter (λ r. not (m r)) rows) ≡ None) × (list_any (is_of t) (filter m rows) ≡ false) →
        (find (is_of t) (cond (not b) (r ∷ filter (λ r. not (m r)) rows) (filter (λ r. not (m r)) rows)) ≡ None) × (list_any (is_of t) (cond b (r ∷ filter m rows) (filter m rows)) ≡ false)
    step true ih = (ih.0, ap (λ b. b || list_any (is_of t) (filter m rows)) away ∙ ih.1)
    step false ih = (ap (λ b. cond b (Some r) (find (is_of t) (filter (λ r. not (m r)) rows))) away ∙ ih.0, ih.1)

abbrev FindsKept : WaitRow → List WaitRow → (WaitRow → Bool) → ℕ → Bool → Type 0
FindsKept r rows m t b =
    find (is_of t) (cond (not b) (r ∷ filter (λ r. not (m r)) rows) (filter (λ r. not (m r)) rows)) ≡ cond (list_any (is_of t) (cond b (r ∷ filter m rows) (filter m rows))) None (find (is_of t) (r ∷ rows))

found_kept : (rows : List WaitRow) (m : WaitRow → Bool) (t : ℕ) → AreDistinct rows →
    find (is_of t) (filter (λ r. not (m r)) rows) ≡ cond (list_any (is_of t) (filter m rows)) None (find (is_of t) rows)
found_kept [] m t distinct = refl
found_kept (r ∷ rows) m t distinct =
    elim (eqb_tells (row_thread r) t) [
      | inl w ↦ here w.0 (m r) (no_rows rows m t (λ k d less same. distinct 0 (suc k) d (omega arith) (omega arith) (w.1 ∙ sym same)))
      | inr w ↦ away w.0 (m r) (found_kept rows m t (λ i j d less within. distinct (suc i) (suc j) d (omega arith) (omega arith)))
    ]
  where
    here : is_of t r ≡ true → (b : Bool) → (find (is_of t) (filter (λ r. not (m r)) rows) ≡ None) × (list_any (is_of t) (filter m rows) ≡ false) → FindsKept r rows m t b
    here is true none = none.0 ∙ sym (ap (λ b. cond (b || list_any (is_of t) (filter m rows)) None (find (is_of t) (r ∷ rows))) is)
    here is false none =
        ap (λ b. cond b (Some r) (find (is_of t) (filter (λ r. not (m r)) rows))) is
        ∙ sym (ap (λ b. cond b (Some r) (find (is_of t) rows)) is)
        ∙ sym (ap (λ b. cond b None (find (is_of t) (r ∷ rows))) none.1)

    away : is_of t r ≡ false → (b : Bool) → find (is_of t) (filter (λ r. not (m r)) rows) ≡ cond (list_any (is_of t) (filter m rows)) None (find (is_of t) rows) → FindsKept r rows m t b
    away is true ih =
        ih
        ∙ sym (ap (λ b. cond (b || list_any (is_of t) (filter m rows)) None (find (is_of t) (r ∷ rows))) is
        ∙ ap (λ o. cond (list_any (is_of t) (filter m rows)) None o) (ap (λ b. cond b (Some r) (find (is_of t) rows)) is))
    away is false ih =
        ap (λ b. cond b (Some r) (find (is_of t) (filter (λ r. not (m r)) rows))) is
        ∙ ih
        ∙ sym (ap (λ o. cond (list_any (is_of t) (filter m rows)) None o) (ap (λ b. cond b (Some r) (find (is_of t) rows)) is))

map_cond : (b : Bool) (o : Option WaitRow) → option_map row_role (cond b None o) ≡ cond b None (option_map row_role o)
map_cond true o = refl
map_cond false o = refl

-- those of an endpoint that a test names are taken out
abbrev pub named_at : ℕ → (Waiter → Bool) → WaitRow → Bool
named_at e names row = is_at e row && names row.waiter

pub rows_cancelled : (rows : List WaitRow) (e : ℕ) (names : Waiter → Bool) → AreDistinct rows →
    waits_of (filter (λ row. not (named_at e names row)) rows) ≡ after_cancel e names (waits_of rows)
rows_cancelled rows e names distinct =
    let w : WaitRow → Waiter = λ row. row.waiter in
    let keeps : WaitRow → Bool = λ row. not (named_at e names row) in
    let here : waiting_at (filter keeps rows) e ≡ others names (waiting_at rows e) =
    filter_kept w (is_at e) keeps (λ v. not (names v)) (λ row at. ap (λ b. not (b && names row.waiter)) at) rows in
    let elsewhere : (q : ℕ) → q ≢ e → waiting_at (filter keeps rows) q ≡ waiting_at rows q =
    λ q ne. filter_kept w (is_at q) keeps (λ _. true) (λ row at. ap (λ b. not (b && names row.waiter)) (ne_eqb row.endpoint e (λ same. ne (sym (eqb-true _ _ at) ∙ same)))) rows ∙ all_kept (waiting_at rows q) in
    let queues = changed_from (waiting_at rows) (waiting_at (filter keeps rows)) e (others names (waiting_at rows e)) here elsewhere in
    let roles : (t : ℕ) → option_map row_role (find (is_of t) (filter keeps rows)) ≡ cond (list_any (is_thread t) (those names (waiting_at rows e))) None ((waits_of rows).role t) =
    λ t. ap (option_map row_role) (found_kept rows (named_at e names) t distinct)
    ∙ map_cond (list_any (is_of t) (filter (named_at e names) rows)) (find (is_of t) rows)
    ∙ ap (λ b. cond b None ((waits_of rows).role t)) (sym (any_named w (is_at e) names (is_thread t) rows)) in
    λ k. record { queue = λ q. queues q k; role = λ t. roles t k }

pub all_leave : (e : ℕ) (w : Waits) → after_cancel e (λ _. true) w ≡ after_cancel_endpoint e w
all_leave e w =
    let none : (list : List Waiter) → others (λ _. true) list ≡ [] = nobody in
    λ k. record {
      queue = λ q. cond (q == e) (none (w.queue e) k) (w.queue q);
      role = λ t. cond (list_any (is_thread t) (all_kept (w.queue e) k)) None (w.role t);
    }
  where
    nobody : (list : List Waiter) → others (λ _. true) list ≡ []
    nobody [] = refl
    nobody (v ∷ list) = nobody list

-- a thread's row is taken out
pub row_cancelled : (rows : List WaitRow) (thread : ℕ) →
    waits_of (filter (λ row. not (is_of thread row)) rows) ≡ after_cancel_thread thread (waits_of rows)
row_cancelled rows thread =
    let keeps : WaitRow → Bool = λ row. not (is_of thread row) in
    let queues : (e : ℕ) → waiting_at (filter keeps rows) e ≡ others (is_thread thread) (waiting_at rows e) =
    λ e. filter_kept (λ (row : WaitRow). row.waiter) (is_at e) keeps (λ v. not (is_thread thread v)) (λ row at. refl) rows in
    let roles = changed_from (waits_of rows).role (waits_of (filter keeps rows)).role thread None
    (ap (option_map row_role) (gone rows)) (λ t ne. ap (option_map row_role) (still t ne rows)) in
    λ k. record { queue = λ e. queues e k; role = λ t. roles t k }
  where
    gone : (xs : List WaitRow) → find (is_of thread) (filter (λ row. not (is_of thread row)) xs) ≡ None
    gone [] = refl
    gone (r ∷ xs) = step (is_of thread r) refl (gone xs)
      where
        step : (b : Bool) → is_of thread r ≡ b → find (is_of thread) (filter (λ row. not (is_of thread row)) xs) ≡ None →
            find (is_of thread) (cond (not (is_of thread r)) (r ∷ filter (λ row. not (is_of thread row)) xs) (filter (λ row. not (is_of thread row)) xs)) ≡ None
        step true is ih = rw is ih
        step false is ih = rw is (rw is ih)

    still : (t : ℕ) → t ≢ thread → (xs : List WaitRow) → find (is_of t) (filter (λ row. not (is_of thread row)) xs) ≡ find (is_of t) xs
    still t ne [] = refl
    still t ne (r ∷ xs) = step (is_of thread r) refl (still t ne xs)
      where
        step : (b : Bool) → is_of thread r ≡ b → find (is_of t) (filter (λ row. not (is_of thread row)) xs) ≡ find (is_of t) xs →
            find (is_of t) (cond (not (is_of thread r)) (r ∷ filter (λ row. not (is_of thread row)) xs) (filter (λ row. not (is_of thread row)) xs)) ≡ find (is_of t) (r ∷ xs)
        step true is ih =
            let other : is_of t r ≡ false = ne_eqb _ _ (λ same. ne (sym same ∙ eqb-true _ _ is)) in
            rw (is, other) ih
        step false is ih = rw is (ap (λ o. cond (is_of t r) (Some r) o) ih)

-- the tests of the calls, in these words
pub badge_tests : (e : ℕ) (badge : Badge) (rows : List WaitRow) →
    waits_of (filter (λ row. not (is_at e row) || not (is_sender_with badge row.waiter)) rows) ≡ waits_of (filter (λ row. not (named_at e (is_sender_with badge) row)) rows)
badge_tests e badge rows = ap (λ (test : WaitRow → Bool). waits_of (filter test rows)) (λ k row. both (is_at e row) (is_sender_with badge row.waiter) k)
  where
    both : (a b : Bool) → (not a || not b) ≡ not (a && b)
    both true b = refl
    both false b = refl

pub endpoint_tests : (e : ℕ) (rows : List WaitRow) →
    waits_of (filter (λ row. not (is_at e row)) rows) ≡ waits_of (filter (λ row. not (named_at e (λ _. true) row)) rows)
endpoint_tests e rows = ap (λ (test : WaitRow → Bool). waits_of (filter test rows)) (λ k row. also (is_at e row) k)
  where
    also : (a : Bool) → not a ≡ not (a && true)
    also true = refl
    also false = refl
