-- Rows of distinct threads: the roles and the waiting lists that they stand for say the same.
use Rattle.std.proofs.Common.{◌≡◌, ◌≢◌, ℕ, suc, ◌<◌, ◌==◌, ◌||◌, Bool, true, false, cond, List, [], ◌∷◌, map, filter, length, get_or, Some, option_map, find, inl, inr, refl, sym, ap, subst, ◌∙◌, arith, eq-eqb}
use Rattle.std.specs.List.{AllByRecursion as Each, list_any}
use Rattle.std.proofs.lemmas.Bool.{ne_eqb}
use Rattle.std.proofs.lemmas.Bool.Decides.{eqb_tells}
use Rattle.cap_core.specs.Distinct.{Lacks, IsApart}
use Rattle.ipc_core.specs.declared.waiter.Waiter.{Waiter}
use Rattle.ipc_core.specs.declared.waiter.Waiter.TheVariants.{Sender, Receiver}
use Rattle.ipc_core.specs.declared.waiter.Role.{Role}
use Rattle.ipc_core.specs.declared.row.WaitRow.{WaitRow}
use Rattle.ipc_core.specs.Waits.{thread_of, role_at, endpoint_of}
use Rattle.ipc_core.specs.Cancelled.{is_thread}
use Rattle.ipc_core.specs.Agreement.{AreAlike, AreRolesAndQueues}
use Rattle.ipc_core.specs.Representation.Rows.{row_thread, row_role, is_at, is_of, waiting_at, waits_of, AreDistinct}

each_at : (P : WaitRow → Type 0) (rows : List WaitRow) → ((k : ℕ) (d : WaitRow) → k < length rows → P (get_or rows k d)) → Each P rows
each_at P [] all = tt
each_at P (r ∷ rows) all = (all 0 r (omega arith), each_at P rows (λ k d less. all (suc k) d (omega arith)))

-- no later row is of the first row's thread, and so on
abbrev pub Differ : List WaitRow → Type 0
Differ [] = Unit {0}
Differ (r ∷ rows) = Each (λ x. row_thread x ≢ row_thread r) rows × Differ rows

pub differ : (rows : List WaitRow) → AreDistinct rows → Differ rows
differ [] distinct = tt
differ (r ∷ rows) distinct = (
  each_at (λ x. row_thread x ≢ row_thread r) rows (λ k d less same. distinct 0 (suc k) d (omega arith) (omega arith) (sym same)),
  differ rows (λ i j d less within. distinct (suc i) (suc j) d (omega arith) (omega arith)),
)

each_both : (P Q R : WaitRow → Type 0) → ((x : WaitRow) → P x → Q x → R x) → (rows : List WaitRow) → Each P rows → Each Q rows → Each R rows
each_both P Q R f [] p q = tt
each_both P Q R f (x ∷ rows) p q = (f x p.0 q.0, each_both P Q R f rows p.1 q.1)

-- each row is the one that is found by its thread
found : (rows : List WaitRow) → Differ rows → Each (λ x. find (is_of (row_thread x)) rows ≡ Some x) rows
found [] differ = tt
found (r ∷ rows) differ = (
  ap (λ b. cond b (Some r) (find (is_of (row_thread r)) rows)) (eq-eqb (row_thread r) (row_thread r) refl),
  each_both (λ x. row_thread x ≢ row_thread r) (λ x. find (is_of (row_thread x)) rows ≡ Some x) (λ x. find (is_of (row_thread x)) (r ∷ rows) ≡ Some x)
      (λ x other is. ap (λ b. cond b (Some r) (find (is_of (row_thread x)) rows)) (ne_eqb (row_thread r) (row_thread x) (λ same. other (sym same))) ∙ is)
      rows differ.0 (found rows differ.1),
)

-- and so are those on an endpoint
queued_from : (all : List WaitRow) (e : ℕ) (rows : List WaitRow) → Each (λ x. find (is_of (row_thread x)) all ≡ Some x) rows →
    Each (λ x. (waits_of all).role (thread_of x) ≡ Some (role_at e x)) (waiting_at rows e)
queued_from all e [] each = tt
queued_from all e (r ∷ rows) each =
    elim (eqb_tells r.endpoint e) [
      | inl w ↦ subst (Each P) (sym (ap kept w.0)) ((ap (option_map row_role) each.0 ∙ ap (λ n. Some (role_at n r.waiter)) w.1, queued_from all e rows each.1))
      | inr w ↦ subst (Each P) (sym (ap kept w.0)) (queued_from all e rows each.1)
    ]
  where
    P : Waiter → Type 0
    P x = (waits_of all).role (thread_of x) ≡ Some (role_at e x)

    kept : Bool → List Waiter
    kept b = map (λ (row : WaitRow). row.waiter) (cond b (r ∷ filter (is_at e) rows) (filter (is_at e) rows))

endpoint_at : (e : ℕ) (x : Waiter) → endpoint_of (role_at e x) ≡ e
endpoint_at e (Sender thread badge message) = refl
endpoint_at e (Receiver thread) = refl

or_true : (a b : Bool) → b ≡ true → (a || b) ≡ true
or_true true b h = refl
or_true false b h = h

-- a thread that has a row is in the waiting list of the row's endpoint
in_queue : (rows : List WaitRow) (t : ℕ) (r : Role) → (waits_of rows).role t ≡ Some r → list_any (is_thread t) (waiting_at rows (endpoint_of r)) ≡ true
in_queue [] t r is = cc
in_queue (x ∷ rows) t r is = elim (eqb_tells (row_thread x) t) [
  | inl w ↦
      let role : row_role x ≡ r = (let e : Some (row_role x) ≡ Some r = sym (ap (λ b. option_map row_role (cond b (Some x) (find (is_of t) rows))) w.0) ∙ is in let d : row_role x ≡ r = cc in d) in
      let here : x.endpoint ≡ endpoint_of r = sym (endpoint_at x.endpoint x.waiter) ∙ ap endpoint_of role in
      ap (λ b. any b) (eq-eqb x.endpoint (endpoint_of r) here) ∙ ap (λ b. b || list_any (is_thread t) (waiting_at rows (endpoint_of r))) w.0
  | inr w ↦
      let rest : (waits_of rows).role t ≡ Some r = sym (ap (λ b. option_map row_role (cond b (Some x) (find (is_of t) rows))) w.0) ∙ is in
      either (x.endpoint == endpoint_of r) (is_of t x) (in_queue rows t r rest)
]
  where
    any : Bool → Bool
    any b = list_any (is_thread t) (map (λ (row : WaitRow). row.waiter) (cond b (x ∷ filter (is_at (endpoint_of r)) rows) (filter (is_at (endpoint_of r)) rows)))

    either : (b c : Bool) → list_any (is_thread t) (waiting_at rows (endpoint_of r)) ≡ true → any b ≡ true
    either false c h = h
    either true c h = or_true (is_of t x) (list_any (is_thread t) (waiting_at rows (endpoint_of r))) h

-- the waiters of rows, of which the first is on this endpoint or is not
abbrev pub with_first : ℕ → WaitRow → List WaitRow → Bool → List Waiter
with_first e r rows here = map (λ (row : WaitRow). row.waiter) (cond here (r ∷ filter (is_at e) rows) (filter (is_at e) rows))

lacks_at : (e t : ℕ) (rows : List WaitRow) → Each (λ x. row_thread x ≢ t) rows → Lacks t (map thread_of (waiting_at rows e))
lacks_at e t [] each = tt
lacks_at e t (x ∷ rows) each = either (x.endpoint == e) (lacks_at e t rows each.1)
  where
    either : (b : Bool) → Lacks t (map thread_of (waiting_at rows e)) → Lacks t (map thread_of (with_first e x rows b))
    either true h = (each.0, h)
    either false h = h

-- the threads of those on an endpoint differ
apart_at : (e : ℕ) (rows : List WaitRow) → Differ rows → IsApart (map thread_of (waiting_at rows e))
apart_at e [] differ = tt
apart_at e (r ∷ rows) differ = either (r.endpoint == e) (lacks_at e (row_thread r) rows differ.0) (apart_at e rows differ.1)
  where
    either : (b : Bool) → Lacks (row_thread r) (map thread_of (waiting_at rows e)) → IsApart (map thread_of (waiting_at rows e)) →
        IsApart (map thread_of (with_first e r rows b))
    either true k h = (k, h)
    either false k h = h

-- by the rows of waiting threads, roles and queues agree
pub rows_agree : (rows : List WaitRow) → AreDistinct rows → AreAlike (waits_of rows) → AreRolesAndQueues (waits_of rows)
rows_agree rows distinct alike = record {
  queued = λ e. queued_from rows e rows (found rows (differ rows distinct));
  waits = in_queue rows;
  once = λ e. apart_at e rows (differ rows distinct);
  alike = alike;
}
