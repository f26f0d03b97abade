-- What the row of a thread says that it sends is what it sends in the waiting list of the row's endpoint.
use Rattle.std.proofs.Common.{◌≡◌, ℕ, ◌==◌, Bool, true, false, cond, List, [], ◌∷◌, find, Option, None, Some, option_map, option_and_then, refl, sym, ap, ◌∙◌, inl, inr, eq-eqb}
use Rattle.std.specs.Option.{option_or}
use Rattle.std.proofs.lemmas.Bool.Decides.{eqb_tells}
use Rattle.ipc_core.specs.declared.waiter.Waiter.{Waiter}
use Rattle.ipc_core.specs.declared.waiter.Waiter.TheVariants.{Sender, Receiver}
use Rattle.ipc_core.specs.declared.waiter.Offer.{Offer}
use Rattle.ipc_core.specs.declared.row.WaitRow.{WaitRow}
use Rattle.ipc_core.specs.Waits.{role_at}
use Rattle.ipc_core.specs.Offers.{offer_by, offer_in, offer_as, offer_of}
use Rattle.ipc_core.specs.Representation.Rows.{row_thread, row_role, is_of, waiting_at, waits_of}
use Rattle.ipc_core.specs.Evidence.RowsAgree.{with_first}

-- the first row of a thread that sends is also the first of that thread in the waiting list
sender_found : (rows : List WaitRow) (t : ℕ) (r : WaitRow) (o : Offer) → find (is_of t) rows ≡ Some r → offer_by r.waiter ≡ Some o →
    offer_in t (waiting_at rows r.endpoint) ≡ Some o
sender_found [] t r o is sends = cc
sender_found (x ∷ rows) t r o is sends = elim (eqb_tells (row_thread x) t) [
  | inl w ↦
      let same : x ≡ r = (let e : Some x ≡ Some r = sym (ap (λ b. cond b (Some x) (find (is_of t) rows)) w.0) ∙ is in let d : x ≡ r = cc in d) in
      ap (λ b. offer_in t (with_first r.endpoint x rows b)) (eq-eqb x.endpoint r.endpoint (ap (λ (y : WaitRow). y.endpoint) same))
      ∙ ap (λ b. option_or (cond b (offer_by x.waiter) None) (offer_in t (waiting_at rows r.endpoint))) w.0
      ∙ ap (λ y. option_or y (offer_in t (waiting_at rows r.endpoint))) (ap (λ (y : WaitRow). offer_by y.waiter) same ∙ sends)
  | inr w ↦
      either (x.endpoint == r.endpoint) w.0 (sender_found rows t r o (sym (ap (λ b. cond b (Some x) (find (is_of t) rows)) w.0) ∙ is) sends)
]
  where
    either : (b : Bool) → (row_thread x == t) ≡ false → offer_in t (waiting_at rows r.endpoint) ≡ Some o →
        offer_in t (with_first r.endpoint x rows b) ≡ Some o
    either false other h = h
    either true other h = ap (λ c. option_or (cond c (offer_by x.waiter) None) (offer_in t (waiting_at rows r.endpoint))) other ∙ h

pub rows_offer : (rows : List WaitRow) (t : ℕ) →
    option_and_then (λ (row : WaitRow). offer_by row.waiter) (find (is_of t) rows) ≡ offer_of (waits_of rows) t
rows_offer rows t = by (find (is_of t) rows) refl
  where
    of_waiter : (r : WaitRow) → find (is_of t) rows ≡ Some r → (x : Waiter) → r.waiter ≡ x →
        offer_by x ≡ offer_as (Some (role_at r.endpoint x)) t (waits_of rows)
    of_waiter r is (Sender thread badge message) same = sym (sender_found rows t r _ is (ap offer_by same))
    of_waiter r is (Receiver thread) same = refl

    by : (f : Option WaitRow) → find (is_of t) rows ≡ f →
        option_and_then (λ (row : WaitRow). offer_by row.waiter) f ≡ offer_as (option_map row_role f) t (waits_of rows)
    by None is = refl
    by (Some r) is = of_waiter r is r.waiter refl
