-- What leading past a row, forwards and backwards, leaves as it was.
use Rattle.std.proofs.Common.{◌≡◌, ◌≢◌, ℕ, cond, Option, Some, None, inl, inr, refl, sym, ap, ◌∙◌, eq-eqb}
use Rattle.std.proofs.lemmas.Bool.{ne_eqb}
use Rattle.std.proofs.lemmas.Bool.Decides.{eqb_tells}
use Rattle.ipc_core.specs.declared.tables.QueueRow.{QueueRow}
use Rattle.ipc_core.specs.declared.tables.EndpointRow.{EndpointRow}
use Rattle.ipc_core.specs.Waits.{changed}
use Rattle.ipc_core.specs.Representation.Linked.{Links, with_next, with_previous, led, led_back}

pub changed_here : {X : Type 0} (f : ℕ → X) (k : ℕ) (x : X) → changed f k x k ≡ x
changed_here f k x = ap (λ b. cond b x (f k)) (eq-eqb k k refl)

pub changed_away : {X : Type 0} (f : ℕ → X) (k : ℕ) (x : X) (i : ℕ) → i ≢ k → changed f k x i ≡ f i
changed_away f k x i ne = ap (λ b. cond b x (f i)) (ne_eqb i k ne)

-- what the change at k does not touch
pub changed_keeps : {X Y : Type 0} (h : X → Y) (f : ℕ → X) (k : ℕ) (x : X) → h x ≡ h (f k) → (i : ℕ) → h (changed f k x i) ≡ h (f i)
changed_keeps h f k x same i = elim (eqb_tells i k) [
  | inl w ↦ ap (λ b. h (cond b x (f i))) w.0 ∙ same ∙ ap (λ j. h (f j)) (sym w.1)
  | inr w ↦ ap (λ b. h (cond b x (f i))) w.0
]

module _ (e : ℕ) (x : Option ℕ) (l : Links) where
  pub led-thread_keeps : {Y : Type 0} (p : Option ℕ) (h : QueueRow → Y) → ((row : QueueRow) → h (with_next x row) ≡ h row) → (i : ℕ) → h ((led e p x l).thread i) ≡ h (l.thread i)
  led-thread_keeps None h same i = refl
  led-thread_keeps (Some k) h same i = changed_keeps h l.thread k (with_next x (l.thread k)) (same (l.thread k)) i

  pub led-thread : (p : Option ℕ) (i : ℕ) → (p ≡ Some i → ⊥) → (led e p x l).thread i ≡ l.thread i
  led-thread None i away = refl
  led-thread (Some k) i away = changed_away l.thread k (with_next x (l.thread k)) i (λ same. away (ap Some (sym same)))

  pub led-next : (p : Option ℕ) (k : ℕ) → p ≡ Some k → ((led e p x l).thread k).next ≡ x
  led-next p k is =
      ap (λ o. ((led e o x l).thread k).next) is ∙ ap (λ (row : QueueRow). row.next) (changed_here l.thread k (with_next x (l.thread k)))

  pub led-endpoint : (p : Option ℕ) (q : ℕ) → q ≢ e → (led e p x l).endpoint q ≡ l.endpoint q
  led-endpoint None q ne = changed_away l.endpoint e (record { first = x; last = (l.endpoint e).last }) q ne
  led-endpoint (Some k) q ne = refl

  pub led-first_none : (p : Option ℕ) → p ≡ None → ((led e p x l).endpoint e).first ≡ x
  led-first_none p is =
      ap (λ o. ((led e o x l).endpoint e).first) is
      ∙ ap (λ (row : EndpointRow). row.first) (changed_here l.endpoint e (record { first = x; last = (l.endpoint e).last }))

  pub led-first_some : (p : Option ℕ) (k : ℕ) → p ≡ Some k → ((led e p x l).endpoint e).first ≡ (l.endpoint e).first
  led-first_some p k is = ap (λ o. ((led e o x l).endpoint e).first) is

  pub led-last : (p : Option ℕ) (q : ℕ) → ((led e p x l).endpoint q).last ≡ (l.endpoint q).last
  led-last None q = changed_keeps (λ (row : EndpointRow). row.last) l.endpoint e (record { first = x; last = (l.endpoint e).last }) refl q
  led-last (Some k) q = refl

  pub led_back-thread_keeps : {Y : Type 0} (p : Option ℕ) (h : QueueRow → Y) → ((row : QueueRow) → h (with_previous x row) ≡ h row) → (i : ℕ) → h ((led_back e p x l).thread i) ≡ h (l.thread i)
  led_back-thread_keeps None h same i = refl
  led_back-thread_keeps (Some k) h same i = changed_keeps h l.thread k (with_previous x (l.thread k)) (same (l.thread k)) i

  pub led_back-thread : (p : Option ℕ) (i : ℕ) → (p ≡ Some i → ⊥) → (led_back e p x l).thread i ≡ l.thread i
  led_back-thread None i away = refl
  led_back-thread (Some k) i away = changed_away l.thread k (with_previous x (l.thread k)) i (λ same. away (ap Some (sym same)))

  pub led_back-previous : (p : Option ℕ) (k : ℕ) → p ≡ Some k → ((led_back e p x l).thread k).previous ≡ x
  led_back-previous p k is =
      ap (λ o. ((led_back e o x l).thread k).previous) is ∙ ap (λ (row : QueueRow). row.previous) (changed_here l.thread k (with_previous x (l.thread k)))

  pub led_back-endpoint : (p : Option ℕ) (q : ℕ) → q ≢ e → (led_back e p x l).endpoint q ≡ l.endpoint q
  led_back-endpoint None q ne = changed_away l.endpoint e (record { first = (l.endpoint e).first; last = x }) q ne
  led_back-endpoint (Some k) q ne = refl

  pub led_back-last_none : (p : Option ℕ) → p ≡ None → ((led_back e p x l).endpoint e).last ≡ x
  led_back-last_none p is =
      ap (λ o. ((led_back e o x l).endpoint e).last) is
      ∙ ap (λ (row : EndpointRow). row.last) (changed_here l.endpoint e (record { first = (l.endpoint e).first; last = x }))

  pub led_back-last_some : (p : Option ℕ) (k : ℕ) → p ≡ Some k → ((led_back e p x l).endpoint e).last ≡ (l.endpoint e).last
  led_back-last_some p k is = ap (λ o. ((led_back e o x l).endpoint e).last) is

  pub led_back-first : (p : Option ℕ) (q : ℕ) → ((led_back e p x l).endpoint q).first ≡ (l.endpoint q).first
  led_back-first None q = changed_keeps (λ (row : EndpointRow). row.first) l.endpoint e (record { first = (l.endpoint e).first; last = x }) refl q
  led_back-first (Some k) q = refl
