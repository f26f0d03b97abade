-- A book takes an operation as `taken` says.
use Rattle.std.proofs.Common.{◌≡◌, ◌≢◌, ◌↔◌, ℕ, ◌==◌, Bool, true, false, List, [], ◌∷◌, ◌++◌, length, Result, Ok, Err, IfOk, OnErr, refl, ap, ◌∙◌, eq-eqb, arith}
use Rattle.std.proofs.Props.{props}
use Rattle.std.proofs.lemmas.Bool.Decides.{nat_tests}
use mathlib.Core.Logic.{∥∥₁_elim}
use Rattle.cap_core.specs.declared.profile.ProfileName.{ProfileName}
use Rattle.kernel_abstract.specs.declared.call.Reply.{Reply}
use Rattle.kernel_abstract.specs.State.{State, shown}
use Rattle.kernel_abstract.specs.Shown.{Shown}
use Rattle.kernel_abstract.specs.Step.{step, state_after}
use Rattle.kernel_abstract.specs.Reached.{IsReached}
use Rattle.kernel_abstract.proofs.Reached.Runs.{reached_after}
use Rattle.kernel_shared.specs.declared.entry.Entry.{Entry}
use Rattle.kernel_shared.specs.declared.book.BookFault.{BookFault}
use Rattle.kernel_shared.specs.declared.book.BookFault.TheVariants.{Full, NameTaken}
use Rattle.kernel_shared.specs.Laws.{client_entry, entry_calls, count_of, StandsAfter, Begins}
use Rattle.kernel_shared.specs.declared.request.Request.{Request}
use Rattle.kernel_shared.specs.Taking.{taken_entry, taken}

module _ (p : ProfileName) (start : State) (opening : Shown) (h h' : List Entry) (k : Shown) (limit : ℕ) (op : Request) (K : Type 0) where
  reply_set : (r s : Reply) → IsProp (r ≡ s)
  reply_set r s = hlevel props

  reply_known : ∥ Begins p start opening ∥₁ → ∥ StandsAfter p opening h k ∥₁ → (r : Reply) → ((A : State) → IsReached p A → k ≡ shown A → r ≡ (step p A op.call).reply) → r ≡ (step p (state_after p start (entry_calls h)) op.call).reply
  reply_known b s r is = ∥∥₁_elim b (reply_set r ((step p (state_after p start (entry_calls h)) op.call).reply)) (λ b.
      ∥∥₁_elim s (reply_set r ((step p (state_after p start (entry_calls h)) op.call).reply)) (λ s. is (state_after p start (entry_calls h)) (reached_after p start (entry_calls h) b.reached) (s.stands start b.reached b.shows)))

  by_tests : (t u : Bool) → (length h == limit) ≡ t → (op.number == count_of op.client h) ≡ u → (t ≡ true → h' ≡ h) → (u ≡ false → h' ≡ h) → (t ≡ false → u ≡ true → h' ≡ h ++ taken_entry p start h op ∷ []) → h' ≡ taken p start limit h op
  by_tests true u et eu p q r = rw et (p refl)
  by_tests false true et eu p q r = rw (et, eu) (r refl refl)
  by_tests false false et eu p q r = rw (et, eu) (q refl)

  pub taken_is : (result : Result Reply BookFault) → ∥ Begins p start opening ∥₁ → ∥ StandsAfter p opening h k ∥₁
      → ((result ≡ Err Full) ↔ (length h ≡ limit))
      → ((result ≡ Err NameTaken) ↔ ((length h ≢ limit) × (op.number ≢ count_of op.client h)))
      → IfOk result (λ r. h' ≡ h ++ client_entry op.client op.number op.call r ∷ [])
      → IfOk result (λ r. (A : State) → IsReached p A → k ≡ shown A → r ≡ (step p A op.call).reply)
      → OnErr result ((h' ≡ h) × K)
      → h' ≡ taken p start limit h op
  taken_is (Ok r) b s full name ok reply err =
      by_tests (length h == limit) (op.number == count_of op.client h) refl refl
      (λ t. let e : length h ≡ limit = grind (arith, nat_tests) in let w : Ok r ≡ Err Full = full.1 e in cc)
      (λ u. let nl : length h ≢ limit = λ e. (let w : Ok r ≡ Err Full = full.1 e in cc) in
      let nn : op.number ≢ count_of op.client h = λ e. (let w : (op.number == count_of op.client h) ≡ true = eq-eqb op.number (count_of op.client h) e in cc) in
      let w : Ok r ≡ Err NameTaken = name.1 (nl, nn) in cc)
      (λ t u. ok ∙ ap (λ x. h ++ client_entry op.client op.number op.call x ∷ []) (reply_known b s r reply))
  taken_is (Err Full) b s full name ok reply err =
      by_tests (length h == limit) (op.number == count_of op.client h) refl refl (λ t. err.0) (λ u. err.0) (λ t u. absurd (let e : length h ≡ limit = full.0 refl in let w : (length h == limit) ≡ true = eq-eqb (length h) limit e in cc))
  taken_is (Err NameTaken) b s full name ok reply err =
      by_tests (length h == limit) (op.number == count_of op.client h) refl refl (λ t. err.0) (λ u. err.0) (λ t u. absurd (let e : op.number ≡ count_of op.client h = grind (arith, nat_tests) in (name.0 refl).1 e))
