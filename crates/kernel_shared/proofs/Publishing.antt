-- What one published operation does to the history.
use Rattle.std.proofs.Common.{◌≡◌, ◌≢◌, ℕ, ◌+◌, ◌==◌, Bool, true, false, List, [], ◌∷◌, ◌++◌, length, fold, Result, Ok, Err, MatchResult, refl, ap, sym, ◌∙◌, subst, eq-eqb, ne_eqb, length-append, arith}
use Rattle.std.specs.Result.{is_err}
use Rattle.kernel_abstract.specs.State.{State}
use Rattle.cap_core.specs.declared.profile.ProfileName.{ProfileName}
use Rattle.kernel_shared.specs.declared.entry.Entry.{Entry}
use Rattle.kernel_shared.specs.Laws.{count_of}
use Rattle.kernel_shared.specs.declared.request.Request.{Request}
use Rattle.kernel_shared.specs.Taking.{taken_entry, taken}
use Rattle.kernel_shared.specs.Fronts.{StartsWith}
use Rattle.kernel_shared.proofs.Keeping.{starts_refl, starts_snoc}

module _ (p : ProfileName) (start : State) (limit : ℕ) (h : List Entry) (op : Request) where
  starts_by : (t u : Bool) → (length h == limit) ≡ t → (op.number == count_of op.client h) ≡ u → StartsWith (taken p start limit h op) h
  starts_by true u et eu = rw et (starts_refl h)
  starts_by false true et eu = rw (et, eu) (starts_snoc h (taken_entry p start h op))
  starts_by false false et eu = rw (et, eu) (starts_refl h)

  pub taken_starts : StartsWith (taken p start limit h op) h
  taken_starts = starts_by (length h == limit) (op.number == count_of op.client h) refl refl

  pub taken_new : length h ≢ limit → op.number ≡ count_of op.client h → taken p start limit h op ≡ h ++ taken_entry p start h op ∷ []
  taken_new n e = let et : (length h == limit) ≡ false = ne_eqb (length h) limit n in let eu : (op.number == count_of op.client h) ≡ true = eq-eqb op.number (count_of op.client h) e in rw (et, eu) refl

  pub folded : (applied : List Entry → Request → List Entry) (ops : List Request) (next : List Entry) → ((h : List Entry) (op : Request) → applied h op ≡ taken p start limit h op) → ops ≡ op ∷ [] → next ≡ fold applied h ops → next ≡ taken p start limit h op
  folded applied ops next law one is = is ∙ (ap (λ os. fold applied h os) one ∙ law h op)

  pub starts_after : (next : List Entry) → next ≡ taken p start limit h op → StartsWith next h
  starts_after next e = subst (λ (l : List Entry). StartsWith l h) (sym e) taken_starts

  pub one_longer : (next : List Entry) → next ≡ taken p start limit h op → length h ≢ limit → op.number ≡ count_of op.client h → length next ≡ length h + 1
  one_longer next e n m = ap length (e ∙ taken_new n m) ∙ omega (arith, length-append h (taken_entry p start h op ∷ []))

pub pending_is : (r : Result (Unit {0}) Request) (op : Request) (old new : List Request) (Q : Request → Type 0) → false ≡ is_err r → MatchResult r (λ _. new ≡ old ++ op ∷ []) Q → old ≡ [] → new ≡ op ∷ []
pending_is (Ok x) op old new Q ok m e = m ∙ ap (λ l. l ++ op ∷ []) e
pending_is (Err x) op old new Q ok m e = cc
