-- Digits that are too many.
use Rattle.std.proofs.Common.{◌≡◌, ℕ, zero, suc, ◌^◌, ◌<◌, ◌≤◌, true, false, nat_lt, List, [], ◌∷◌, drop, length, None, refl, sym, ◌∙◌, arith}
use Rattle.std.proofs.lemmas.Bool.Decides.{nat_tests}
use Rattle.setup_report.specs.Words.{number_after}

step : (n i : ℕ) (text : List ℕ) → i < length text → 10 ^ 18 ≤ n → number_after n (drop i text) ≡ None
step n i [] low most = absurd (omega (arith, low))
step n (suc i) (c ∷ cs) low most = step n i cs (omega (arith, low)) most
step n zero (c ∷ cs) low most =
    (elim (nat_lt n (10 ^ 18)) as (λ b. nat_lt n (10 ^ 18) ≡ b → number_after n (c ∷ cs) ≡ None) [
      | true ↦ λ is. absurd (grind (arith, nat_tests, is, most))
      | false ↦ λ is. cc (is)
    ]) refl

pub past : (n i : ℕ) (text : List ℕ) → i < length text → 10 ^ 18 ≤ n → number_after n (drop i text) ≡ number_after 0 text →
    None ≡ number_after 0 text
past n i text low most is = sym (step n i text low most) ∙ is
