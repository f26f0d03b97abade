-- What follows a first `@`.
use Rattle.std.proofs.Common.{◌≡◌, ◌≢◌, ◌==◌, Bool, ap, true, false, ℕ, List, [], ◌∷◌, Option, Some, None, option_copied, refl, sym, arith}
use Rattle.std.specs.Prelude.{MatchOption}
use Rattle.std.specs.Borrow.{Bor}
use Rattle.std.proofs.lemmas.Bool.Decides.{nat_tests}
use Rattle.command_why.specs.Names.{name_in}

pub name_in-from : (bs : List ℕ) (r : Option (Bor (List ℕ)))
    → MatchOption r ((rest : List ℕ) → bs ≢ 64 ∷ rest) (λ x. bs ≡ 64 ∷ x.now) → option_copied r ≡ name_in bs
name_in-from [] None h = refl
name_in-from [] (Some x) h = cc
name_in-from (b ∷ bs) None h = go (b == 64) refl
  where
    go : (t : Bool) → (b == 64) ≡ t → None ≡ name_in (b ∷ bs)
    go true e = absurd (h bs (ap (λ n. n ∷ bs) (grind (arith, nat_tests))))
    go false e = rw e
name_in-from (b ∷ bs) (Some x) h = sym (ap name_in h)
