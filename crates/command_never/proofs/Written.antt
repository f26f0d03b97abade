-- What is written behind what was written before.
use Rattle.std.proofs.Common.{◌≡◌, ◌∙◌, ◌++◌, ℕ, List, ap, append_assoc}

pub then_written : (start first last a b : List ℕ) → first ≡ start ++ a → last ≡ first ++ b → last ≡ start ++ (a ++ b)
then_written start first last a b is then = then ∙ ap (λ (l : List ℕ). l ++ b) is ∙ append_assoc start a b
