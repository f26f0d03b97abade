-- What is written behind what was written before.
use Rattle.std.proofs.Common.{◌≡◌, ◌∙◌, ◌++◌, ℕ, List, ap, append_assoc, codes}
use Rattle.setup_report.specs.Report.{terminated}

pub then_written : (start first last a b : List ℕ) → first ≡ start ++ a → last ≡ first ++ b → last ≡ start ++ (a ++ b)
then_written start first last a b is then = then ∙ ap (λ (l : List ℕ). l ++ b) is ∙ append_assoc start a b

-- the first line of a text, piece by piece
pub head_pieces : (title profile bits calls made refused : List ℕ) →
    title ++ (codes " " ++ (profile ++ (codes " memory_bits " ++ (bits ++ (codes " calls " ++ (calls ++ (codes " after " ++ (made ++ (refused ++ codes "\n")))))))))
    ≡ terminated (title ++ (codes " " ++ (profile ++ (codes " memory_bits " ++ (bits ++ (codes " calls " ++ (calls ++ (codes " after " ++ (made ++ refused)))))))))
head_pieces title profile bits calls made refused = simp append_assoc

-- the line that counts, piece by piece
pub count_pieces : (parts ways grants replies taken : List ℕ) →
    codes "parts " ++ (parts ++ (codes " ways " ++ (ways ++ (codes " grants " ++ (grants ++ (codes " replies " ++ (replies ++ (codes " takes " ++ (taken ++ codes "\n")))))))))
    ≡ terminated (codes "parts " ++ (parts ++ (codes " ways " ++ (ways ++ (codes " grants " ++ (grants ++ (codes " replies " ++ (replies ++ (codes " takes " ++ taken)))))))))
count_pieces parts ways grants replies taken = simp append_assoc
