-- Texts without a line feed.
use Rattle.std.proofs.Common.{◌≡◌, ℕ, ◌==◌, ◌&&◌, Bool, true, false, cond, not, List, [], ◌∷◌, ◌++◌, refl, ◌∙◌, arith}
use Rattle.std.specs.Prelude.{codes, bit_and}
use Rattle.std.specs.Fmt.{decimal}
use Rattle.std.specs.List.{list_all}
use Rattle.std.proofs.lemmas.Bool.Decides.{nat_tests}
use Rattle.std.proofs.lemmas.List.Folds.{list_all-append}
use Rattle.cap_core.specs.declared.rights.Rights.{Rights}
use Rattle.cap_core.specs.declared.capability.Cap.{Cap}
use Rattle.cap_core.specs.declared.capability.Cap.TheVariants.{Null, Untyped, Endpoint, CNode, Tcb}
use Rattle.setup_report.specs.Naming.{plain}
use Rattle.setup_report.specs.Text.{cap_text, rights_text, right_text}
use Rattle.setup_report_laws.specs.Laws.{is_digit, IsOneLine}
use Rattle.setup_report_laws.proofs.Parts.{Pass, number_digits}

-- each byte passes a test where all do
pub all_pass : (test : ℕ → Bool) (text : List ℕ) → list_all test text ≡ true → Pass test text
all_pass test [] h = tt
all_pass test (byte ∷ text) h =
    elim (test byte) as (λ b. test byte ≡ b → (b && list_all test text) ≡ true → Pass test (byte ∷ text)) [
      | true ↦ λ e k. (e, all_pass test text k)
      | false ↦ λ e k. absurd cc
    ] refl h

-- two texts one behind another
pub both_lines : (text more : List ℕ) → IsOneLine text → IsOneLine more → IsOneLine (text ++ more)
both_lines text more h k = list_all-append (λ byte. not (byte == 10)) text more ∙ (λ i. h i && k i)

digit_is_no_end : (byte : ℕ) → is_digit byte ≡ true → not (byte == 10) ≡ true
digit_is_no_end byte h = grind (arith, nat_tests)

digits_line : (text : List ℕ) → Pass is_digit text → IsOneLine text
digits_line [] h = refl
digits_line (byte ∷ text) h = λ i. digit_is_no_end byte h.0 i && digits_line text h.1 i

pub number_line : (n : ℕ) → IsOneLine (decimal n)
number_line n = digits_line (decimal n) (number_digits n)

-- a number, and a text behind it
pub number_and : (n : ℕ) (rest : List ℕ) → IsOneLine rest → IsOneLine (decimal n ++ rest)
number_and n rest h = both_lines (decimal n) rest (number_line n) h

-- ---- capabilities

letter_line : (b : Bool) (letter : ℕ) (rest : List ℕ) → not (letter == 10) ≡ true → IsOneLine rest → IsOneLine (cond b (letter ∷ []) (45 ∷ []) ++ rest)
letter_line true letter rest e h = λ i. e i && h i
letter_line false letter rest e h = h

rights_line : (rights : Rights) → IsOneLine (rights_text rights)
rights_line rights =
    letter_line (bit_and rights.0 1 == 1) 119 (right_text rights 2 (codes "r") ++ (right_text rights 4 (codes "g") ++ right_text rights 8 (codes "p"))) refl
    (letter_line (bit_and rights.0 2 == 2) 114 (right_text rights 4 (codes "g") ++ right_text rights 8 (codes "p")) refl
    (letter_line (bit_and rights.0 4 == 4) 103 (right_text rights 8 (codes "p")) refl
    (last (bit_and rights.0 8 == 8))))
  where
    last : (b : Bool) → IsOneLine (cond b (112 ∷ []) (45 ∷ []))
    last true = refl
    last false = refl

pub capability_line : (cap : Cap) → IsOneLine (cap_text plain cap)
capability_line Null = refl
capability_line (Untyped base bits free) =
    number_and base (codes " bits " ++ (decimal bits ++ (codes " free " ++ decimal free))) (number_and bits (codes " free " ++ decimal free) (number_line free))
capability_line (Endpoint base badge rights) =
    number_and base (codes " badge " ++ (decimal badge.0 ++ (codes " rights " ++ rights_text rights))) (number_and badge.0 (codes " rights " ++ rights_text rights) (rights_line rights))
capability_line (CNode base radix guard) =
    number_and base (codes " radix " ++ (decimal radix ++ (codes " guard " ++ (decimal guard.value ++ (codes " size " ++ decimal guard.size)))))
    (number_and radix (codes " guard " ++ (decimal guard.value ++ (codes " size " ++ decimal guard.size)))
    (number_and guard.value (codes " size " ++ decimal guard.size) (number_line guard.size)))
capability_line (Tcb base) = number_line base
