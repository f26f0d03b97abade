-- Words with blanks between them, and lines.
use Rattle.std.proofs.Common.{◌≡◌, ℕ, ◌==◌, Bool, true, false, not, nat_lt, cond, List, [], ◌∷◌, ◌++◌, refl, sym, ap, subst, ◌∙◌, append_assoc, ◌<◌, ◌≤◌, ◌^◌, arith}
use Rattle.std.specs.Prelude.{bit_and, codes}
use Rattle.std.specs.Fmt.{decimal}
use Rattle.std.specs.List.{AllByRecursion as Each, flat_map}
use Rattle.std.proofs.lemmas.Bool.{eqb-true}
use Rattle.std.proofs.lemmas.Bool.Decides.{nat_tests}
use Rattle.std.proofs.lemmas.Fmt.{decimal_injective}
use Rattle.std.proofs.lemmas.List.{append_cancel_left}
use Rattle.std.proofs.lemmas.Nat.{pow_pos}
use Rattle.cap_core.specs.declared.rights.Rights.{Rights}
use Rattle.cap_core.specs.declared.capability.Cap.{Cap}
use Rattle.cap_core.specs.declared.capability.Cap.TheVariants.{Endpoint}
use Rattle.cap_core.specs.Rights.{all_rights}
use Rattle.setup_report.specs.Report.{terminated}
use Rattle.setup_report.specs.Text.{right_text, rights_text}
use Rattle.setup_report_laws.specs.Laws.{Stops, is_digit}
use Rattle.setup_report_laws.proofs.Parts.{Pass, told_apart, number_digits}
use Rattle.setup_report_laws.proofs.OneLine.{all_pass}
use Rattle.setup_report_laws.proofs.Told.{capability_told}
use Rattle.command_parts.specs.Text.{any_badge_text}

-- ---- words

abbrev pub IsWord : List ℕ → Type 0
IsWord w = Pass (nat_lt 32) w

abbrev pub AreWords : List (List ℕ) → Type 0
AreWords ws = Each IsWord ws

-- each word behind a blank
abbrev pub spaced : List (List ℕ) → List ℕ
spaced [] = []
spaced (w ∷ ws) = 32 ∷ (w ++ spaced ws)

spaced_stops : (ws : List (List ℕ)) → Stops (nat_lt 32) (spaced ws)
spaced_stops [] = tt
spaced_stops (w ∷ ws) = refl

words_apart : (ws vs : List (List ℕ)) → AreWords ws → AreWords vs → spaced ws ≡ spaced vs → ws ≡ vs
words_apart [] [] h k same = refl
words_apart [] (v ∷ vs) h k same = absurd cc
words_apart (w ∷ ws) [] h k same = absurd cc
words_apart (w ∷ ws) (v ∷ vs) h k same =
    let both = told_apart (nat_lt 32) w v (spaced ws) (spaced vs) h.0 k.0 (spaced_stops ws) (spaced_stops vs)
    (append_cancel_left (32 ∷ []) (w ++ spaced ws) (v ++ spaced vs) same) in
    let others = words_apart ws vs h.1 k.1 both.1 in
    λ i. both.0 i ∷ others i

-- a row: the word of its kind, and those behind it
abbrev pub Row : Type 0
Row = List ℕ × List (List ℕ)

abbrev pub row_text : Row → List ℕ
row_text r = r.0 ++ spaced r.1

abbrev pub IsRow : Row → Type 0
IsRow r = IsWord r.0 × AreWords r.1

pub rows_apart : (r s : Row) → IsRow r → IsRow s → row_text r ≡ row_text s → r ≡ s
rows_apart r s h k same =
    let both = told_apart (nat_lt 32) r.0 s.0 (spaced r.1) (spaced s.1) h.0 k.0 (spaced_stops r.1) (spaced_stops s.1) same in
    let others = words_apart r.1 s.1 h.1 k.1 both.1 in
    λ i. (both.0 i, others i)

-- ---- lines

abbrev pub no_end : ℕ → Bool
no_end byte = not (byte == 10)

abbrev pub IsLine : List ℕ → Type 0
IsLine text = Pass no_end text

pass_both : (is : ℕ → Bool) (xs ys : List ℕ) → Pass is xs → Pass is ys → Pass is (xs ++ ys)
pass_both is [] ys h k = k
pass_both is (x ∷ xs) ys h k = (h.0, pass_both is xs ys h.1 k)

pass_more : (is also : ℕ → Bool) → ((byte : ℕ) → is byte ≡ true → also byte ≡ true) → (xs : List ℕ) → Pass is xs → Pass also xs
pass_more is also more [] h = tt
pass_more is also more (x ∷ xs) h = (more x h.0, pass_more is also more xs h.1)

word_is_no_end : (byte : ℕ) → nat_lt 32 byte ≡ true → no_end byte ≡ true
word_is_no_end byte h = grind (arith, nat_tests)

digit_is_word : (byte : ℕ) → is_digit byte ≡ true → nat_lt 32 byte ≡ true
digit_is_word byte h = grind (arith, nat_tests)

pub word_line : (w : List ℕ) → IsWord w → IsLine w
word_line w h = pass_more (nat_lt 32) no_end word_is_no_end w h

pub number_word : (n : ℕ) → IsWord (decimal n)
number_word n = pass_more is_digit (nat_lt 32) digit_is_word (decimal n) (number_digits n)

spaced_line : (ws : List (List ℕ)) → AreWords ws → IsLine (spaced ws)
spaced_line [] h = tt
spaced_line (w ∷ ws) h = (refl, pass_both no_end w (spaced ws) (word_line w h.0) (spaced_line ws h.1))

pub row_line : (r : Row) → IsRow r → IsLine (row_text r)
row_line r h = pass_both no_end r.0 (spaced r.1) (word_line r.0 h.0) (spaced_line r.1 h.1)

-- lines with a feed behind each
abbrev pub lines_text : List (List ℕ) → List ℕ
lines_text ls = flat_map terminated ls

line_apart : (x y rest more : List ℕ) → IsLine x → IsLine y → terminated x ++ rest ≡ terminated y ++ more → (x ≡ y) × (rest ≡ more)
line_apart x y rest more h k same =
    let both = told_apart no_end x y (10 ∷ rest) (10 ∷ more) h k refl refl (sym (append_assoc x (10 ∷ []) rest) ∙ (same ∙ append_assoc y (10 ∷ []) more)) in
    (both.0, append_cancel_left (10 ∷ []) rest more both.1)

no_line : (x rest : List ℕ) → terminated x ++ rest ≡ [] → ⊥
no_line [] rest same = cc
no_line (b ∷ x) rest same = cc

pub lines_apart : (xs ys : List (List ℕ)) → Each IsLine xs → Each IsLine ys → lines_text xs ≡ lines_text ys → xs ≡ ys
lines_apart [] [] h k same = refl
lines_apart [] (y ∷ ys) h k same = absurd (no_line y (lines_text ys) (sym same))
lines_apart (x ∷ xs) [] h k same = absurd (no_line x (lines_text xs) same)
lines_apart (x ∷ xs) (y ∷ ys) h k same =
    let both = line_apart x y (lines_text xs) (lines_text ys) h.0 k.0 same in
    let others = lines_apart xs ys h.1 k.1 both.1 in
    λ i. both.0 i ∷ others i

pub lines_joined : (xs ys : List (List ℕ)) → lines_text xs ++ lines_text ys ≡ lines_text (xs ++ ys)
lines_joined [] ys = refl
lines_joined (x ∷ xs) ys = append_assoc (terminated x) (lines_text xs) (lines_text ys) ∙ ap (λ t. terminated x ++ t) (lines_joined xs ys)

-- ---- badges and rights

abbrev first_byte : List ℕ → ℕ
first_byte [] = 0
first_byte (b ∷ bs) = b

digit_first : (text : List ℕ) → Pass is_digit text → first_byte text ≡ 97 → ⊥
digit_first [] h e = omega (arith, e)
digit_first (b ∷ bs) h e = let w : is_digit 97 ≡ true = subst (λ n. is_digit n ≡ true) e h.0 in cc

badge_cases : (b c : ℕ) (x y : Bool) → b == 0 ≡ x → c == 0 ≡ y → b < 2 ^ 64 → c < 2 ^ 64 → cond x (codes "any") (decimal b) ≡ cond y (codes "any") (decimal c) → b ≡ c
badge_cases b c true true e f h k same = eqb-true b 0 e ∙ sym (eqb-true c 0 f)
badge_cases b c true false e f h k same = absurd (digit_first (decimal c) (number_digits c) (sym (ap first_byte same)))
badge_cases b c false true e f h k same = absurd (digit_first (decimal b) (number_digits b) (ap first_byte same))
badge_cases b c false false e f h k same = decimal_injective b c h k same

pub same_badge : (b c : ℕ) → b < 2 ^ 64 → c < 2 ^ 64 → any_badge_text b ≡ any_badge_text c → b ≡ c
same_badge b c h k same = badge_cases b c (b == 0) (c == 0) refl refl h k same

pub badge_word : (b : ℕ) → IsWord (any_badge_text b)
badge_word b = elim (b == 0) as (λ t. IsWord (cond t (codes "any") (decimal b))) [
  | true ↦ all_pass (nat_lt 32) (codes "any") refl
  | false ↦ number_word b
]

rights_in : Rights → Cap → Rights
rights_in none (Endpoint base badge rights) = rights
rights_in none _ = none

pub same_rights : (r s : Rights) → r.0 ≤ all_rights.0 → s.0 ≤ all_rights.0 → rights_text r ≡ rights_text s → r ≡ s
unfolding rights_in
same_rights r s h k same =
    let zero : 0 < 2 ^ 64 = pow_pos 64 in
    ap (rights_in r) (capability_told (Endpoint 0 (record { 0 = 0 }) r) (Endpoint 0 (record { 0 = 0 }) s) (zero, zero, h) (zero, zero, k)
    (ap (λ (t : List ℕ). codes "endpoint " ++ (decimal 0 ++ (codes " badge " ++ (decimal 0 ++ (codes " rights " ++ t))))) same))

letter_word : (b : Bool) (letter : ℕ) → nat_lt 32 letter ≡ true → IsWord (cond b (letter ∷ []) (45 ∷ []))
letter_word true letter h = (h, tt)
letter_word false letter h = (refl, tt)

right_word : (r : Rights) (right letter : ℕ) → nat_lt 32 letter ≡ true → IsWord (right_text r right (letter ∷ []))
right_word r right letter h = letter_word (bit_and r.0 right == right) letter h

pub rights_word : (r : Rights) → IsWord (rights_text r)
rights_word r =
    pass_both (nat_lt 32) (right_text r 1 (codes "w")) (right_text r 2 (codes "r") ++ (right_text r 4 (codes "g") ++ right_text r 8 (codes "p"))) (right_word r 1 119 refl)
    (pass_both (nat_lt 32) (right_text r 2 (codes "r")) (right_text r 4 (codes "g") ++ right_text r 8 (codes "p")) (right_word r 2 114 refl)
    (pass_both (nat_lt 32) (right_text r 4 (codes "g")) (right_text r 8 (codes "p")) (right_word r 4 103 refl) (right_word r 8 112 refl)))
