-- Where a part of a text ends is told by the text: bytes that pass a test, before one that does not; numbers; and texts
-- of one length.
use Rattle.std.proofs.Common.{◌≡◌, ℕ, zero, suc, ◌+◌, ◌<◌, ◌≤◌, ◌/◌, ◌%◌, ◌==◌, ◌&&◌, Bool, true, false, cond, nat_lt, List, [], ◌∷◌, ◌++◌, length, refl, sym, ap, subst, ◌∙◌, le-leb, arith}
use Rattle.std.specs.List.{AllByRecursion as Each}
use Rattle.std.specs.Fmt.{decimal, digits, digits_onto, digit_glyph}
use Rattle.std.proofs.lemmas.Bool.{lt-ltb}
use Rattle.setup_report_laws.specs.Laws.{Stops, is_digit}

-- each byte passes a test
abbrev pub Pass : (ℕ → Bool) → List ℕ → Type 0
Pass is text = Each (λ byte. is byte ≡ true) text

pub told_apart : (is : ℕ → Bool) (xs ys rest more : List ℕ) → Pass is xs → Pass is ys → Stops is rest → Stops is more → xs ++ rest ≡ ys ++ more → (xs ≡ ys) × (rest ≡ more)
told_apart is [] [] rest more a b e f same = (refl, same)
told_apart is [] (y ∷ ys) rest more a b e f same =
    let stops : is y ≡ false = subst (Stops is) same e in
    absurd (let w : true ≡ false = sym b.0 ∙ stops in cc)
told_apart is (x ∷ xs) [] rest more a b e f same =
    let stops : is x ≡ false = subst (Stops is) (sym same) f in
    absurd (let w : true ≡ false = sym a.0 ∙ stops in cc)
told_apart is (x ∷ xs) (y ∷ ys) rest more a b e f same =
    let first : x ≡ y = cc in
    let others : xs ++ rest ≡ ys ++ more = cc in
    let both = told_apart is xs ys rest more a.1 b.1 e f others in
    ((λ i. first i ∷ both.0 i), both.1)

pub same_length : (xs ys rest more : List ℕ) → length xs ≡ length ys → xs ++ rest ≡ ys ++ more → (xs ≡ ys) × (rest ≡ more)
same_length [] [] rest more e same = (refl, same)
same_length [] (y ∷ ys) rest more e same = absurd (omega (arith, e))
same_length (x ∷ xs) [] rest more e same = absurd (omega (arith, e))
same_length (x ∷ xs) (y ∷ ys) rest more e same =
    let first : x ≡ y = cc in
    let others : xs ++ rest ≡ ys ++ more = cc in
    let both = same_length xs ys rest more (omega (arith, e)) others in
    ((λ i. first i ∷ both.0 i), both.1)

-- ---- numbers

glyph_is_digit : (n : ℕ) → is_digit (digit_glyph false (n % 10)) ≡ true
glyph_is_digit n =
    let less : n % 10 < 10 = omega arith in
    let small : nat_lt (n % 10) 10 ≡ true = lt-ltb (n % 10) 10 less in
    let low : 48 ≤ 48 + n % 10 = omega arith in
    let high : 48 + n % 10 ≤ 57 = omega arith in
    ap (λ b. is_digit (cond b (48 + n % 10) (87 + n % 10))) small
    ∙ (λ i. le-leb 48 (48 + n % 10) low i && le-leb (48 + n % 10) 57 high i)

onto_digits : (k n : ℕ) (acc : List ℕ) → Pass is_digit acc → Pass is_digit (digits_onto k 10 false n acc)
onto_digits zero n acc h = h
onto_digits (suc k) n acc h =
    let last = digit_glyph false (n % 10) in
    elim (n / 10 == 0) as (λ b. Pass is_digit (cond b (last ∷ acc) (digits_onto k 10 false (n / 10) (last ∷ acc)))) [
      | true ↦ (glyph_is_digit n, h)
      | false ↦ onto_digits k (n / 10) (last ∷ acc) (glyph_is_digit n, h)
    ]

pub number_digits : (n : ℕ) → Pass is_digit (decimal n)
unfolding digits
number_digits n = onto_digits 64 n [] tt

pub numbers_apart : (m n : ℕ) (rest more : List ℕ) → Stops is_digit rest → Stops is_digit more → decimal m ++ rest ≡ decimal n ++ more → (decimal m ≡ decimal n) × (rest ≡ more)
numbers_apart m n rest more e f same = told_apart is_digit (decimal m) (decimal n) rest more (number_digits m) (number_digits n) e f same
