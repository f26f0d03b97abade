-- Words as lists of bits, the top one first.
use Rattle.std.specs.Prelude.{ℕ, zero, suc, ◌/◌, ◌%◌, ◌^◌, cond, ◌==◌, List, [], ◌∷◌, Option, Some, None}

-- the low n bits of a word
unfoldable pub low_bits : ℕ → ℕ → List ℕ
low_bits zero word = []
low_bits (suc n) word = (word / 2 ^ n % 2) ∷ low_bits n word

-- what follows `front` in a list that begins with it
abbrev pub after_front : List ℕ → List ℕ → Option (List ℕ)
after_front [] bits = Some bits
after_front (f ∷ front) [] = None
after_front (f ∷ front) (b ∷ bits) = cond (f == b) (after_front front bits) None
