-- The low bits of a word, one by one.
use Rattle.std.proofs.Common.{◌≡◌, ℕ, zero, suc, ◌/◌, ◌%◌, ◌^◌, List, [], ◌∷◌, ◌++◌, refl, sym, ap, ◌∙◌, append_assoc, append-nil}
use Rattle.cspace_core.specs.Bits.{low_bits}

top_bit : (n word : ℕ) → (word / 2 ^ n % 2) ∷ low_bits n word ≡ low_bits (suc n) word
unfolding low_bits
top_bit n word = refl

pub one_more : (before after : List ℕ) (bit n left word : ℕ) → after ≡ before ++ bit ∷ [] → bit ≡ word / 2 ^ n % 2 → suc n ≡ left → after ++ low_bits n word ≡ before ++ low_bits left word
one_more before after bit n left word is value more =
    ap (λ l. l ++ low_bits n word) is
    ∙ append_assoc before (bit ∷ []) (low_bits n word)
    ∙ ap (λ b. before ++ b ∷ low_bits n word) value
    ∙ ap (λ l. before ++ l) (top_bit n word)
    ∙ ap (λ m. before ++ low_bits m word) more

no_more : (word : ℕ) → low_bits zero word ≡ []
unfolding low_bits
no_more word = refl

pub all_bits : (bits all : List ℕ) (left word : ℕ) → left ≡ zero → bits ++ low_bits left word ≡ all → bits ≡ all
all_bits bits all left word none same =
    sym (append-nil bits) ∙ ap (λ l. bits ++ l) (sym (no_more word)) ∙ ap (λ n. bits ++ low_bits n word) (sym none) ∙ same
