-- Texts one behind another.
use Rattle.std.proofs.Common.{◌≡◌, ℕ, List, [], ◌∷◌, ◌++◌, map, sym, ap, ◌∙◌, append_assoc, append-nil}
use Rattle.std.proofs.lemmas.List.{map-append}
use Rattle.std.proofs.lemmas.List.Concat.{flat_map-append}
use Rattle.std.specs.List.{flat_map}

pub joined_three : (first second last a b c : List ℕ) → first ≡ a → second ≡ first ++ b → last ≡ second ++ c → last ≡ a ++ (b ++ c)
joined_three first second last a b c f g h = h ∙ ap (λ l. l ++ c) (g ∙ ap (λ l. l ++ b) f) ∙ append_assoc a b c

pub joined_five : (first second third fourth last a b c d e : List ℕ) → first ≡ a → second ≡ first ++ b → third ≡ second ++ c → fourth ≡ third ++ d → last ≡ fourth ++ e →
    last ≡ a ++ (b ++ (c ++ (d ++ e)))
joined_five first second third fourth last a b c d e f g h k m =
    m ∙ ap (λ l. l ++ e) (k ∙ ap (λ l. l ++ d) (joined_three first second third a b c f g h))
    ∙ ap (λ l. l ++ e) (append_assoc a (b ++ c) d)
    ∙ append_assoc a ((b ++ c) ++ d) e
    ∙ ap (λ l. a ++ l) (append_assoc (b ++ c) d e ∙ append_assoc b c (d ++ e))

-- the text of elements that are yielded one after another
pub flat_yielded : {R : Type 0} (f : ℕ → List ℕ) (d : R → ℕ) (yielded : List R) (x : R) (start before after : List ℕ) →
    before ≡ start ++ flat_map f (map d yielded) → after ≡ before ++ f (d x) → after ≡ start ++ flat_map f (map d (yielded ++ x ∷ []))
flat_yielded f d yielded x start before after is so =
    so ∙ (ap (λ l. l ++ f (d x)) is
    ∙ (append_assoc start (flat_map f (map d yielded)) (f (d x))
    ∙ ap (λ l. start ++ l)
    (ap (λ l. flat_map f (map d yielded) ++ l) (sym (append-nil (f (d x))))
    ∙ sym (ap (flat_map f) (map-append d yielded (x ∷ [])) ∙ flat_map-append f (map d yielded) (d x ∷ [])))))
