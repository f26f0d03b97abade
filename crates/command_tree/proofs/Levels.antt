-- A forest is told by what stands in it, in order, each with how far down it stands.
use Rattle.std.proofs.Common.{◌≡◌, ℕ, suc, ◌<◌, List, [], ◌∷◌, ◌++◌, refl, sym, ap, subst, ◌∙◌, append_assoc, append-nil, arith}
use Rattle.kernel_forest.specs.Forest.{Forest, none, tree}

abbrev pub leveled : {X : Type 0} → ℕ → Forest X → List (ℕ × X)
leveled level none = []
leveled level (tree x under others) = (level, x) ∷ (leveled (suc level) under ++ leveled level others)

-- nothing, or what stands further up
abbrev IsAbove : {X : Type 0} → ℕ → List (ℕ × X) → Type 0
IsAbove level [] = Unit {0}
IsAbove level (x ∷ rest) = x.0 < level

above_more : {X : Type 0} (level : ℕ) (rest : List (ℕ × X)) → IsAbove level rest → IsAbove (suc level) rest
above_more level [] h = tt
above_more level (x ∷ rest) h = omega (arith, h)

above_others : {X : Type 0} (level : ℕ) (others : Forest X) (rest : List (ℕ × X)) → IsAbove level rest → IsAbove (suc level) (leveled level others ++ rest)
above_others level none rest h = above_more level rest h
above_others level (tree x under others) rest h = omega arith

same_with : {X : Type 0} (level : ℕ) (f g : Forest X) (rest more : List (ℕ × X)) → IsAbove level rest → IsAbove level more → leveled level f ++ rest ≡ leveled level g ++ more → (f ≡ g) × (rest ≡ more)
same_with level none none rest more a b same = (refl, same)
same_with level none (tree y under others) rest more a b same =
    let less : level < level = subst (IsAbove level) same a in
    absurd (omega (arith, less))
same_with level (tree x under others) none rest more a b same =
    let less : level < level = subst (IsAbove level) (sym same) b in
    absurd (omega (arith, less))
same_with {X} level (tree x below beside) (tree y under others) rest more a b same =
    let pair : ◌≡◌ {A = ℕ × X} (level, x) (level, y) = cc in
    let first : x ≡ y = ap (λ (p : ℕ × X). p.1) pair in
    let behind : (leveled (suc level) below ++ leveled level beside) ++ rest ≡ (leveled (suc level) under ++ leveled level others) ++ more = cc in
    let down : (below ≡ under) × (leveled level beside ++ rest ≡ leveled level others ++ more) = same_with (suc level) below under (leveled level beside ++ rest) (leveled level others ++ more) (above_others level beside rest a) (above_others level others more b)
    (sym (append_assoc (leveled (suc level) below) (leveled level beside) rest) ∙ (behind ∙ append_assoc (leveled (suc level) under) (leveled level others) more)) in
    let on = same_with level beside others rest more a b down.1 in
    ((λ i. tree (first i) (down.0 i) (on.0 i)), on.1)

pub same_forest : {X : Type 0} (f g : Forest X) → leveled 0 f ≡ leveled 0 g → f ≡ g
same_forest f g same = (same_with 0 f g [] [] tt tt (append-nil (leveled 0 f) ∙ (same ∙ sym (append-nil (leveled 0 g))))).0
