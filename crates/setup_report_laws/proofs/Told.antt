-- The text of a capability tells the capability.
use Rattle.std.proofs.Common.{◌≡◌, ℕ, zero, suc, ◌+◌, ◌<◌, Bool, true, false, cond, ◌==◌, List, [], ◌∷◌, ◌++◌, refl, sym, ap, ◌∙◌, append_assoc, arith}
use Rattle.std.specs.Prelude.{codes, bit_and}
use Rattle.std.proofs.lemmas.Fmt.{decimal_injective}
use Rattle.std.proofs.lemmas.List.{append_cancel_left}
use Rattle.cap_core.specs.declared.rights.Rights.{Rights}
use Rattle.cap_core.specs.declared.capability.Cap.{Cap}
use Rattle.cap_core.specs.declared.capability.Cap.TheVariants.{Null, Untyped, Endpoint, CNode, Tcb}
use Rattle.setup_report.specs.Naming.{plain}
use Rattle.setup_report.specs.Text.{cap_text, rights_text}
use Rattle.setup_report_laws.specs.Laws.{IsWithinWords}
use Rattle.setup_report_laws.proofs.Capabilities.{Field, AreAlike, fields_apart, first, untyped_text, endpoint_text, cnode_text, tcb_text}

-- ---- rights

letter_same : (a b : Bool) (letter : ℕ) (rest more : List ℕ) → (letter ≡ 45 → ⊥) → cond a (letter ∷ []) (45 ∷ []) ++ rest ≡ cond b (letter ∷ []) (45 ∷ []) ++ more → (a ≡ b) × (rest ≡ more)
letter_same true true letter rest more other same = (refl, append_cancel_left (letter ∷ []) rest more same)
letter_same false false letter rest more other same = (refl, append_cancel_left (45 ∷ []) rest more same)
letter_same true false letter rest more other same = absurd (other cc)
letter_same false true letter rest more other same = absurd (other (let w : 45 ≡ letter = cc in sym w))

abbrev value : Bool → Bool → Bool → Bool → ℕ
value a b c d = cond a 1 0 + (cond b 2 0 + (cond c 4 0 + cond d 8 0))

abbrev IsOfItsBits : ℕ → Type 0
IsOfItsBits n = n ≡ value (bit_and n 1 == 1) (bit_and n 2 == 2) (bit_and n 4 == 4) (bit_and n 8 == 8)

of_its_bits : (n : ℕ) → n < 16 → IsOfItsBits n
of_its_bits zero h = refl
of_its_bits (suc zero) h = refl
of_its_bits (suc (suc zero)) h = refl
of_its_bits (suc (suc (suc zero))) h = refl
of_its_bits (suc (suc (suc (suc n)))) h = from_four n (omega (arith, h))
  where
    from_eight : (n : ℕ) → n < 8 → IsOfItsBits (suc (suc (suc (suc (suc (suc (suc (suc n))))))))
    from_eight zero h = refl
    from_eight (suc zero) h = refl
    from_eight (suc (suc zero)) h = refl
    from_eight (suc (suc (suc zero))) h = refl
    from_eight (suc (suc (suc (suc zero)))) h = refl
    from_eight (suc (suc (suc (suc (suc zero))))) h = refl
    from_eight (suc (suc (suc (suc (suc (suc zero)))))) h = refl
    from_eight (suc (suc (suc (suc (suc (suc (suc zero))))))) h = refl
    from_eight (suc (suc (suc (suc (suc (suc (suc (suc n)))))))) h = absurd (omega (arith, h))

    from_four : (n : ℕ) → n < 12 → IsOfItsBits (suc (suc (suc (suc n))))
    from_four zero h = refl
    from_four (suc zero) h = refl
    from_four (suc (suc zero)) h = refl
    from_four (suc (suc (suc zero))) h = refl
    from_four (suc (suc (suc (suc n)))) h = from_eight n (omega (arith, h))

same_rights : (r s : Rights) → r.0 < 16 → s.0 < 16 → rights_text r ++ [] ≡ rights_text s ++ [] → r.0 ≡ s.0
same_rights r s h k same =
    let bit = λ (rights : Rights) (right : ℕ). bit_and rights.0 right == right in
    let letter = λ (rights : Rights) (right letter : ℕ). cond (bit rights right) (letter ∷ []) (45 ∷ []) in
    let first = letter_same (bit r 1) (bit s 1) 119 ((letter r 2 114 ++ (letter r 4 103 ++ letter r 8 112)) ++ []) ((letter s 2 114 ++ (letter s 4 103 ++ letter s 8 112)) ++ []) (λ e. absurd (omega (arith, e)))
    (sym (append_assoc (letter r 1 119) (letter r 2 114 ++ (letter r 4 103 ++ letter r 8 112)) []) ∙ (same ∙ append_assoc (letter s 1 119) (letter s 2 114 ++ (letter s 4 103 ++ letter s 8 112)) [])) in
    let second = letter_same (bit r 2) (bit s 2) 114 ((letter r 4 103 ++ letter r 8 112) ++ []) ((letter s 4 103 ++ letter s 8 112) ++ []) (λ e. absurd (omega (arith, e)))
    (sym (append_assoc (letter r 2 114) (letter r 4 103 ++ letter r 8 112) []) ∙ (first.1 ∙ append_assoc (letter s 2 114) (letter s 4 103 ++ letter s 8 112) [])) in
    let third = letter_same (bit r 4) (bit s 4) 103 (letter r 8 112 ++ []) (letter s 8 112 ++ []) (λ e. absurd (omega (arith, e)))
    (sym (append_assoc (letter r 4 103) (letter r 8 112) []) ∙ (second.1 ∙ append_assoc (letter s 4 103) (letter s 8 112) [])) in
    let fourth = letter_same (bit r 8) (bit s 8) 112 [] [] (λ e. absurd (omega (arith, e))) third.1 in
    of_its_bits r.0 h ∙ ((λ i. value (first.0 i) (second.0 i) (third.0 i) (fourth.0 i)) ∙ sym (of_its_bits s.0 k))

-- ---- capabilities

pub capability_told : (a b : Cap) → IsWithinWords a → IsWithinWords b → cap_text plain a ≡ cap_text plain b → a ≡ b
capability_told Null Null h k same = refl
capability_told (Untyped base bits free) (Untyped start size used) h k same =
    let fields : List Field = (codes "untyped ", base, start) ∷ (codes " bits ", bits, size) ∷ (codes " free ", free, used) ∷ [] in
    let both : AreAlike fields [] [] =
    fields_apart fields [] [] (refl, (refl, (refl, tt))) tt tt (sym (untyped_text base bits free []) ∙ (ap (λ l. l ++ []) same ∙ untyped_text start size used [])) in
    λ i. Untyped (decimal_injective base start h.0 k.0 both.2.0 i) (decimal_injective bits size h.1 k.1 both.2.1.0 i) (decimal_injective free used h.2 k.2 both.2.1.1.0 i)
capability_told (Endpoint base badge rights) (Endpoint start mark others) h k same =
    let fields : List Field = (codes "endpoint ", base, start) ∷ (codes " badge ", badge.0, mark.0) ∷ [] in
    let behind = λ (r : Rights). codes " rights " ++ (rights_text r ++ []) in
    let both : AreAlike fields (behind rights) (behind others) =
    fields_apart fields (behind rights) (behind others) (refl, (refl, tt)) refl refl
    (sym (endpoint_text base badge rights []) ∙ (ap (λ l. l ++ []) same ∙ endpoint_text start mark others [])) in
    let few = same_rights rights others (omega (arith, h.2)) (omega (arith, k.2)) (append_cancel_left (codes " rights ") (rights_text rights ++ []) (rights_text others ++ []) both.1) in
    λ i. Endpoint (decimal_injective base start h.0 k.0 both.2.0 i) (record { 0 = decimal_injective badge.0 mark.0 h.1 k.1 both.2.1.0 i }) (record { 0 = few i })
capability_told (CNode base radix guard) (CNode start size other) h k same =
    let fields : List Field = (codes "cnode ", base, start) ∷ (codes " radix ", radix, size) ∷ (codes " guard ", guard.value, other.value) ∷ (codes " size ", guard.size, other.size) ∷ [] in
    let both : AreAlike fields [] [] =
    fields_apart fields [] [] (refl, (refl, (refl, (refl, tt)))) tt tt (sym (cnode_text base radix guard []) ∙ (ap (λ l. l ++ []) same ∙ cnode_text start size other [])) in
    λ i. CNode (decimal_injective base start h.0 k.0 both.2.0 i) (decimal_injective radix size h.1 k.1 both.2.1.0 i)
    (record { value = decimal_injective guard.value other.value h.2 k.2 both.2.1.1.0 i; size = decimal_injective guard.size other.size h.3 k.3 both.2.1.1.1.0 i })
capability_told (Tcb base) (Tcb start) h k same =
    let fields : List Field = (codes "tcb ", base, start) ∷ [] in
    let both : AreAlike fields [] [] = fields_apart fields [] [] (refl, tt) tt tt (sym (tcb_text base []) ∙ (ap (λ l. l ++ []) same ∙ tcb_text start [])) in
    λ i. Tcb (decimal_injective base start h k both.2.0 i)
capability_told a b h k same = let e : first a ≡ first b = cc in absurd (omega (arith, e))
