-- Where the text of a capability ends is told by the text.
use Rattle.std.proofs.Common.{◌≡◌, ℕ, Bool, true, false, cond, ◌==◌, List, [], ◌∷◌, ◌++◌, length, refl, sym, ◌∙◌, append_assoc, append-nil, length-append, arith}
use Rattle.std.specs.List.{AllByRecursion as Each}
use Rattle.std.specs.Prelude.{codes, bit_and}
use Rattle.std.specs.Fmt.{decimal}
use Rattle.std.proofs.lemmas.List.{append_cancel_left}
use Rattle.cap_core.specs.declared.rights.Rights.{Rights}
use Rattle.cap_core.specs.declared.capability.Badge.{Badge}
use Rattle.cap_core.specs.declared.capability.Guard.{Guard}
use Rattle.cap_core.specs.declared.capability.Cap.{Cap}
use Rattle.cap_core.specs.declared.capability.Cap.TheVariants.{Null, Untyped, Endpoint, CNode, Tcb}
use Rattle.setup_report.specs.Naming.{plain}
use Rattle.setup_report.specs.Text.{cap_text, rights_text, right_text}
use Rattle.setup_report_laws.specs.Laws.{Stops, is_digit}
use Rattle.setup_report_laws.proofs.Parts.{numbers_apart, same_length}

-- ---- labels and numbers in turn

-- a label with the number behind it, in each of two texts
abbrev pub Field : Type 0
Field = List ℕ × ℕ × ℕ

abbrev pub ones_of : List Field → List ℕ → List ℕ
ones_of [] rest = rest
ones_of (x ∷ fields) rest = x.0 ++ (decimal x.1 ++ ones_of fields rest)

abbrev pub others_of : List Field → List ℕ → List ℕ
others_of [] rest = rest
others_of (x ∷ fields) rest = x.0 ++ (decimal x.2 ++ others_of fields rest)

-- a label begins with no digit
abbrev pub IsLabel : List ℕ → Type 0
IsLabel [] = ⊥
IsLabel (byte ∷ label) = is_digit byte ≡ false

label_stops : (label rest : List ℕ) → IsLabel label → Stops is_digit (label ++ rest)
label_stops [] rest h = absurd h
label_stops (byte ∷ label) rest h = h

abbrev pub AreLabels : List Field → Type 0
AreLabels fields = Each (λ (x : Field). IsLabel x.0) fields

ones_stop : (fields : List Field) (rest : List ℕ) → AreLabels fields → Stops is_digit rest → Stops is_digit (ones_of fields rest)
ones_stop [] rest h e = e
ones_stop (x ∷ fields) rest h e = label_stops x.0 (decimal x.1 ++ ones_of fields rest) h.0

others_stop : (fields : List Field) (rest : List ℕ) → AreLabels fields → Stops is_digit rest → Stops is_digit (others_of fields rest)
others_stop [] rest h e = e
others_stop (x ∷ fields) rest h e = label_stops x.0 (decimal x.2 ++ others_of fields rest) h.0

-- the numbers are told alike, and so is what is behind them
abbrev pub AreAlike : List Field → List ℕ → List ℕ → Type 0
AreAlike fields rest more =
    ((tail : List ℕ) → ones_of fields tail ≡ others_of fields tail) × (rest ≡ more) × Each (λ (x : Field). decimal x.1 ≡ decimal x.2) fields

pub fields_apart : (fields : List Field) (rest more : List ℕ) → AreLabels fields → Stops is_digit rest → Stops is_digit more → ones_of fields rest ≡ others_of fields more → AreAlike fields rest more
fields_apart [] rest more h e f same = (λ tail. refl, same, tt)
fields_apart (x ∷ fields) rest more h e f same =
    let numbers = numbers_apart x.1 x.2 (ones_of fields rest) (others_of fields more) (ones_stop fields rest h.1 e) (others_stop fields more h.1 f)
    (append_cancel_left x.0 (decimal x.1 ++ ones_of fields rest) (decimal x.2 ++ others_of fields more) same) in
    let behind = fields_apart fields rest more h.1 e f numbers.1 in
    (λ tail i. x.0 ++ (numbers.0 i ++ behind.0 tail i), behind.1, (numbers.0, behind.2))

-- ---- capabilities

pub letter_length : (b : Bool) (x y : ℕ) → length (cond b (x ∷ []) (y ∷ [])) ≡ 1
letter_length true x y = refl
letter_length false x y = refl

four : (a b c d : List ℕ) → length a ≡ 1 → length b ≡ 1 → length c ≡ 1 → length d ≡ 1 → length (a ++ (b ++ (c ++ d))) ≡ 4
four a b c d h i j k = omega (arith, length-append a (b ++ (c ++ d)), length-append b (c ++ d), length-append c d)

pub rights_length : (rights : Rights) → length (rights_text rights) ≡ 4
rights_length rights =
    four (right_text rights 1 (codes "w")) (right_text rights 2 (codes "r")) (right_text rights 4 (codes "g")) (right_text rights 8 (codes "p"))
    (letter_length (bit_and rights.0 1 == 1) 119 45) (letter_length (bit_and rights.0 2 == 2) 114 45)
    (letter_length (bit_and rights.0 4 == 4) 103 45) (letter_length (bit_and rights.0 8 == 8) 112 45)

-- the first byte
abbrev pub first : Cap → ℕ
first Null = 110
first (Untyped base bits free) = 117
first (Endpoint base badge rights) = 101
first (CNode base radix guard) = 99
first (Tcb base) = 116

-- the text of a capability, and another text behind it
pub untyped_text : (base bits free : ℕ) (rest : List ℕ) → cap_text plain (Untyped base bits free) ++ rest
    ≡ codes "untyped " ++ (decimal base ++ (codes " bits " ++ (decimal bits ++ (codes " free " ++ (decimal free ++ rest)))))
untyped_text base bits free rest = simp append_assoc

pub endpoint_text : (base : ℕ) (badge : Badge) (rights : Rights) (rest : List ℕ) → cap_text plain (Endpoint base badge rights) ++ rest
    ≡ codes "endpoint " ++ (decimal base ++ (codes " badge " ++ (decimal badge.0 ++ (codes " rights " ++ (rights_text rights ++ rest)))))
endpoint_text base badge rights rest = simp append_assoc

pub cnode_text : (base radix : ℕ) (guard : Guard) (rest : List ℕ) → cap_text plain (CNode base radix guard) ++ rest
    ≡ codes "cnode " ++ (decimal base ++ (codes " radix " ++ (decimal radix ++ (codes " guard " ++ (decimal guard.value ++ (codes " size " ++ (decimal guard.size ++ rest)))))))
cnode_text base radix guard rest = simp append_assoc

pub tcb_text : (base : ℕ) (rest : List ℕ) → cap_text plain (Tcb base) ++ rest ≡ codes "tcb " ++ (decimal base ++ rest)
tcb_text base rest = simp append_assoc

-- with nothing behind them
alone : (text more left right : List ℕ) → text ++ [] ≡ left → more ++ [] ≡ right → left ≡ right → text ≡ more
alone text more left right e f same = sym (append-nil text) ∙ (e ∙ (same ∙ (sym f ∙ append-nil more)))

pub capabilities_apart : (a b : Cap) (rest more : List ℕ) → Stops is_digit rest → Stops is_digit more → cap_text plain a ++ rest ≡ cap_text plain b ++ more → (cap_text plain a ≡ cap_text plain b) × (rest ≡ more)
capabilities_apart Null Null rest more e f same = (refl, append_cancel_left (codes "null") rest more same)
capabilities_apart (Untyped base bits free) (Untyped start size used) rest more e f same =
    let fields : List Field = (codes "untyped ", base, start) ∷ (codes " bits ", bits, size) ∷ (codes " free ", free, used) ∷ [] in
    let both : AreAlike fields rest more = fields_apart fields rest more (refl, (refl, (refl, tt))) e f (sym (untyped_text base bits free rest) ∙ (same ∙ untyped_text start size used more)) in
    (alone (cap_text plain (Untyped base bits free)) (cap_text plain (Untyped start size used)) _ _ (untyped_text base bits free []) (untyped_text start size used []) (both.0 []), both.1)
capabilities_apart (Endpoint base badge rights) (Endpoint start mark others) rest more e f same =
    let fields : List Field = (codes "endpoint ", base, start) ∷ (codes " badge ", badge.0, mark.0) ∷ [] in
    let behind = λ (r : Rights) (tail : List ℕ). codes " rights " ++ (rights_text r ++ tail) in
    let both : AreAlike fields (behind rights rest) (behind others more) =
    fields_apart fields (behind rights rest) (behind others more) (refl, (refl, tt)) refl refl (sym (endpoint_text base badge rights rest) ∙ (same ∙ endpoint_text start mark others more)) in
    let letters : (rights_text rights ≡ rights_text others) × (rest ≡ more) =
    same_length (rights_text rights) (rights_text others) rest more (rights_length rights ∙ sym (rights_length others))
    (append_cancel_left (codes " rights ") (rights_text rights ++ rest) (rights_text others ++ more) both.1) in (
      alone (cap_text plain (Endpoint base badge rights)) (cap_text plain (Endpoint start mark others)) _ _ (endpoint_text base badge rights []) (endpoint_text start mark others [])
          (both.0 (behind rights []) ∙ (λ i. others_of fields (codes " rights " ++ (letters.0 i ++ [])))),
      letters.1,
    )
capabilities_apart (CNode base radix guard) (CNode start size other) rest more e f same =
    let fields : List Field = (codes "cnode ", base, start) ∷ (codes " radix ", radix, size) ∷ (codes " guard ", guard.value, other.value) ∷ (codes " size ", guard.size, other.size) ∷ [] in
    let both : AreAlike fields rest more = fields_apart fields rest more (refl, (refl, (refl, (refl, tt)))) e f (sym (cnode_text base radix guard rest) ∙ (same ∙ cnode_text start size other more)) in
    (alone (cap_text plain (CNode base radix guard)) (cap_text plain (CNode start size other)) _ _ (cnode_text base radix guard []) (cnode_text start size other []) (both.0 []), both.1)
capabilities_apart (Tcb base) (Tcb start) rest more e f same =
    let fields : List Field = (codes "tcb ", base, start) ∷ [] in
    let both : AreAlike fields rest more = fields_apart fields rest more (refl, tt) e f (sym (tcb_text base rest) ∙ (same ∙ tcb_text start more)) in
    (alone (cap_text plain (Tcb base)) (cap_text plain (Tcb start)) _ _ (tcb_text base []) (tcb_text start []) (both.0 []), both.1)
capabilities_apart a b rest more e f same = let h : first a ≡ first b = cc in absurd (omega (arith, h))
