-- The lines of a listing tell what they were made of.
use Rattle.std.proofs.Common.{◌≡◌, ℕ, ◌<◌, ◌≤◌, ◌^◌, ◌==◌, Bool, true, false, not, nat_lt, List, [], ◌∷◌, ◌++◌, length, Option, Some, None, option_map, string_bytes, refl, sym, ap, ◌∙◌, subst, append_assoc, length-append, arith}
use Rattle.std.specs.Prelude.{codes, slice_get}
use Rattle.std.specs.Fmt.{decimal}
use Rattle.std.specs.List.{AllByRecursion as Each, flat_map}
use Rattle.std.proofs.lemmas.Bool.Decides.{nat_tests}
use Rattle.std.proofs.lemmas.Fmt.{decimal_injective}
use Rattle.std.proofs.lemmas.List.{append_cancel_left, append_cancel_right}
use Rattle.std.proofs.lemmas.Nat.{pow_pos}
use Rattle.cap_core.specs.declared.rights.Rights.{Rights}
use Rattle.cap_core.specs.declared.capability.Guard.{Guard}
use Rattle.cap_core.specs.declared.capability.Cap.{Cap}
use Rattle.cap_core.specs.declared.capability.Cap.TheVariants as cap
use Rattle.cap_core.specs.declared.capability.Kind.{Kind}
use Rattle.cap_core.specs.Rights.{all_rights}
use Rattle.cap_core.specs.declared.capability.Kind.TheVariants.{Untyped, Endpoint, CNode, Tcb}
use Rattle.setup_report.specs.Naming.{plain}
use Rattle.setup_report.specs.Text.{cap_text, rights_text}
use Rattle.setup_report_laws.specs.Laws.{Stops, is_digit}
use Rattle.setup_report_laws.proofs.Parts.{Pass, told_apart, number_digits}
use Rattle.setup_report_laws.proofs.OneLine.{all_pass, capability_line}
use Rattle.setup_report_laws.proofs.Told.{capability_told}
use Rattle.setup_layout.specs.declared.layout.Layout.{Layout}
use Rattle.setup_layout.specs.declared.layout.Object.{Object}
use Rattle.setup_layout.specs.declared.layout.Slot.{Slot}
use Rattle.setup_layout.specs.declared.layout.AssumedRights.{AssumedRights}
use Rattle.setup_layout.specs.declared.layout.AssumedRights.TheVariants.{NoRights, AllRights, LeastRights}
use Rattle.command_import.specs.Listing.{listed_place, held_of, line_of, listing_line, inactive_of, inactive_line, holder_place, below_line, pair_line, assumed_line, listing_lines}
use Rattle.command_import.specs.Told.{ToldPlace, ToldLine, HoldsUntyped, HoldsEndpoint, HoldsCNode, HoldsTcb, MakesNoCalls, StandsBelow, AssumesRights, told_number, told_place, told_held, told_of_slot, told_slot, told_state, told_inactive, told_pair, told_derived, told_assumed, listing_tells, is_word}

-- ---- lines whose names are words and whose numbers are short

abbrev pub IsShortPlace : ToldPlace → Type 0
IsShortPlace (name, None) = is_word name ≡ true
IsShortPlace (name, Some number) = (is_word name ≡ true) × (number < 2 ^ 64)

abbrev pub IsPlaceOrNone : Option ToldPlace → Type 0
IsPlaceOrNone None = Unit {0}
IsPlaceOrNone (Some place) = IsShortPlace place

abbrev pub IsWellNamed : ToldLine → Type 0
IsWellNamed (HoldsUntyped place name bits) = IsShortPlace place × (is_word name ≡ true) × (bits < 2 ^ 64)
IsWellNamed (HoldsEndpoint place name badge rights) = IsShortPlace place × (is_word name ≡ true) × (badge < 2 ^ 64) × (rights.0 ≤ all_rights.0)
IsWellNamed (HoldsCNode place name radix guard) = IsShortPlace place × (is_word name ≡ true) × (radix < 2 ^ 64) × (guard.value < 2 ^ 64) × (guard.size < 2 ^ 64)
IsWellNamed (HoldsTcb place name) = IsShortPlace place × (is_word name ≡ true)
IsWellNamed (MakesNoCalls name) = is_word name ≡ true
IsWellNamed (StandsBelow below above) = IsPlaceOrNone below × IsPlaceOrNone above
IsWellNamed (AssumesRights all) = Unit {0}

-- ---- texts whose bytes pass a test

abbrev no_end : ℕ → Bool
no_end byte = not (byte == 10)

pass_both : (is : ℕ → Bool) (xs ys : List ℕ) → Pass is xs → Pass is ys → Pass is (xs ++ ys)
pass_both is [] ys h k = k
pass_both is (x ∷ xs) ys h k = (h.0, pass_both is xs ys h.1 k)

pass_right : (is : ℕ → Bool) (xs ys : List ℕ) → Pass is (xs ++ ys) → Pass is ys
pass_right is [] ys h = h
pass_right is (x ∷ xs) ys h = pass_right is xs ys h.1

pass_more : (is also : ℕ → Bool) → ((byte : ℕ) → is byte ≡ true → also byte ≡ true) → (xs : List ℕ) → Pass is xs → Pass also xs
pass_more is also more [] h = tt
pass_more is also more (x ∷ xs) h = (more x h.0, pass_more is also more xs h.1)

word_is_no_end : (byte : ℕ) → nat_lt 32 byte ≡ true → no_end byte ≡ true
word_is_no_end byte h = grind (arith, nat_tests)

digit_is_word : (byte : ℕ) → is_digit byte ≡ true → nat_lt 32 byte ≡ true
digit_is_word byte h = grind (arith, nat_tests)

word : (name : List ℕ) → is_word name ≡ true → Pass (nat_lt 32) name
word name h = all_pass (nat_lt 32) name h

word_line : (name : List ℕ) → is_word name ≡ true → Pass no_end name
word_line name h = pass_more (nat_lt 32) no_end word_is_no_end name (word name h)

number_word : (n : ℕ) → Pass (nat_lt 32) (decimal n)
number_word n = pass_more is_digit (nat_lt 32) digit_is_word (decimal n) (number_digits n)

-- ---- rows: two words, and what is behind them up to the end of the line

abbrev Row : Type 0
Row = List ℕ × List ℕ × List ℕ

abbrev row_onto : List ℕ → Row → List ℕ → List ℕ
row_onto prefix row rest = prefix ++ (row.0 ++ (32 ∷ (row.1 ++ (row.2 ++ (10 ∷ rest)))))

abbrev IsRow : Row → Type 0
IsRow row = Pass (nat_lt 32) row.0 × Pass (nat_lt 32) row.1 × Stops (nat_lt 32) row.2 × Pass no_end row.2

stops_behind : (xs rest : List ℕ) → Stops (nat_lt 32) xs → Stops (nat_lt 32) (xs ++ (10 ∷ rest))
stops_behind [] rest h = refl
stops_behind (x ∷ xs) rest h = h

row_apart : (prefix : List ℕ) (x y : Row) (rest more : List ℕ) → IsRow x → IsRow y → row_onto prefix x rest ≡ row_onto prefix y more → (x ≡ y) × (rest ≡ more)
row_apart prefix x y rest more h k same =
    let one = told_apart (nat_lt 32) x.0 y.0 (32 ∷ (x.1 ++ (x.2 ++ (10 ∷ rest)))) (32 ∷ (y.1 ++ (y.2 ++ (10 ∷ more)))) h.0 k.0 refl refl
    (append_cancel_left prefix (x.0 ++ (32 ∷ (x.1 ++ (x.2 ++ (10 ∷ rest))))) (y.0 ++ (32 ∷ (y.1 ++ (y.2 ++ (10 ∷ more))))) same) in
    let two = told_apart (nat_lt 32) x.1 y.1 (x.2 ++ (10 ∷ rest)) (y.2 ++ (10 ∷ more)) h.1 k.1 (stops_behind x.2 rest h.2) (stops_behind y.2 more k.2)
    (append_cancel_left (32 ∷ []) (x.1 ++ (x.2 ++ (10 ∷ rest))) (y.1 ++ (y.2 ++ (10 ∷ more))) one.1) in
    let three = told_apart no_end x.2 y.2 (10 ∷ rest) (10 ∷ more) h.3 k.3 refl refl two.1 in
    ((λ i. (one.0 i, two.0 i, three.0 i)), append_cancel_left (10 ∷ []) rest more three.1)

row_is_there : (prefix : List ℕ) (x : Row) (rest : List ℕ) → [] ≡ row_onto prefix x rest → ⊥
row_is_there prefix x rest same =
    let behind = 32 ∷ (x.1 ++ (x.2 ++ (10 ∷ rest))) in
    let e : 0 ≡ length (prefix ++ (x.0 ++ behind)) = ap length same in
    omega (arith, e, length-append prefix (x.0 ++ behind), length-append x.0 behind)

-- ---- what a line tells, as a row

abbrev place_text : ToldPlace → List ℕ
place_text (name, None) = name ++ codes ".cspace"
place_text (name, Some number) = name ++ (codes "[" ++ (decimal number ++ codes "]"))

abbrev either_text : Option ToldPlace → List ℕ
either_text None = []
either_text (Some place) = place_text place

abbrev endpoint_behind : ℕ → Rights → List ℕ
endpoint_behind badge rights = codes " badge " ++ (decimal badge ++ (codes " rights " ++ rights_text rights))

abbrev cnode_behind : ℕ → Guard → List ℕ
cnode_behind radix guard = codes " radix " ++ (decimal radix ++ (codes " guard " ++ (decimal guard.value ++ (codes " size " ++ decimal guard.size))))

abbrev rights_behind : Bool → List ℕ
rights_behind true = codes " all"
rights_behind false = codes " least"

abbrev row_of : ToldLine → Row
row_of (HoldsUntyped place name bits) = (place_text place, codes "untyped", 32 ∷ (name ++ (codes " bits " ++ decimal bits)))
row_of (HoldsEndpoint place name badge rights) = (place_text place, codes "endpoint", 32 ∷ (name ++ endpoint_behind badge rights))
row_of (HoldsCNode place name radix guard) = (place_text place, codes "cnode", 32 ∷ (name ++ cnode_behind radix guard))
row_of (HoldsTcb place name) = (place_text place, codes "tcb", 32 ∷ name)
row_of (MakesNoCalls name) = (name, codes "inactive", [])
row_of (StandsBelow below above) = (either_text below, codes "below", 32 ∷ either_text above)
row_of (AssumesRights all) = (codes "assumed", codes "rights", rights_behind all)

place_word : (place : ToldPlace) → IsShortPlace place → Pass (nat_lt 32) (place_text place)
place_word (name, None) h = pass_both (nat_lt 32) name (codes ".cspace") (word name h) (all_pass (nat_lt 32) (codes ".cspace") refl)
place_word (name, Some number) h =
    pass_both (nat_lt 32) name (codes "[" ++ (decimal number ++ codes "]")) (word name h.0)
    (refl, pass_both (nat_lt 32) (decimal number) (codes "]") (number_word number) (refl, tt))

either_word : (place : Option ToldPlace) → IsPlaceOrNone place → Pass (nat_lt 32) (either_text place)
either_word None h = tt
either_word (Some place) h = place_word place h

-- the capabilities of objects at 0, whose texts and what they tell are known
abbrev endpoint_at_0 : ℕ → Rights → Cap
endpoint_at_0 badge rights = cap.Endpoint 0 (record { 0 = badge }) rights

abbrev cnode_at_0 : ℕ → Guard → Cap
cnode_at_0 radix guard = cap.CNode 0 radix guard

endpoint_line : (badge : ℕ) (rights : Rights) → Pass no_end (endpoint_behind badge rights)
endpoint_line badge rights =
    pass_right no_end (decimal 0) (endpoint_behind badge rights)
    (pass_right no_end (codes "endpoint ") (decimal 0 ++ endpoint_behind badge rights)
    (all_pass no_end (cap_text plain (endpoint_at_0 badge rights)) (capability_line (endpoint_at_0 badge rights))))

cnode_line : (radix : ℕ) (guard : Guard) → Pass no_end (cnode_behind radix guard)
cnode_line radix guard =
    pass_right no_end (decimal 0) (cnode_behind radix guard)
    (pass_right no_end (codes "cnode ") (decimal 0 ++ cnode_behind radix guard)
    (all_pass no_end (cap_text plain (cnode_at_0 radix guard)) (capability_line (cnode_at_0 radix guard))))

rights_stop : (all : Bool) → Stops (nat_lt 32) (rights_behind all)
rights_stop true = refl
rights_stop false = refl

rights_line : (all : Bool) → Pass no_end (rights_behind all)
rights_line true = all_pass no_end (codes " all") refl
rights_line false = all_pass no_end (codes " least") refl

is_row : (told : ToldLine) → IsWellNamed told → IsRow (row_of told)
is_row (HoldsUntyped place name bits) h = (
  place_word place h.0,
  all_pass (nat_lt 32) (codes "untyped") refl,
  refl,
  (
    refl,
    pass_both no_end name (codes " bits " ++ decimal bits) (word_line name h.1)
        (pass_both no_end (codes " bits ") (decimal bits) (all_pass no_end (codes " bits ") refl) (pass_more (nat_lt 32) no_end word_is_no_end (decimal bits) (number_word bits))),
  ),
)
is_row (HoldsEndpoint place name badge rights) h = (
  place_word place h.0,
  all_pass (nat_lt 32) (codes "endpoint") refl,
  refl,
  (refl, pass_both no_end name (endpoint_behind badge rights) (word_line name h.1) (endpoint_line badge rights)),
)
is_row (HoldsCNode place name radix guard) h = (
  place_word place h.0,
  all_pass (nat_lt 32) (codes "cnode") refl,
  refl,
  (refl, pass_both no_end name (cnode_behind radix guard) (word_line name h.1) (cnode_line radix guard)),
)
is_row (HoldsTcb place name) h = (place_word place h.0, all_pass (nat_lt 32) (codes "tcb") refl, refl, (refl, word_line name h.1))
is_row (MakesNoCalls name) h = (word name h, all_pass (nat_lt 32) (codes "inactive") refl, tt, tt)
is_row (StandsBelow below above) h = (
  either_word below h.0,
  all_pass (nat_lt 32) (codes "below") refl,
  refl,
  (refl, pass_more (nat_lt 32) no_end word_is_no_end (either_text above) (either_word above h.1)),
)
is_row (AssumesRights all) h = (all_pass (nat_lt 32) (codes "assumed") refl, all_pass (nat_lt 32) (codes "rights") refl, rights_stop all, rights_line all)

-- ---- a row tells what it was made of

-- a byte before bytes that are others
last_apart : (is : ℕ → Bool) (stop : ℕ) (xs ys rest more : List ℕ) → is stop ≡ false → Pass is rest → Pass is more → xs ++ (stop ∷ rest) ≡ ys ++ (stop ∷ more) → (xs ≡ ys) × (rest ≡ more)
last_apart is stop [] [] rest more out h k same = (refl, append_cancel_left (stop ∷ []) rest more same)
last_apart is stop [] (y ∷ ys) rest more out h k same =
    let others : rest ≡ ys ++ (stop ∷ more) = cc in
    let passes : Pass is (stop ∷ more) = pass_right is ys (stop ∷ more) (subst (Pass is) others h) in
    absurd (let w : true ≡ false = sym passes.0 ∙ out in cc)
last_apart is stop (x ∷ xs) [] rest more out h k same =
    let others : more ≡ xs ++ (stop ∷ rest) = cc in
    let passes : Pass is (stop ∷ rest) = pass_right is xs (stop ∷ rest) (subst (Pass is) others k) in
    absurd (let w : true ≡ false = sym passes.0 ∙ out in cc)
last_apart is stop (x ∷ xs) (y ∷ ys) rest more out h k same =
    let first : x ≡ y = cc in
    let others : xs ++ (stop ∷ rest) ≡ ys ++ (stop ∷ more) = cc in
    let both = last_apart is stop xs ys rest more out h k others in
    ((λ i. first i ∷ both.0 i), both.1)

abbrev last : ℕ → List ℕ → ℕ
last byte [] = byte
last byte (x ∷ xs) = last x xs

last_behind : (byte : ℕ) (xs : List ℕ) (y : ℕ) (ys : List ℕ) → last byte (xs ++ (y ∷ ys)) ≡ last y ys
last_behind byte [] y ys = refl
last_behind byte (x ∷ xs) y ys = last_behind x xs y ys

abbrev no_bracket : ℕ → Bool
no_bracket byte = not (byte == 91)

digit_is_no_bracket : (byte : ℕ) → is_digit byte ≡ true → no_bracket byte ≡ true
digit_is_no_bracket byte h = grind (arith, nat_tests)

number_end : (n : ℕ) → Pass no_bracket (decimal n ++ (93 ∷ []))
number_end n = pass_both no_bracket (decimal n) (93 ∷ []) (pass_more is_digit no_bracket digit_is_no_bracket (decimal n) (number_digits n)) (refl, tt)

-- the last byte of a place's text
number_last : (name : List ℕ) (n : ℕ) → last 0 (place_text (name, Some n)) ≡ 93
number_last name n = last_behind 0 name 91 (decimal n ++ (93 ∷ [])) ∙ last_behind 91 (decimal n) 93 []

space_last : (name : List ℕ) → last 0 (place_text (name, None)) ≡ 101
space_last name = last_behind 0 name 46 (codes "cspace")

same_place : (p q : ToldPlace) → IsShortPlace p → IsShortPlace q → place_text p ≡ place_text q → p ≡ q
same_place (name, None) (other, None) h k same =
    let names = append_cancel_right name other (codes ".cspace") same in
    λ i. (names i, None)
same_place (name, None) (other, Some n) h k same =
    let e : 101 ≡ 93 = sym (space_last name) ∙ (ap (last 0) same ∙ number_last other n) in
    absurd (omega (arith, e))
same_place (name, Some m) (other, None) h k same =
    let e : 93 ≡ 101 = sym (number_last name m) ∙ (ap (last 0) same ∙ space_last other) in
    absurd (omega (arith, e))
same_place (name, Some m) (other, Some n) h k same =
    let both = last_apart no_bracket 91 name other (decimal m ++ (93 ∷ [])) (decimal n ++ (93 ∷ [])) refl (number_end m) (number_end n) same in
    let number = decimal_injective m n h.1 k.1 (append_cancel_right (decimal m) (decimal n) (93 ∷ []) both.1) in
    λ i. (both.0 i, Some (number i))

place_is_there : (p : ToldPlace) → [] ≡ place_text p → ⊥
place_is_there (name, None) same =
    let e : 0 ≡ 101 = ap (last 0) same ∙ space_last name in
    omega (arith, e)
place_is_there (name, Some n) same =
    let e : 0 ≡ 93 = ap (last 0) same ∙ number_last name n in
    omega (arith, e)

same_either : (p q : Option ToldPlace) → IsPlaceOrNone p → IsPlaceOrNone q → either_text p ≡ either_text q → p ≡ q
same_either None None h k same = refl
same_either None (Some q) h k same = absurd (place_is_there q same)
same_either (Some p) None h k same = absurd (place_is_there p (sym same))
same_either (Some p) (Some q) h k same = let places = same_place p q h k same in λ i. Some (places i)

badge_in : Cap → ℕ
badge_in (cap.Endpoint base badge rights) = badge.0
badge_in _ = 0

rights_in : Rights → Cap → Rights
rights_in none (cap.Endpoint base badge rights) = rights
rights_in none _ = none

radix_in : Cap → ℕ
radix_in (cap.CNode base radix guard) = radix
radix_in _ = 0

guard_in : Guard → Cap → Guard
guard_in none (cap.CNode base radix guard) = guard
guard_in none _ = none

-- the name behind the second word, and what is behind it
names_apart : (name other rest more : List ℕ) → is_word name ≡ true → is_word other ≡ true → Stops (nat_lt 32) rest → Stops (nat_lt 32) more → 32 ∷ (name ++ rest) ≡ 32 ∷ (other ++ more) → (name ≡ other) × (rest ≡ more)
names_apart name other rest more h k e f same = told_apart (nat_lt 32) name other rest more (word name h) (word other k) e f (append_cancel_left (32 ∷ []) (name ++ rest) (other ++ more) same)

same_endpoint : (badge mark : ℕ) (rights others : Rights) → IsWellNamed (HoldsEndpoint ([], None) [] badge rights) → IsWellNamed (HoldsEndpoint ([], None) [] mark others)
    → endpoint_behind badge rights ≡ endpoint_behind mark others → (badge ≡ mark) × (rights ≡ others)
unfolding badge_in rights_in
same_endpoint badge mark rights others h k same =
    let caps = capability_told (endpoint_at_0 badge rights) (endpoint_at_0 mark others) (pow_pos 64, h.2, h.3) (pow_pos 64, k.2, k.3)
    (ap (λ (t : List ℕ). codes "endpoint " ++ (decimal 0 ++ t)) same) in
    (ap badge_in caps, ap (rights_in rights) caps)

same_cnode : (radix size : ℕ) (guard other : Guard) → IsWellNamed (HoldsCNode ([], None) [] radix guard) → IsWellNamed (HoldsCNode ([], None) [] size other)
    → cnode_behind radix guard ≡ cnode_behind size other → (radix ≡ size) × (guard ≡ other)
unfolding radix_in guard_in
same_cnode radix size guard other h k same =
    let caps = capability_told (cnode_at_0 radix guard) (cnode_at_0 size other) (pow_pos 64, h.2, h.3, h.4) (pow_pos 64, k.2, k.3, k.4)
    (ap (λ (t : List ℕ). codes "cnode " ++ (decimal 0 ++ t)) same) in
    (ap radix_in caps, ap (guard_in guard) caps)

-- the first byte of the second word
abbrev head : List ℕ → ℕ
head [] = 0
head (x ∷ xs) = x

abbrev sort : ToldLine → ℕ
sort (HoldsUntyped place name bits) = 117
sort (HoldsEndpoint place name badge rights) = 101
sort (HoldsCNode place name radix guard) = 99
sort (HoldsTcb place name) = 116
sort (MakesNoCalls name) = 105
sort (StandsBelow below above) = 98
sort (AssumesRights all) = 114

abbrev first_of_row : Row → List ℕ
first_of_row row = row.0

abbrev behind_in_row : Row → List ℕ
behind_in_row row = row.2

abbrev head_of_row : Row → ℕ
head_of_row row = head row.1

same_rights : (all every : Bool) → rights_behind all ≡ rights_behind every → all ≡ every
same_rights true true same = refl
same_rights false false same = refl
same_rights true false same =
    let e : 108 ≡ 116 = ap (last 0) same in
    absurd (omega (arith, e))
same_rights false true same =
    let e : 116 ≡ 108 = ap (last 0) same in
    absurd (omega (arith, e))

same_line : (a b : ToldLine) → IsWellNamed a → IsWellNamed b → row_of a ≡ row_of b → a ≡ b
same_line (HoldsUntyped place name bits) (HoldsUntyped spot other size) h k same =
    let first = same_place place spot h.0 k.0 (ap first_of_row same) in
    let names = names_apart name other (codes " bits " ++ decimal bits) (codes " bits " ++ decimal size) h.1 k.1 refl refl (ap behind_in_row same) in
    let number = decimal_injective bits size h.2 k.2 (append_cancel_left (codes " bits ") (decimal bits) (decimal size) names.1) in
    λ i. HoldsUntyped (first i) (names.0 i) (number i)
same_line (HoldsEndpoint place name badge rights) (HoldsEndpoint spot other mark letters) h k same =
    let first = same_place place spot h.0 k.0 (ap first_of_row same) in
    let names = names_apart name other (endpoint_behind badge rights) (endpoint_behind mark letters) h.1 k.1 refl refl (ap behind_in_row same) in
    let both = same_endpoint badge mark rights letters (refl, refl, h.2, h.3) (refl, refl, k.2, k.3) names.1 in
    λ i. HoldsEndpoint (first i) (names.0 i) (both.0 i) (both.1 i)
same_line (HoldsCNode place name radix guard) (HoldsCNode spot other size bits) h k same =
    let first = same_place place spot h.0 k.0 (ap first_of_row same) in
    let names = names_apart name other (cnode_behind radix guard) (cnode_behind size bits) h.1 k.1 refl refl (ap behind_in_row same) in
    let both = same_cnode radix size guard bits (refl, refl, h.2, h.3, h.4) (refl, refl, k.2, k.3, k.4) names.1 in
    λ i. HoldsCNode (first i) (names.0 i) (both.0 i) (both.1 i)
same_line (HoldsTcb place name) (HoldsTcb spot other) h k same =
    let first = same_place place spot h.0 k.0 (ap first_of_row same) in
    let names = append_cancel_left (32 ∷ []) name other (ap behind_in_row same) in
    λ i. HoldsTcb (first i) (names i)
same_line (MakesNoCalls name) (MakesNoCalls other) h k same = let names = ap first_of_row same in λ i. MakesNoCalls (names i)
same_line (StandsBelow below above) (StandsBelow under over) h k same =
    let first = same_either below under h.0 k.0 (ap first_of_row same) in
    let second = same_either above over h.1 k.1 (append_cancel_left (32 ∷ []) (either_text above) (either_text over) (ap behind_in_row same)) in
    λ i. StandsBelow (first i) (second i)
same_line (AssumesRights all) (AssumesRights every) h k same = let both = same_rights all every (ap behind_in_row same) in λ i. AssumesRights (both i)
same_line a b h k same = let e : sort a ≡ sort b = ap head_of_row same in absurd (omega (arith, e))

-- ---- all lines

abbrev told_onto : List ℕ → List ToldLine → List ℕ → List ℕ
told_onto prefix [] rest = rest
told_onto prefix (line ∷ lines) rest = row_onto prefix (row_of line) (told_onto prefix lines rest)

lines_apart : (prefix : List ℕ) (xs ys : List ToldLine) → Each IsWellNamed xs → Each IsWellNamed ys → told_onto prefix xs [] ≡ told_onto prefix ys [] → xs ≡ ys
lines_apart prefix [] [] h k same = refl
lines_apart prefix [] (y ∷ ys) h k same = absurd (row_is_there prefix (row_of y) (told_onto prefix ys []) same)
lines_apart prefix (x ∷ xs) [] h k same = absurd (row_is_there prefix (row_of x) (told_onto prefix xs []) (sym same))
lines_apart prefix (x ∷ xs) (y ∷ ys) h k same =
    let both = row_apart prefix (row_of x) (row_of y) (told_onto prefix xs []) (told_onto prefix ys []) (is_row x h.0) (is_row y k.0) same in
    let first = same_line x y h.0 k.0 both.0 in
    let others = lines_apart prefix xs ys h.1 k.1 both.1 in
    λ i. first i ∷ others i

told_append : (prefix : List ℕ) (xs ys : List ToldLine) (rest : List ℕ) → told_onto prefix (xs ++ ys) rest ≡ told_onto prefix xs (told_onto prefix ys rest)
told_append prefix [] ys rest = refl
told_append prefix (x ∷ xs) ys rest = let others = told_append prefix xs ys rest in λ i. row_onto prefix (row_of x) (others i)

all_told : {X : Type 0} (prefix : List ℕ) (line : X → List ℕ) (told : X → List ToldLine) → ((x : X) (rest : List ℕ) → line x ++ rest ≡ told_onto prefix (told x) rest)
    → (xs : List X) (rest : List ℕ) → flat_map line xs ++ rest ≡ told_onto prefix (flat_map told xs) rest
all_told prefix line told each [] rest = refl
all_told prefix line told each (x ∷ xs) rest =
    append_assoc (line x) (flat_map line xs) rest
    ∙ (ap (λ (t : List ℕ). line x ++ t) (all_told prefix line told each xs rest)
    ∙ (each x (told_onto prefix (flat_map told xs) rest)
    ∙ sym (told_append prefix (told x) (flat_map told xs) rest)))

place_told : (kind : Kind) (holder : Object) (slot : Slot) → listed_place kind holder slot ≡ place_text (string_bytes holder.name, told_number kind slot)
place_told Untyped holder slot = refl
place_told Endpoint holder slot = refl
place_told CNode holder slot = refl
place_told Tcb holder slot = refl

-- a line with a text behind it
line_onto : (prefix place held rest : List ℕ) → (prefix ++ (place ++ held)) ++ rest ≡ prefix ++ (place ++ (held ++ rest))
line_onto prefix place held rest = append_assoc prefix (place ++ held) rest ∙ ap (λ (t : List ℕ). prefix ++ t) (append_assoc place held rest)

held_told : (kind : Kind) (prefix : List ℕ) (place : ToldPlace) (object : Object) (slot : Slot) (rest : List ℕ)
    → prefix ++ (place_text place ++ (held_of kind object slot ++ rest)) ≡ row_onto prefix (row_of (told_held kind place object slot)) rest
held_told Untyped prefix place object slot rest = simp append_assoc
held_told Endpoint prefix place object slot rest = simp append_assoc
held_told CNode prefix place object slot rest = simp append_assoc
held_told Tcb prefix place object slot rest = simp append_assoc

slot_told : (prefix : List ℕ) (slot : Slot) (holder object : Option Object) (rest : List ℕ) → line_of prefix holder object slot ++ rest ≡ told_onto prefix (told_of_slot slot holder object) rest
slot_told prefix slot (Some holder) (Some object) rest =
    let place = place_told holder.kind holder slot in
    line_onto prefix (listed_place holder.kind holder slot) (held_of object.kind object slot) rest
    ∙ ((λ i. prefix ++ (place i ++ (held_of object.kind object slot ++ rest)))
    ∙ held_told object.kind prefix (told_place slot holder) object slot rest)
slot_told prefix slot (Some holder) None rest = refl
slot_told prefix slot None (Some object) rest = refl
slot_told prefix slot None None rest = refl

inactive_told : (prefix : List ℕ) (object : Object) (kind : Kind) (is : Bool) (rest : List ℕ) → inactive_of kind is prefix object ++ rest ≡ told_onto prefix (told_state kind is object) rest
inactive_told prefix object Tcb true rest = simp append_assoc
inactive_told prefix object _ _ rest = refl

in_told : (holder : Option Object) (slot : Slot) → holder_place holder slot ≡ either_text (option_map (told_place slot) holder)
in_told None slot = refl
in_told (Some holder) slot = place_told holder.kind holder slot

below_told : (prefix below above rest : List ℕ) → (prefix ++ (below ++ (codes " below " ++ (above ++ codes "\n")))) ++ rest ≡ row_onto prefix (below, codes "below", 32 ∷ above) rest
below_told prefix below above rest = simp append_assoc

pair_told : (prefix : List ℕ) (objects : List Object) (above below : Option Slot) (rest : List ℕ) → below_line prefix objects above below ++ rest ≡ told_onto prefix (told_pair objects above below) rest
pair_told prefix objects (Some above) (Some below) rest =
    let under = in_told (slice_get objects below.holder) below in
    let over = in_told (slice_get objects above.holder) above in
    (λ i. (prefix ++ (under i ++ (codes " below " ++ (over i ++ codes "\n")))) ++ rest)
    ∙ below_told prefix (either_text (option_map (told_place below) (slice_get objects below.holder))) (either_text (option_map (told_place above) (slice_get objects above.holder))) rest
pair_told prefix objects (Some above) None rest = refl
pair_told prefix objects None (Some below) rest = refl
pair_told prefix objects None None rest = refl

assumed_told : (prefix : List ℕ) (assumed : AssumedRights) → assumed_line assumed prefix ≡ told_onto prefix (told_assumed assumed) []
assumed_told prefix NoRights = refl
assumed_told prefix AllRights = refl
assumed_told prefix LeastRights = refl

listing_told : (prefix : List ℕ) (layout : Layout) → listing_lines prefix layout ≡ told_onto prefix (listing_tells layout) []
listing_told prefix layout =
    let objects = layout.objects.items in
    let slots = layout.slots.items in
    let pairs = layout.derived.items in
    let first = all_told prefix (listing_line prefix objects) (told_slot objects) (λ slot rest. slot_told prefix slot (slice_get objects slot.holder) (slice_get objects slot.object) rest) in
    let second = all_told prefix (inactive_line prefix) told_inactive (λ object rest. inactive_told prefix object object.kind object.is_inactive rest) in
    let third = all_told prefix (pair_line prefix objects slots) (told_derived objects slots) (λ pair rest. pair_told prefix objects (slice_get slots pair.0) (slice_get slots pair.1) rest) in
    let assumed = told_assumed layout.assumed in
    let lines = flat_map (pair_line prefix objects slots) pairs ++ assumed_line layout.assumed prefix in
    let told = flat_map (told_derived objects slots) pairs ++ assumed in
    let states = flat_map told_inactive objects in
    let end : lines ≡ told_onto prefix told [] =
    ap (λ (t : List ℕ). flat_map (pair_line prefix objects slots) pairs ++ t) (assumed_told prefix layout.assumed)
    ∙ (third pairs (told_onto prefix assumed []) ∙ sym (told_append prefix (flat_map (told_derived objects slots) pairs) assumed [])) in
    let middle : flat_map (inactive_line prefix) objects ++ lines ≡ told_onto prefix (states ++ told) [] =
    ap (λ (t : List ℕ). flat_map (inactive_line prefix) objects ++ t) end ∙ (second objects (told_onto prefix told []) ∙ sym (told_append prefix states told [])) in
    ap (λ (t : List ℕ). flat_map (listing_line prefix objects) slots ++ t) middle
    ∙ (first slots (told_onto prefix (states ++ told) []) ∙ sym (told_append prefix (flat_map (told_slot objects) slots) (states ++ told) []))

pub same_listings : (prefix : List ℕ) (a b : Layout) → Each IsWellNamed (listing_tells a) → Each IsWellNamed (listing_tells b) → listing_lines prefix a ≡ listing_lines prefix b → listing_tells a ≡ listing_tells b
same_listings prefix a b h k same = lines_apart prefix (listing_tells a) (listing_tells b) h k (sym (listing_told prefix a) ∙ (same ∙ listing_told prefix b))
