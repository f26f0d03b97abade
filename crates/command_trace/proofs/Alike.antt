-- How lines differ is a matter of the line at each address, in whatever order they stand.
use Rattle.std.proofs.Common.{◌≡◌, ℕ, Bool, true, false, ◌==◌, ◌&&◌, ◌||◌, zero, suc, All, cond, List, [], ◌∷◌, ◌++◌, map, Option, None, Some, ◌⊎◌, inl, inr, refl, sym, ap, subst, ◌∙◌, eq-eqb, arith}
use Rattle.std.specs.List.{AllByRecursion as Each, IsDistinct, filter, flat_map}
use Rattle.std.specs.List.Sorted.{IsNonDecreasingBy, IsPermutation, IsStrictlySortedBy}
use Rattle.std.specs.Ordering.{nat_cmp}
use Rattle.std.proofs.lemmas.Bool.Decides.{eqb_tells}
use Rattle.std.proofs.lemmas.List.Sorted.{All-permutation, IsPermutation-map}
use Rattle.setup_report.specs.State.{is_in, rising}
use Rattle.setup_report.proofs.Addresses.Rising.{any_rising, filter_rising, in_filter, rising_same, sorted_rising}
use Rattle.setup_report.proofs.Addresses.Slots.{sorted_numbers}
use Rattle.command_trace.specs.Lines.{Lines, address_line, line_at, lines_at}
use Rattle.command_trace.specs.Changes.{text_at, change, change_at, line_addresses, line_changes}
use Rattle.command_trace.specs.Views.{line_view}
use Rattle.command_trace.specs.Private.Rows.{AreLinesApart}
use Rattle.command_trace.specs.declared.lines.changes.StateLine.{StateLine}
use Rattle.command_trace.proofs.Views.{no_change}

-- ---- the addresses at which something is told are all that counts

abbrev is_some_text : List ℕ → Bool
is_some_text [] = false
is_some_text (x ∷ text) = true

told_alone : (g : ℕ → List ℕ) (xs : List ℕ) → flat_map g (filter (λ q. is_some_text (g q)) xs) ≡ flat_map g xs
told_alone g [] = refl
told_alone g (x ∷ xs) =
    elim (g x) as (λ t. g x ≡ t → flat_map g (cond (is_some_text t) (x ∷ filter (λ q. is_some_text (g q)) xs) (filter (λ q. is_some_text (g q)) xs)) ≡ t ++ flat_map g xs) [
      | [] ↦ λ e. told_alone g xs
      | y ∷ t ↦ λ e. λ i. e i ++ told_alone g xs i
    ] refl

-- nothing is told but at some addresses
abbrev TellsWithin : (ℕ → List ℕ) → List ℕ → Type 0
TellsWithin g xs = (q : ℕ) → is_in q xs ≡ false → is_some_text (g q) ≡ false

with_test : (test within : Bool) → (within ≡ false → test ≡ false) → (test && within) ≡ test
with_test true true h = refl
with_test true false h = sym (h refl)
with_test false within h = refl

told_there : (g : ℕ → List ℕ) (xs : List ℕ) → TellsWithin g xs → (q : ℕ) → is_in q (filter (λ r. is_some_text (g r)) xs) ≡ is_some_text (g q)
told_there g xs h q = in_filter (λ r. is_some_text (g r)) q xs ∙ with_test (is_some_text (g q)) (is_in q xs) (h q)

told_within : (g : ℕ → List ℕ) (xs ys : List ℕ) → TellsWithin g xs → TellsWithin g ys → flat_map g (rising xs) ≡ flat_map g (rising ys)
told_within g xs ys h k =
    let test : ℕ → Bool = λ q. is_some_text (g q) in
    sym (told_alone g (rising xs))
    ∙ ap (flat_map g) (filter_rising test xs ∙ rising_same (filter test xs) (filter test ys) (λ q. told_there g xs h q ∙ sym (told_there g ys k q)) ∙ sym (filter_rising test ys))
    ∙ told_alone g (rising ys)

-- ---- where an address is not of some lines, they have no line of it

or_false : (a b : Bool) → (a || b) ≡ false → (a ≡ false) × (b ≡ false)
or_false true b h = cc
or_false false b h = (refl, h)

pub other_way : (q x : ℕ) → (q == x) ≡ false → (x == q) ≡ false
other_way q x h =
    elim (eqb_tells x q) [
      | inl w ↦ absurd (let v : true ≡ false = sym (eq-eqb q x (sym w.1)) ∙ h in cc)
      | inr w ↦ w.0
    ]

pub not_there : (q : ℕ) (l : Lines) → is_in q (line_addresses l) ≡ false → text_at q l ≡ None
not_there q [] h = refl
not_there q (x ∷ l) h =
    let both = or_false (q == x.0) (is_in q (line_addresses l)) h in
    ap (λ b. cond b (Some x.1) (text_at q l)) (other_way q x.0 both.0) ∙ not_there q l both.1

any_append : (q : ℕ) (xs ys : List ℕ) → is_in q (xs ++ ys) ≡ false → (is_in q xs ≡ false) × (is_in q ys ≡ false)
any_append q [] ys h = (refl, h)
any_append q (x ∷ xs) ys h =
    let both = or_false (q == x) (is_in q (xs ++ ys)) h in
    let rest = any_append q xs ys both.1 in
    (λ i. both.0 i || rest.0 i, rest.1)

within_both : (a b : Lines) → TellsWithin (change_at a b) (line_addresses a ++ line_addresses b)
within_both a b q h =
    let both = any_append q (line_addresses a) (line_addresses b) h in
    λ i. is_some_text (change (not_there q a both.0 i) (not_there q b both.1 i))

flat_same : (f g : ℕ → List ℕ) (xs : List ℕ) → ((q : ℕ) → f q ≡ g q) → flat_map f xs ≡ flat_map g xs
flat_same f g [] h = refl
flat_same f g (x ∷ xs) h = λ i. h x i ++ flat_same f g xs h i

-- lines that change alike at each address are told alike
pub told_alike : (a b c d : Lines) → ((q : ℕ) → change_at a b q ≡ change_at c d q) → line_changes a b ≡ line_changes c d
told_alike a b c d h =
    let us = line_addresses a ++ line_addresses b in
    let vs = line_addresses c ++ line_addresses d in
    told_within (change_at a b) us vs (within_both a b) (λ q e. ap is_some_text (h q) ∙ within_both c d q e)
    ∙ flat_same (change_at a b) (change_at c d) (rising vs) h

pub told_of_same : (a b c d : Lines) → ((q : ℕ) → text_at q a ≡ text_at q c) → ((q : ℕ) → text_at q b ≡ text_at q d) → line_changes a b ≡ line_changes c d
told_of_same a b c d h k = told_alike a b c d (λ q. λ i. change (h q i) (k q i))

-- ---- lines one behind another

abbrev pub or_else : Option (List ℕ) → Option (List ℕ) → Option (List ℕ)
or_else None other = other
or_else (Some text) other = Some text

pub text_behind : (q : ℕ) (a b : Lines) → text_at q (a ++ b) ≡ or_else (text_at q a) (text_at q b)
text_behind q [] b = refl
text_behind q (x ∷ a) b =
    elim (x.0 == q) as (λ e. cond e (Some x.1) (text_at q (a ++ b)) ≡ or_else (cond e (Some x.1) (text_at q a)) (text_at q b)) [
      | true ↦ refl
      | false ↦ text_behind q a b
    ]

off_there : (q : ℕ) (l : Lines) → Each (λ (y : ℕ). (q == y) ≡ false) (line_addresses l) → is_in q (line_addresses l) ≡ false
off_there q [] h = refl
off_there q (x ∷ l) h = λ i. h.0 i || off_there q l h.1 i

each_behind : (P : ℕ → Type 0) (a b : Lines) → Each P (line_addresses (a ++ b)) → Each P (line_addresses b)
each_behind P [] b h = h
each_behind P (x ∷ a) b h = each_behind P a b h.1

each_front : (P : ℕ → Type 0) (a b : Lines) → Each P (line_addresses (a ++ b)) → Each P (line_addresses a)
each_front P [] b h = tt
each_front P (x ∷ a) b h = (h.0, each_front P a b h.1)

pub apart_behind : (a b : Lines) → AreLinesApart (a ++ b) → AreLinesApart b
unfolding IsDistinct
apart_behind [] b h = h
apart_behind (x ∷ a) b h = apart_behind a b h.1

pub apart_front : (a b : Lines) → AreLinesApart (a ++ b) → AreLinesApart a
unfolding IsDistinct
apart_front [] b h = tt
apart_front (x ∷ a) b h = (each_front (λ y. (x.0 == y) ≡ false) a b h.0, apart_front a b h.1)

-- an address of the first lines is none of those behind them
none_behind : (q : ℕ) (a b : Lines) → AreLinesApart (a ++ b) → (t : List ℕ) → text_at q a ≡ Some t → text_at q b ≡ None
unfolding IsDistinct
none_behind q [] b h t is = cc
none_behind q (x ∷ a) b h t is =
    elim (eqb_tells x.0 q) [
      | inl w ↦ not_there q b (off_there q b (subst (λ y. Each (λ (z : ℕ). (y == z) ≡ false) (line_addresses b)) w.1 (each_behind (λ y. (x.0 == y) ≡ false) a b h.0)))
      | inr w ↦ none_behind q a b h.1 t (sym (ap (λ e. cond e (Some x.1) (text_at q a)) w.0) ∙ is)
    ]

-- ---- what two lists have in common at both ends is not told

-- of two lines at one address at most one is there
abbrev NotBoth : Option (List ℕ) → Option (List ℕ) → Type 0
NotBoth x y = (t : List ℕ) → x ≡ Some t → y ≡ None

cut_off : (x o n z : Option (List ℕ)) → NotBoth x o → NotBoth x n → NotBoth o z → NotBoth n z →
    change (or_else x (or_else o z)) (or_else x (or_else n z)) ≡ change o n
cut_off (Some t) o n z a b c d = no_change (Some t) ∙ sym (λ i. change (a t refl i) (b t refl i))
cut_off None (Some s) (Some t) z a b c d = refl
cut_off None (Some s) None z a b c d = ap (change (Some s)) (c s refl)
cut_off None None (Some t) z a b c d = ap (λ y. change y (Some t)) (d t refl)
cut_off None None None z a b c d = no_change z

front_only : (x o z : Option (List ℕ)) → NotBoth x (or_else o z) → NotBoth x o
front_only x None z h = λ t e. refl
front_only x (Some s) z h = h

module _ (before old new after : Lines) (a : AreLinesApart (before ++ (old ++ after))) (b : AreLinesApart (before ++ (new ++ after))) where
  apart_from : (q : ℕ) (l : Lines) → AreLinesApart (before ++ (l ++ after)) → NotBoth (text_at q before) (text_at q l)
  apart_from q l h =
      front_only (text_at q before) (text_at q l) (text_at q after)
      (λ t e. sym (text_behind q l after) ∙ none_behind q before (l ++ after) h t e)

  behind : (q : ℕ) (l : Lines) → AreLinesApart (before ++ (l ++ after)) → NotBoth (text_at q l) (text_at q after)
  behind q l h = none_behind q l after (apart_behind before (l ++ after) h)

  placed : (q : ℕ) (l : Lines) → text_at q (before ++ (l ++ after)) ≡ or_else (text_at q before) (or_else (text_at q l) (text_at q after))
  placed q l = text_behind q before (l ++ after) ∙ ap (or_else (text_at q before)) (text_behind q l after)

  pub ends_apart : line_changes (before ++ (old ++ after)) (before ++ (new ++ after)) ≡ line_changes old new
  ends_apart =
      told_alike (before ++ (old ++ after)) (before ++ (new ++ after)) old new
      (λ q. (λ i. change (placed q old i) (placed q new i))
      ∙ cut_off (text_at q before) (text_at q old) (text_at q new) (text_at q after) (apart_from q old a) (apart_from q new b) (behind q old a) (behind q new b))

-- ---- lines in another order

found_in : (q : ℕ) (all l : Lines) → Each (λ (x : ℕ × List ℕ). text_at x.0 all ≡ Some x.1) l → is_in q (line_addresses all) ≡ is_in q (line_addresses l) → text_at q l ≡ text_at q all
found_in q all l h same = by l h (λ none. not_there q all (same ∙ none))
  where
    by : (l : Lines) → Each (λ (x : ℕ × List ℕ). text_at x.0 all ≡ Some x.1) l → (is_in q (line_addresses l) ≡ false → text_at q all ≡ None) → text_at q l ≡ text_at q all
    by [] h none = sym (none refl)
    by (x ∷ l) h none =
        elim (eqb_tells x.0 q) [
          | inl w ↦ ap (λ e. cond e (Some x.1) (text_at q l)) w.0 ∙ sym (sym (ap (λ y. text_at y all) w.1) ∙ h.0)
          | inr w ↦ ap (λ e. cond e (Some x.1) (text_at q l)) w.0 ∙ by l h.1 (λ e. none (λ i. other_way x.0 q w.0 i || e i))
        ]

each_past : (x : ℕ × List ℕ) (all l : Lines) → Each (λ (y : ℕ). (x.0 == y) ≡ false) (line_addresses l) → Each (λ (y : ℕ × List ℕ). text_at y.0 all ≡ Some y.1) l →
    Each (λ (y : ℕ × List ℕ). text_at y.0 (x ∷ all) ≡ Some y.1) l
each_past x all [] h k = tt
each_past x all (y ∷ l) h k = (ap (λ e. cond e (Some x.1) (text_at y.0 all)) h.0 ∙ k.0, each_past x all l h.1 k.1)

-- each line of lines that are apart is found there
pub each_found : (l : Lines) → AreLinesApart l → Each (λ (x : ℕ × List ℕ). text_at x.0 l ≡ Some x.1) l
unfolding IsDistinct
each_found [] h = tt
each_found (x ∷ l) h = (
  ap (λ e. cond e (Some x.1) (text_at x.0 l)) (eq-eqb x.0 x.0 refl),
  each_past x l l h.0 (each_found l h.1),
)

pub in_other_order : (xs ys : Lines) → Each (λ (x : ℕ × List ℕ). text_at x.0 xs ≡ Some x.1) ys → line_addresses ys ≡ rising (line_addresses xs) → (q : ℕ) → text_at q ys ≡ text_at q xs
in_other_order xs ys h same q = found_in q xs ys h (sym (ap (is_in q) same ∙ any_rising (λ a. q == a) (line_addresses xs)))

each_all : {X : Type 0} (P : X → Type 0) (xs : List X) → Each P xs → All P xs
each_all P [] h k d lt = absurd (omega (arith, lt))
each_all P (x ∷ xs) h zero d lt = h.0
each_all P (x ∷ xs) h (suc k) d lt = each_all P xs h.1 k d (omega (arith, lt))

all_each : {X : Type 0} (P : X → Type 0) (xs : List X) → All P xs → Each P xs
all_each P [] h = tt
all_each P (x ∷ xs) h = (h 0 x (omega arith), all_each P xs (λ k d lt. h (suc k) d (omega (arith, lt))))

addressed : (lines : List StateLine) → line_addresses (map line_view lines) ≡ map (λ (l : StateLine). l.address) lines
addressed [] = refl
addressed (l ∷ lines) = ap (λ xs. l.address ∷ xs) (addressed lines)

-- lines that are sorted by their addresses
module _ (xs ys : List StateLine) (moved : IsPermutation xs ys) (order : IsNonDecreasingBy (λ (l : StateLine). l.address) ys) (apart : AreLinesApart (map line_view xs)) where
  sorted_addresses : line_addresses (map line_view ys) ≡ rising (line_addresses (map line_view xs))
  sorted_addresses =
      addressed ys
      ∙ sorted_numbers (λ (l : StateLine). l.address) xs ys moved order (subst (IsDistinct (λ (a b : ℕ). a == b)) (addressed xs) apart)
      ∙ ap rising (sym (addressed xs))

  pub sorted_rise : IsStrictlySortedBy nat_cmp (line_addresses (map line_view ys))
  sorted_rise = subst (IsStrictlySortedBy nat_cmp) (sym sorted_addresses) (sorted_rising (line_addresses (map line_view xs)))

  pub sorted_same : (q : ℕ) → text_at q (map line_view ys) ≡ text_at q (map line_view xs)
  sorted_same =
      let all = map line_view xs in
      let P : ℕ × List ℕ → Type 0 = λ x. text_at x.0 all ≡ Some x.1 in
      in_other_order all (map line_view ys) (all_each P (map line_view ys) (All-permutation P all (map line_view ys) (IsPermutation-map line_view xs ys moved) (each_all P all (each_found all apart)))) sorted_addresses

-- ---- the line at an address of those at some addresses

pub line_first : (q x : ℕ) (l : Lines) (o : Option (List ℕ)) → text_at q (address_line x o ++ l) ≡ or_else (cond (x == q) o None) (text_at q l)
line_first q x l None = elim (x == q) as (λ b. text_at q l ≡ or_else (cond b None None) (text_at q l)) [ true ↦ refl | false ↦ refl ]
line_first q x l (Some t) = elim (x == q) as (λ b. cond b (Some t) (text_at q l) ≡ or_else (cond b (Some t) None) (text_at q l)) [ true ↦ refl | false ↦ refl ]

text_of_lines : (f : ℕ → Option (List ℕ)) (q : ℕ) (xs : List ℕ) → text_at q (flat_map (line_at f) xs) ≡ cond (is_in q xs) (f q) None
text_of_lines f q [] = refl
text_of_lines f q (x ∷ xs) =
    line_first q x (flat_map (line_at f) xs) (f x)
    ∙ ap (or_else (cond (x == q) (f x) None)) (text_of_lines f q xs)
    ∙ by (eqb_tells x q)
  where
    goal : Bool → Bool → Type 0
    goal e s = or_else (cond e (f x) None) (cond (is_in q xs) (f q) None) ≡ cond (s || is_in q xs) (f q) None

    both : (o : Option (List ℕ)) (b : Bool) → or_else o (cond b o None) ≡ o
    both None true = refl
    both None false = refl
    both (Some t) b = refl

    by : (((x == q) ≡ true) × (x ≡ q)) ⊎ (((x == q) ≡ false) × (x ≡ q → ⊥)) → goal (x == q) (q == x)
    by (inl w) =
        subst (goal (x == q)) (sym (eq-eqb q x (sym w.1)))
        (subst (λ e. goal e true) (sym w.0) (ap (λ y. or_else (f y) (cond (is_in q xs) (f q) None)) w.1 ∙ both (f q) (is_in q xs)))
    by (inr w) = subst (goal (x == q)) (sym (other_way x q w.0)) (subst (λ e. goal e false) (sym w.0) refl)

pub text_of_rising : (f : ℕ → Option (List ℕ)) (q : ℕ) (xs : List ℕ) → (is_in q xs ≡ false → f q ≡ None) → text_at q (lines_at f xs) ≡ f q
text_of_rising f q xs none =
    text_of_lines f q (rising xs) ∙ ap (λ b. cond b (f q) None) (any_rising (λ a. q == a) xs)
    ∙ elim (is_in q xs) as (λ b. is_in q xs ≡ b → cond b (f q) None ≡ f q) [
      | true ↦ λ e. refl
      | false ↦ λ e. sym (none e)
    ] refl
