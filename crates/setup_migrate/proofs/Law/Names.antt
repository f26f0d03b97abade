-- The names of a migrated set-up are read as what they were made of.
use Rattle.std.proofs.Common.{◌≡◌, ℕ, zero, suc, ◌+◌, ◌^◌, ◌<◌, ◌≤◌, Bool, true, false, cond, nat_lt, pos, List, [], ◌∷◌, ◌++◌, length, map, find, Option, Some, option_map, Ok, Ordering, Less, Equal, Greater, nat_cmp, is_eq, refl, sym, ap, ◌∙◌, inl, inr, ◌⊎◌, arith, length-append, is_err, le-leb, ◌%◌, subst, ◌||◌}
use Rattle.std.proofs.lemmas.Bool.{cases_Bool}
use Rattle.std.proofs.lemmas.Bool.Decides.{nat_tests}
use Rattle.std.proofs.lemmas.Cmp.{nat_list_cmp_total}
use Rattle.std.proofs.lemmas.Fmt.{decimal_injective, decimal_by_steps, length-decimal-le}
use Rattle.std.proofs.lemmas.List.{append_cancel_left}
use Rattle.std.proofs.lemmas.List.Folds.{list_all-append}
use Rattle.std.proofs.lemmas.List.FromFn.{map-range_with_len_more}
use Rattle.std.proofs.lemmas.Map.Text.{is_eq-slice_cmp}
use Rattle.std.specs.Cmp.Lexicographic.{slice_cmp}
use Rattle.std.specs.Fmt.{decimal}
use Rattle.std.specs.List.{list_all, range_with_len, filter}
use Rattle.std.specs.Ordering.{match_ordering, ordering_reverse}
use Rattle.std.specs.Str.{bytes_eq}
use Rattle.toml.specs.Data.{Data, integer, table, Members, no_members, member, get_member, same_key}
use Rattle.cap_core.specs.declared.profile.ProfileName.{ProfileName}
use Rattle.cap_core.specs.Numbers.{word_bits}
use Rattle.setup_values.specs.Names.{Names, word_named}
use Rattle.setup_values.specs.Keys.{entries_of}
use Rattle.setup_values.specs.Kinds.{between, each, is_name, is_name_byte, entry, names, word}
use Rattle.setup_migrate.specs.Migration.{with_member, with_words, numbered_names}
use Rattle.setup_migrate.proofs.Parts.{get_with, get_with_other, texts_tied, cases_ordering}

-- ---- a table of names and their words

-- a text that may stand as a name, and a word
pub record IsNamed (p : ProfileName) (k : List ℕ) (d : Data) : Type 0 where
  pub name : is_name k ≡ true
  pub word : ℕ
  pub value : d ≡ integer (pos word)
  pub fits : word < 2 ^ word_bits p

abbrev pub AreNamed : ProfileName → Members → Type 0
AreNamed p no_members = Unit {0}
AreNamed p (member k d ms) = IsNamed p k d × AreNamed p ms

pub named-with : (p : ProfileName) (k : List ℕ) (d : Data) (ms : Members) → IsNamed p k d → AreNamed p ms → AreNamed p (with_member k d ms)
named-with p k d no_members h hs = (h, tt)
named-with p k d (member l e ms) h hs =
    elim (cases_ordering (slice_cmp nat_cmp k l)) [
      | inl less ↦ rw less (h, hs)
      | inr other ↦ elim other [
        | inl tie ↦ rw tie (record { name = hs.0.name; word = h.word; value = h.value; fits = h.fits }, hs.1)
        | inr more ↦ rw more (hs.0, named-with p k d ms h hs.1)
      ]
    ]

-- each of some names may stand as one, and has a word
abbrev pub AllNamed : ProfileName → Names → Type 0
AllNamed p [] = Unit {0}
AllNamed p (n ∷ ns) = ((is_name n.0 ≡ true) × (n.1 < 2 ^ word_bits p)) × AllNamed p ns

pub named-with_words : (p : ProfileName) (ns : Names) (ms : Members) → AllNamed p ns → AreNamed p ms → AreNamed p (with_words ns ms)
named-with_words p [] ms hs h = h
named-with_words p (n ∷ ns) ms hs h =
    named-with_words p ns (with_member n.0 (integer (pos n.1)) ms) hs.1
    (named-with p n.0 (integer (pos n.1)) ms (record { name = hs.0.0; word = n.1; value = refl; fits = hs.0.1 }) h)

pub all_named-append : (p : ProfileName) (ms ns : Names) → AllNamed p ms → AllNamed p ns → AllNamed p (ms ++ ns)
all_named-append p [] ns h k = k
all_named-append p (m ∷ ms) ns h k = (h.0, all_named-append p ms ns h.1 k)

pub with_words-append : (ms ns : Names) (t : Members) → with_words (ms ++ ns) t ≡ with_words ns (with_words ms t)
with_words-append [] ns t = refl
with_words-append (m ∷ ms) ns t = with_words-append ms ns (with_member m.0 (integer (pos m.1)) t)

-- ---- what such a table is read as

abbrev pub word_in : Data → ℕ
word_in (integer (pos n)) = n
word_in d = 0

abbrev pub names_read : Members → Names
names_read no_members = []
names_read (member k d ms) = (k, word_in d) ∷ names_read ms

entry_read : (p : ProfileName) (k : List ℕ) (d : Data) → IsNamed p k d → entry p (k, d) ≡ Ok (k, word_in d)
entry_read p k d h = rw (h.name, h.value, le-leb (suc h.word) (2 ^ word_bits p) h.fits)

none_at_fault : (p : ProfileName) (ms : Members) → AreNamed p ms → filter (λ e. is_err (entry p e)) (entries_of ms) ≡ []
none_at_fault p no_members hs = refl
none_at_fault p (member k d ms) hs = rw (entry_read p k d hs.0) (none_at_fault p ms hs.1)

each_read : (p : ProfileName) (n : ℕ) (ms : Members) → AreNamed p ms → each (λ _. entry p) n (entries_of ms) ≡ Ok (names_read ms)
unfolding each
each_read p n no_members hs = refl
each_read p n (member k d ms) hs = rw (entry_read p k d hs.0, each_read p (n + 1) ms hs.1)

pub names_of_table : (p : ProfileName) (ms : Members) → AreNamed p ms → names p (table ms) ≡ Ok (names_read ms)
names_of_table p ms hs = rw (none_at_fault p ms hs) (each_read p 0 ms hs)

-- ---- a name's word

same_bytes : (k l : List ℕ) → bytes_eq l k ≡ is_eq (slice_cmp nat_cmp k l)
same_bytes k l = sym (is_eq-slice_cmp l k) ∙ (ap is_eq (nat_list_cmp_total.antisymm l k) ∙ turned (slice_cmp nat_cmp k l))
  where
    turned : (o : Ordering) → is_eq (ordering_reverse o) ≡ is_eq o
    turned Less = refl
    turned Equal = refl
    turned Greater = refl

found_at : (o : Ordering) (k : List ℕ) (d : Data) (found : Option (List ℕ × ℕ)) (rest : Option Data) → option_map (λ (n : List ℕ × ℕ). n.1) found ≡ option_map word_in rest
    → option_map (λ (n : List ℕ × ℕ). n.1) (cond (is_eq o) (Some (k, word_in d)) found) ≡ option_map word_in (match_ordering o rest (Some d) rest)
found_at Less k d found rest e = e
found_at Equal k d found rest e = refl
found_at Greater k d found rest e = e

pub word_named_read : (key : List ℕ) (ms : Members) → word_named (names_read ms) key ≡ option_map word_in (get_member key ms)
word_named_read key no_members = refl
word_named_read key (member k d ms) =
    rw (same_bytes key k) (found_at (slice_cmp nat_cmp key k) k d (find (λ n. bytes_eq n.0 key) (names_read ms)) (get_member key ms) (word_named_read key ms))

-- ---- numbered names

pub apart_numbers : (prefix : List ℕ) (i j : ℕ) → i < 2 ^ 64 → j < 2 ^ 64 → (i ≡ j → ⊥) → same_key (prefix ++ decimal i) (prefix ++ decimal j) ≡ false
apart_numbers prefix i j hi hj differ =
    elim (cases_Bool (same_key (prefix ++ decimal i) (prefix ++ decimal j))) [
      | inl same ↦ absurd (differ (decimal_injective i j hi hj (append_cancel_left prefix (decimal i) (decimal j) (texts_tied _ _ same))))
      | inr other ↦ other
    ]

pub numbered-more : (prefix : List ℕ) (word : ℕ → ℕ) (n : ℕ) (t : Members)
    → with_words (numbered_names prefix word (n + 1)) t ≡ with_member (prefix ++ decimal n) (integer (pos (word n))) (with_words (numbered_names prefix word n) t)
numbered-more prefix word n t =
    ap (λ ns. with_words ns t) (map-range_with_len_more (λ i. (prefix ++ decimal i, word i)) 0 n n (omega arith))
    ∙ with_words-append (numbered_names prefix word n) ((prefix ++ decimal n, word n) ∷ []) t

last_or_before : (i n : ℕ) → i < n + 1 → (i ≡ n) ⊎ (i < n)
last_or_before i n lt =
    elim (cases_Bool (nat_lt i n)) [
      | inl less ↦ inr (grind (arith, nat_tests))
      | inr more ↦ inl (grind (arith, nat_tests))
    ]

-- the word of one of so many names, where one more is put into the table
get_more : (prefix : List ℕ) (word : ℕ → ℕ) (n i : ℕ) (t : Members) → n < 2 ^ 64 → (i ≡ n) ⊎ (i < n) → (i < n → get_member (prefix ++ decimal i) t ≡ Some (integer (pos (word i))))
    → get_member (prefix ++ decimal i) (with_member (prefix ++ decimal n) (integer (pos (word n))) t) ≡ Some (integer (pos (word i)))
get_more prefix word n i t fits (inl e) before = rw e (get_with (prefix ++ decimal n) (integer (pos (word n))) t)
get_more prefix word n i t fits (inr less) before =
    get_with_other (prefix ++ decimal i) (prefix ++ decimal n) (integer (pos (word n))) t (apart_numbers prefix i n (omega arith) fits (λ e. absurd (omega arith))) ∙ before less

pub get_numbered : (prefix : List ℕ) (word : ℕ → ℕ) (n i : ℕ) (t : Members) → i < n → n ≤ 2 ^ 64 → get_member (prefix ++ decimal i) (with_words (numbered_names prefix word n) t) ≡ Some (integer (pos (word i)))
get_numbered prefix word zero i t lt le = absurd (omega arith)
get_numbered prefix word (suc n) i t lt le =
    let more : suc n ≡ n + 1 = omega arith in
    let fits : n < 2 ^ 64 = omega arith in
    subst (λ m. get_member (prefix ++ decimal i) (with_words (numbered_names prefix word m) t) ≡ Some (integer (pos (word i)))) (sym more)
    (ap (get_member (prefix ++ decimal i)) (numbered-more prefix word n t)
    ∙ get_more prefix word n i (with_words (numbered_names prefix word n) t) fits (last_or_before i n (omega arith)) (λ less. get_numbered prefix word n i t less (omega arith)))

or_true : (b : Bool) → (b || true) ≡ true
or_true true = refl
or_true false = refl

name_bytes : (n : ℕ) → n < 2 ^ 64 → list_all is_name_byte (decimal n) ≡ true
name_bytes n h = decimal_by_steps (λ _ ds. list_all is_name_byte ds ≡ true) one more n h
  where
    digit_byte : (n : ℕ) → n < 10 → is_name_byte (48 + n) ≡ true
    digit_byte n h = rw (le-leb 48 (48 + n) (omega arith), le-leb (48 + n) 57 (omega arith)) (or_true (between 97 122 (48 + n)))

    one : (n : ℕ) → n < 10 → list_all is_name_byte ((48 + n) ∷ []) ≡ true
    one n h = rw (digit_byte n h)

    more : (n : ℕ) (ds : List ℕ) → 10 ≤ n → list_all is_name_byte ds ≡ true → list_all is_name_byte (ds ++ ((48 + n % 10) ∷ [])) ≡ true
    more n ds h e = rw (list_all-append, e, digit_byte (n % 10) (omega arith))

-- a prefix of at most 20 of a name's bytes, and a number of at most three digits
pub is_name-numbered : (prefix : List ℕ) (i : ℕ) → 1 ≤ length prefix → length prefix ≤ 20 → list_all is_name_byte prefix ≡ true → i < 1000 → is_name (prefix ++ decimal i) ≡ true
is_name-numbered prefix i some few bytes small =
    let digits : length (decimal i) ≤ 3 = length-decimal-le 3 i (omega arith) (omega arith) (omega arith) in
    let long : length (prefix ++ decimal i) ≡ length prefix + length (decimal i) = length-append prefix (decimal i) in
    rw (list_all-append, bytes, name_bytes i (omega arith), le-leb 1 (length (prefix ++ decimal i)) (omega arith), le-leb (length (prefix ++ decimal i)) 40 (omega arith))

pub all_named-numbered : (p : ProfileName) (prefix : List ℕ) (word : ℕ → ℕ) (a n : ℕ) → 1 ≤ length prefix → length prefix ≤ 20 → list_all is_name_byte prefix ≡ true → a + n ≤ 1000
    → ((i : ℕ) → i < a + n → word i < 2 ^ word_bits p) → AllNamed p (map (λ i. (prefix ++ decimal i, word i)) (range_with_len a n))
all_named-numbered p prefix word a zero some few bytes small fits = tt
all_named-numbered p prefix word a (suc n) some few bytes small fits = (
  (is_name-numbered prefix a some few bytes (omega arith), fits a (omega arith)),
  all_named-numbered p prefix word (a + 1) n some few bytes (omega arith) (λ i lt. fits i (omega arith)),
)

-- ---- the names of several kinds, one after another

abbrev numbered_from : List ℕ → (ℕ → ℕ) → ℕ → ℕ → Names
numbered_from prefix f a n = map (λ i. (prefix ++ decimal i, f i)) (range_with_len a n)

numbered_same : (prefix : List ℕ) (f g : ℕ → ℕ) (a n : ℕ) → ((i : ℕ) → f i ≡ g i) → numbered_from prefix f a n ≡ numbered_from prefix g a n
numbered_same prefix f g a zero h = refl
numbered_same prefix f g a (suc n) h =
    let rest = numbered_same prefix f g (a + 1) n h in
    ap (λ w. (prefix ++ decimal a, w) ∷ numbered_from prefix f (a + 1) n) (h a) ∙ ap (λ (ns : Names). (prefix ++ decimal a, g a) ∷ ns) rest

-- names after others, where their number and each word is another's
pub added : (prefix : List ℕ) (f g : ℕ → ℕ) (count wanted : ℕ) (t before u : Members) → u ≡ with_words (numbered_names prefix g count) t → t ≡ before → count ≡ wanted
    → ((i : ℕ) → g i ≡ f i) → u ≡ with_words (numbered_names prefix f wanted) before
added prefix f g count wanted t before u e same counted words =
    e ∙ (ap (λ ns. with_words ns t) (numbered_same prefix g f 0 count words) ∙ (ap (λ n. with_words (numbered_names prefix f n) t) counted ∙ ap (with_words (numbered_names prefix f wanted)) same))
