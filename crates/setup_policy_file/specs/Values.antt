-- The values of a policy's keys: what each is read as, and none where it is not taken.
use Rattle.std.specs.Prelude.{codes, ℕ, ◌+◌, ◌*◌, ◌-◌, ◌^◌, ℤ, pos, negsuc, List, [], ◌∷◌, length, Bool, true, false, not, ◌&&◌, ◌||◌, ◌==◌, nat_lt, bit_or, if◌then◌else◌, Option, Some, None, option_and_then, option_map, string_bytes, Result, Ok, Err}
use Rattle.std.specs.Str.{bytes_eq}
use Rattle.std.specs.List.{list_all, list_any}
use Rattle.std.specs.Char.{is_ascii_digit, is_ascii_alphanumeric}
use Rattle.toml.specs.Data.{Data, as_integer, as_str, as_bool, as_array}
use Rattle.cap_core.specs.declared.profile.ProfileName.TheVariants.{Wide}
use Rattle.cap_core.specs.declared.rights.Rights.{Rights}
use Rattle.cap_core.specs.Rights.{write_bit, read_bit, grant_bit, grant_reply_bit}
use Rattle.setup_policy.specs.declared.policy.PolicyVersion.{PolicyVersion}
use Rattle.setup_policy.specs.declared.policy.PolicyVersion.TheVariants.{One, Two}
use Rattle.setup_values.specs.Kinds as kinds
use Rattle.setup_policy_file.specs.declared.file.Word.{Word}
use Rattle.setup_policy_file.specs.declared.file.Word.TheVariants as w

-- a word for a thread, an endpoint or a region: a number, or a name
pub data WordView : Type 0 where
  number : ℕ → WordView
  name : List ℕ → WordView

abbrev pub word_view : Word → WordView
word_view (w.Number n) = number n
word_view (w.Name s) = name (string_bytes s)

-- an integer from 0 on
abbrev pub natural : ℤ → Option ℕ
natural (pos n) = Some n
natural (negsuc n) = None

abbrev pub number_of : Data → Option ℕ
number_of d = option_and_then natural (as_integer d)

-- the version of the form
abbrev pub version_numbered : ℕ → Option PolicyVersion
version_numbered n = if n == 1 then Some One else if n == 2 then Some Two else None

abbrev pub version_of : Data → Option PolicyVersion
version_of d = option_and_then version_numbered (number_of d)

abbrev pub switch_of : Data → Option Bool
switch_of = as_bool

-- a group's name: 1 to 40 letters, digits, _ and -; 95 is _ and 45 is -
abbrev pub is_name_byte : ℕ → Bool
is_name_byte c = is_ascii_alphanumeric c || (c == 95 || c == 45)

abbrev pub is_group_name : List ℕ → Bool
is_group_name t = kinds.between 1 40 (length t) && list_all is_name_byte t

abbrev pub if_group_name : List ℕ → Option (List ℕ)
if_group_name t = if is_group_name t then Some t else None

abbrev pub group_name_of : Data → Option (List ℕ)
group_name_of d = option_and_then if_group_name (as_str d)

-- the number of decimal digits, behind those that stand for the first number; none where it is not below 2^64
abbrev pub decimal_after : ℕ → List ℕ → Option ℕ
decimal_after n [] = Some n
decimal_after n (c ∷ cs) = if is_ascii_digit c && nat_lt (n * 10 + (c - 48)) (2 ^ 64) then decimal_after (n * 10 + (c - 48)) cs else None

-- a text without an @ before it; 64 is @
abbrev pub without_at : List ℕ → List ℕ
without_at [] = []
without_at (c ∷ cs) = if c == 64 then cs else c ∷ cs

abbrev pub number_or : List ℕ → Option ℕ → WordView
number_or t None = name t
number_or t (Some n) = number n

abbrev pub word_if : List ℕ → WordView → Option WordView
word_if [] word = None
word_if (c ∷ cs) word = Some word

-- digits alone are a number, and another text is a name
abbrev pub word_in : List ℕ → Option WordView
word_in t = word_if (without_at t) (number_or (without_at t) (decimal_after 0 t))

abbrev pub word_by : Option ℤ → Option (List ℕ) → Option WordView
word_by (Some z) t = option_map number (natural z)
word_by None t = option_and_then word_in t

abbrev pub word_of : Data → Option WordView
word_of d = word_by (as_integer d) (as_str d)

-- lists
abbrev pub elements_of : Data → Option (List Data)
elements_of d = option_map kinds.item_list (as_array d)

abbrev pub and_more : {A : Type 0} → Option A → Option (List A) → Option (List A)
and_more (Some x) (Some xs) = Some (x ∷ xs)
and_more _ _ = None

-- what each is read as; none where one of them is not taken
abbrev pub all_of : {A B : Type 0} → (A → Option B) → List A → Option (List B)
all_of read [] = Some []
all_of read (x ∷ xs) = and_more (read x) (all_of read xs)

abbrev pub list_of : {A : Type 0} → (Data → Option A) → Data → Option (List A)
list_of read d = option_and_then (all_of read) (elements_of d)

-- ---- one value, or in version 2 a list of them

-- a list is not empty
abbrev pub if_any : List Data → Option (List Data)
if_any [] = None
if_any (d ∷ ds) = Some (d ∷ ds)

abbrev pub elements_or : Data → Option (List Data) → Option (List Data)
elements_or d None = Some (d ∷ [])
elements_or d (Some ds) = if_any ds

-- the values at a key: version 1 knows no lists here
abbrev pub values_in : PolicyVersion → Data → Option (List Data)
values_in One d = Some (d ∷ [])
values_in Two d = elements_or d (elements_of d)

abbrev pub one_or_more : {A : Type 0} → PolicyVersion → (Data → Option A) → Data → Option (List A)
one_or_more version read d = option_and_then (all_of read) (values_in version d)

-- no element is the same as one behind it
abbrev pub are_apart : {A : Type 0} → (A → A → Bool) → List A → Bool
are_apart same [] = true
are_apart same (x ∷ xs) = not (list_any (same x) xs) && are_apart same xs

abbrev pub if_apart : {A : Type 0} → (A → A → Bool) → List A → Option (List A)
if_apart same xs = if are_apart same xs then Some xs else None

abbrev pub is_same_word : WordView → WordView → Bool
is_same_word (number m) (number n) = m == n
is_same_word (name s) (name t) = bytes_eq s t
is_same_word v w = false

-- a badge: "any", or a number from 1 on, also behind 0x; 0 stands for any
abbrev pub if_positive : {E : Type 0} → Result ℕ E → Option ℕ
if_positive (Ok n) = if nat_lt 0 n then Some n else None
if_positive (Err e) = None

abbrev pub is_any : Option (List ℕ) → Bool
is_any None = false
is_any (Some t) = bytes_eq t (codes "any")

abbrev pub badge_of : Data → Option ℕ
badge_of d = if is_any (as_str d) then Some 0 else if_positive (kinds.word Wide [] d)

-- rights, by their letters: 119 is w, 114 is r, 103 is g, 112 is p, and 45 is -
abbrev pub with_bit : Rights → ℕ → Option Rights
with_bit r b = Some (record { 0 = bit_or r.0 b })

abbrev pub with_letter : Rights → ℕ → Option Rights
with_letter r c =
    if c == 119 then with_bit r write_bit
    else if c == 114 then with_bit r read_bit
    else if c == 103 then with_bit r grant_bit
    else if c == 112 then with_bit r grant_reply_bit
    else if c == 45 then Some r
    else None

abbrev pub with_letters : Rights → List ℕ → Option Rights
with_letters r [] = Some r
with_letters r (c ∷ cs) = option_and_then (λ more. with_letters more cs) (with_letter r c)

abbrev pub rights_of : Data → Option Rights
rights_of d = option_and_then (with_letters (record { 0 = 0 })) (as_str d)
