-- The kinds of value: what each accepts, and what is wrong with any other value.
use Rattle.std.specs.Prelude.{codes, ℕ, ◌+◌, ◌-◌, ◌*◌, ◌^◌, ℤ, pos, negsuc, List, [], ◌∷◌, ◌++◌, length, take, drop, replicate, Bool, ◌&&◌, ◌||◌, ◌==◌, is_err, nat_lt, nat_le, if◌then◌else◌, Option, Some, None, option_and_then, Result, Ok, Err}
use Rattle.std.specs.Str.{bytes_eq}
use Rattle.std.specs.List.{list_all, filter}
use Rattle.toml.specs.Data.{Data, as_integer, as_str, as_array, as_table, Items, no_items, item, Members}
use Rattle.cap_core.specs.declared.profile.ProfileName.{ProfileName}
use Rattle.cap_core.specs.declared.profile.ProfileName.TheVariants.{Wide, Narrow}
use Rattle.cap_core.specs.Limits.{max_message_words}
use Rattle.cap_core.specs.declared.rights.Rights.{Rights}
use Rattle.cap_core.specs.Checks.{◌>>=◌}
use Rattle.cap_core.specs.Numbers.{word_bits, label_bits}
use Rattle.cap_core.specs.Rights.{all_rights}
use Rattle.setup_values.specs.Limits.{max_expect_bytes, max_name_bytes}
use Rattle.setup_values.specs.declared.operations.OpName.{OpName}
use Rattle.setup_values.specs.declared.values.Words.{Words}
use Rattle.setup_values.specs.declared.values.Wrong.{Wrong}
use Rattle.setup_values.specs.declared.values.Wrong.TheVariants.{Unknown, Missing, OtherType, OtherValue}
use Rattle.setup_values.specs.Names.{Names, word_named}
use Rattle.setup_values.specs.Keys.{entries_of, least}
use Rattle.setup_values.specs.Operations.{op_named}

-- ---- the number of what is wrong with a value or at its key

-- the number of what is wrong at a key
abbrev pub wrong_code : Wrong → ℕ
wrong_code Unknown = 201
wrong_code Missing = 202
wrong_code OtherType = 203
wrong_code OtherValue = 204

-- ---- what is read

-- what a function returned, if its value is seen by a view: a function that reads by a kind promises of this
-- that it is what the kind says of the value
abbrev pub seen : {X A E : Type 0} → (X → A) → Result X E → Result A E
seen view (Ok x) = Ok (view x)
seen view (Err e) = Err e

abbrev pub between : ℕ → ℕ → ℕ → Bool
between low high n = nat_le low n && nat_le n high

-- a number below a bound
abbrev pub below : ℕ → ℕ → Result ℕ Wrong
below bound n = if nat_lt n bound then Ok n else Err OtherValue

-- ---- number low..high: an integer from low to high

abbrev pub number_in : ℕ → ℕ → Option ℤ → Result ℕ Wrong
number_in low high None = Err OtherType
number_in low high (Some (negsuc n)) = Err OtherValue
number_in low high (Some (pos n)) = if between low high n then Ok n else Err OtherValue

-- a number within bounds
abbrev pub number : ℕ → ℕ → Data → Result ℕ Wrong
number low high d = number_in low high (as_integer d)

-- ---- word: an integer not below 0, a text `0x` and 1 to 16 hexadecimal digits of either case, or a text `@` and a name;
-- in each case below 2^word bits

abbrev pub digit : ℕ → Option ℕ
digit c =
    if between 48 57 c then Some (c - 48)
    else if between 97 102 c then Some (c - 97 + 10)
    else if between 65 70 c then Some (c - 65 + 10)
    else None

-- the number of the digits, most significant first, after those that stand for the first number
abbrev pub digits_after : ℕ → List ℕ → Option ℕ
digits_after n [] = Some n
digits_after n (c ∷ cs) = option_and_then (λ d. digits_after (16 * n + d) cs) (digit c)

unfoldable pub hexadecimal : List ℕ → Option ℕ
hexadecimal text =
    if bytes_eq (take 2 text) (codes "0x") && between 3 18 (length text)
    then digits_after 0 (drop 2 text) else None

-- 64 is `@`
abbrev pub spelt : Names → List ℕ → Option ℕ
spelt names [] = hexadecimal []
spelt names (c ∷ cs) = if c == 64 then word_named names cs else hexadecimal (c ∷ cs)

abbrev pub or_other : {A : Type 0} → Option A → Result A Wrong
or_other None = Err OtherValue
or_other (Some x) = Ok x

abbrev pub natural_in : Names → Option ℤ → Option (List ℕ) → Result ℕ Wrong
natural_in names (Some (pos n)) text = Ok n
natural_in names (Some (negsuc n)) text = Err OtherValue
natural_in names None (Some text) = or_other (spelt names text)
natural_in names None None = Err OtherType

abbrev pub natural : Names → Data → Result ℕ Wrong
natural names d = natural_in names (as_integer d) (as_str d)

-- a word: a number, or a name that is one
abbrev pub word : ProfileName → Names → Data → Result ℕ Wrong
word p names d = natural names d >>= below (2 ^ word_bits p)

-- ---- label: a word below 2^label bits; it takes no name

-- the label of a message
abbrev pub label : ProfileName → Data → Result ℕ Wrong
label p d = word p [] d >>= below (2 ^ label_bits p)

-- ---- rights: a number whose bits are rights

-- rights, given as a number
abbrev pub rights : Data → Result Rights Wrong
rights d = number 0 all_rights.0 d >>= λ n. Ok (record { 0 = n })

-- ---- arrays: each element in turn, with its place, which counts from the first number on

unfoldable pub each : {A B E : Type 0} → (ℕ → A → Result B E) → ℕ → List A → Result (List B) E
each read n [] = Ok []
each read n (x ∷ xs) = read n x >>= λ y. each read (n + 1) xs >>= λ ys. Ok (y ∷ ys)

abbrev pub item_list : Items → List Data
item_list no_items = []
item_list (item d ds) = d ∷ item_list ds

-- the elements of an array of so many
abbrev pub array_in : ℕ → ℕ → Option Items → Result (List Data) Wrong
array_in low high None = Err OtherType
array_in low high (Some ds) = if between low high (length (item_list ds)) then Ok (item_list ds) else Err OtherValue

-- words: an array of no more words than a message has; the other words of the message are 0
abbrev pub filled : List ℕ → Words
filled ws = record { words = ws ++ replicate (max_message_words - length ws) 0; count = length ws }

-- the words of a message
abbrev pub words : ProfileName → Names → Data → Result Words Wrong
words p names d = array_in 0 max_message_words (as_array d) >>= each (λ _. word p names) 0 >>= λ ws. Ok (filled ws)

-- tables low..high: an array of so many tables
abbrev pub table_in : Option Members → Result Members Wrong
table_in None = Err OtherType
table_in (Some ms) = Ok ms

abbrev pub tables : ℕ → ℕ → Data → Result (List Members) Wrong
tables low high d = array_in low high (as_array d) >>= each (λ _ e. table_in (as_table e)) 0

-- names: a table from names to words; a word here takes no name
-- 95 is `_`
abbrev pub is_name_byte : ℕ → Bool
is_name_byte c = between 97 122 c || (between 48 57 c || c == 95)

-- a name: 1 to 40 lower-case letters, digits or `_`
abbrev pub is_name : List ℕ → Bool
is_name text = between 1 max_name_bytes (length text) && list_all is_name_byte text

-- an entry: its name is looked at first, then its value
abbrev pub entry : ProfileName → List ℕ × Data → Result (List ℕ × ℕ) Wrong
entry p e = if is_name e.0 then (word p [] e.1 >>= λ n. Ok (e.0, n)) else Err OtherValue

-- the entry at fault whose name is the least
abbrev pub entry_at_fault : ProfileName → List (List ℕ × Data) → Option (List ℕ × Data)
entry_at_fault p entries = least (λ e. e.0) (filter (λ e. is_err (entry p e)) entries)

-- if an entry is at fault, that one is reported; otherwise all are read
abbrev pub told : {A : Type 0} → Option A → List A → List A
told None entries = entries
told (Some e) entries = e ∷ []

abbrev pub names_in : ProfileName → List (List ℕ × Data) → Result Names Wrong
names_in p entries = each (λ _. entry p) 0 (told (entry_at_fault p entries) entries)

abbrev pub names : ProfileName → Data → Result Names Wrong
names p d = table_in (as_table d) >>= λ table. names_in p (entries_of table)

-- expect: a text of 1 to 120 bytes, each from a space to `~`
abbrev pub expect_in : Option (List ℕ) → Result (Option (List ℕ)) Wrong
expect_in None = Err OtherType
expect_in (Some t) = if between 1 max_expect_bytes (length t) && list_all (between 32 126) t then Ok (Some t) else Err OtherValue

-- the text that a reply is expected to have
abbrev pub expect : Data → Result (Option (List ℕ)) Wrong
expect d = expect_in (as_str d)

-- profile: a text that names it
abbrev pub profile_in : Option (List ℕ) → Result ProfileName Wrong
profile_in None = Err OtherType
profile_in (Some t) =
    if bytes_eq t (codes "wide") then Ok Wide
    else if bytes_eq t (codes "narrow") then Ok Narrow
    else Err OtherValue

-- the profile that a text names
abbrev pub profile : Data → Result ProfileName Wrong
profile d = profile_in (as_str d)

-- op: a text that names an operation
abbrev pub op_in : Option (List ℕ) → Result OpName Wrong
op_in None = Err OtherType
op_in (Some t) = or_other (op_named t)

-- the operation that a text names
abbrev pub op : Data → Result OpName Wrong
op d = op_in (as_str d)
