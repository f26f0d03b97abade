-- What a key of a table is read as.
use Rattle.std.specs.Prelude.{ℕ, List, [], ◌∷◌, Bool, false, ◌||◌, not, Option, Some, None, Result, Ok, Err}
use Rattle.std.specs.List.{filter}
use Rattle.std.specs.Str.{bytes_eq}
use Rattle.toml.specs.Data.{Data, Members, get_member}
use Rattle.setup_values.specs.declared.values.Wrong.{Wrong}
use Rattle.setup_values.specs.declared.values.Wrong.TheVariants.{Unknown, Missing}
use Rattle.setup_values.specs.Keys.{keys_of, least}
use Rattle.setup_format.specs.declared.fault.Place.{Place}
use Rattle.setup_format.specs.Faults.{Fault, at}

-- what a kind reads at a key
abbrev pub at_key : {A : Type 0} → Place → List ℕ → Result A Wrong → Result A Fault
at_key place key (Ok x) = Ok x
at_key place key (Err wrong) = Err (at wrong place key)

-- the value at a key without a default
abbrev pub needed : {A : Type 0} → (Data → Result A Wrong) → Option Data → Result A Wrong
needed kind None = Err Missing
needed kind (Some d) = kind d

abbrev pub required : {A : Type 0} → Place → Members → List ℕ → (Data → Result A Wrong) → Result A Fault
required place table key kind = at_key place key (needed kind (get_member key table))

-- the value at a key with a default
abbrev pub given_or : {A : Type 0} → A → (Data → Result A Wrong) → Option Data → Result A Wrong
given_or default kind None = Ok default
given_or default kind (Some d) = kind d

abbrev pub optional : {A : Type 0} → Place → Members → List ℕ → A → (Data → Result A Wrong) → Result A Fault
optional place table key default kind = at_key place key (given_or default kind (get_member key table))

-- ---- unknown keys

abbrev pub is_one_of : List (List ℕ) → List ℕ → Bool
is_one_of [] key = false
is_one_of (k ∷ ks) key = bytes_eq k key || is_one_of ks key

-- the least unknown key of a table
abbrev pub least_unknown : List (List ℕ) → Members → Option (List ℕ)
least_unknown known table = least (λ key. key) (filter (λ key. not (is_one_of known key)) (keys_of table))

abbrev pub no_unknown : Place → Option (List ℕ) → Result ℕ Fault
no_unknown place None = Ok 0
no_unknown place (Some key) = Err (at Unknown place key)

-- a table has no key but those that are known; otherwise the least unknown one is reported
abbrev pub known_only : Place → Members → List (List ℕ) → Result ℕ Fault
known_only place table known = no_unknown place (least_unknown known table)
