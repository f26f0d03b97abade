-- How texts write a profile, and a thread by its address and its name. Numbers are decimal.
use Rattle.std.specs.Prelude.{codes, ℕ, ◌==◌, Bool, cond, List, ◌++◌, Option, None, Some, option_map, find, count_by}
use Rattle.std.specs.Fmt.{decimal}
use Rattle.cap_core.specs.declared.profile.ProfileName.{ProfileName}
use Rattle.cap_core.specs.declared.profile.ProfileName.TheVariants.{Wide, Narrow}
use Rattle.setup_values.specs.Names.{Names}

-- the name of a profile
abbrev pub profile_text : ProfileName → List ℕ
profile_text Wide = codes "wide"
profile_text Narrow = codes "narrow"

-- a name stands for a value
abbrev pub has_value : ℕ → List ℕ × ℕ → Bool
has_value value name = name.1 == value

-- the name of a value: if exactly one name of the set-up has it
abbrev pub name_of : Names → ℕ → Option (List ℕ)
name_of names value =
    cond (count_by (has_value value) names == 1) (option_map (λ (n : List ℕ × ℕ). n.0) (find (has_value value) names)) None

-- an address, and after it the name, if there is one
abbrev pub named_text : ℕ → Option (List ℕ) → List ℕ
named_text address None = decimal address
named_text address (Some name) = decimal address ++ (codes " @" ++ name)

abbrev pub thread_name : Names → ℕ → List ℕ
thread_name names address = named_text address (name_of names address)
