-- The names by which a set-up spells the values of its calls' keys: `@` and a name, in place of a number.
use Rattle.std.specs.Prelude.{ℕ, List, [], ◌∷◌, ◌==◌, if◌then◌else◌, Option, Some, None, option_and_then}
use Rattle.toml.specs.Data.{Data, Members, get_member, as_str}

-- the name after `@`, which is 64
abbrev pub name_in : List ℕ → Option (List ℕ)
name_in [] = None
name_in (c ∷ name) = if c == 64 then Some name else None

abbrev pub spelt_name : Data → Option (List ℕ)
spelt_name d = option_and_then name_in (as_str d)

-- the name by which a call's table spells the value of a key, if it does
abbrev pub name_at : Option Members → List ℕ → Option (List ℕ)
name_at None key = None
name_at (Some call) key = option_and_then spelt_name (get_member key call)
