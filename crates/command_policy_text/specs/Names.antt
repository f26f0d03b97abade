-- How objects, groups, badges and rights are told.
use Rattle.std.specs.Prelude.{codes, ℕ, Bool, cond, List, [], ◌∷◌, ◌++◌, Option, Some, None, option_map, slice_get, string_bytes}
use Rattle.std.specs.List.{flat_map}
use Rattle.std.specs.Fmt.{decimal}
use Rattle.std.specs.declared.string.String.{String}
use Rattle.command_policy_text.specs.declared.names.Letters.{Letters}
use Rattle.setup_policy.specs.declared.policy.Label.{Label}
use Rattle.command_policy_breaches.specs.declared.held.Layout.{Layout}
use Rattle.setup_policy.specs.declared.policy.Policy.{Policy}
use Rattle.setup_policy.specs.declared.policy.PolicyVersion.{PolicyVersion}
use Rattle.setup_policy.specs.declared.policy.PolicyVersion.TheVariants.{One, Two}
use Rattle.command_policy_breaches.specs.Sides.{groups_at}
pub use Rattle.command_policy_places.specs.Places.{label_of}

-- an object by its name, behind a `@`, or by its address
abbrev pub labelled : ℕ → Option (List ℕ) → List ℕ
labelled base None = decimal base
labelled base (Some label) = codes "@" ++ label

abbrev pub labelled_text : List Label → ℕ → List ℕ
labelled_text labels base = labelled base (label_of labels base)

abbrev pub name_or_none : Option (List ℕ) → List ℕ
name_or_none None = []
name_or_none (Some name) = name

-- what a group or a trusted thread is called
abbrev pub actor_name : Policy → ℕ → List ℕ
actor_name c actor = name_or_none (option_map string_bytes (slice_get c.actors.items actor))

abbrev pub behind : Policy → ℕ → List ℕ
behind c actor = codes "+" ++ actor_name c actor

-- groups with a `+` between two of them
abbrev pub joined_names : Policy → List ℕ → List ℕ
joined_names c [] = []
joined_names c (g ∷ gs) = actor_name c g ++ flat_map (behind c) gs

-- the groups of a part, with a `+` between two of them
abbrev pub part_label : Policy → Layout → ℕ → List ℕ
part_label c l part = joined_names c (groups_at l.homes.items part)

-- numbers with a comma between two of them
abbrev pub number_behind : ℕ → List ℕ
number_behind number = codes "," ++ decimal number

-- numbers, with a comma between two of them
abbrev pub numbers_with_commas : List ℕ → List ℕ
numbers_with_commas [] = []
numbers_with_commas (n ∷ ns) = decimal n ++ flat_map number_behind ns

abbrev pub right_letter : Bool → List ℕ → List ℕ
right_letter is_there text = cond is_there text (codes "-")

-- four rights as letters, a `-` for each that is not there
abbrev pub letters_text : Letters → List ℕ
letters_text l = right_letter l.write (codes "w") ++ (right_letter l.read (codes "r") ++ (right_letter l.grant (codes "g") ++ right_letter l.grant_reply (codes "p")))

-- the number of the version that a policy is of
abbrev pub version_text : PolicyVersion → List ℕ
version_text One = codes "1"
version_text Two = codes "2"
