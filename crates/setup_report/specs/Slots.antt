-- The slot that a word stands for.
use Rattle.std.specs.Prelude.{ℕ, ◌*◌, ◌^◌, nat_lt, cond, List, Option, option_map}
use Rattle.std.specs.List.{list_all}
use Rattle.cap_core.specs.declared.profile.ProfileName.{ProfileName}
use Rattle.cap_core.specs.Numbers.{slot_size}
use Rattle.kernel_abstract.specs.Plan.{Plan}
use Rattle.setup_values.specs.Kinds.{between}
use Rattle.setup_values.specs.Names.{Names}
use Rattle.setup_report.specs.Words.{number_meant}

-- a name's number below the count of the root CNode's slots is one of them, and each other number an address
abbrev pub slot_or_address : ProfileName → Plan → ℕ → ℕ
slot_or_address p plan n = cond (nat_lt n (2 ^ plan.root_radix)) (slot_size p * n) n

-- the address of the slot that a word stands for: decimal digits are the address itself
abbrev pub slot_meant : ProfileName → Names → Plan → List ℕ → Option ℕ
slot_meant p names plan text =
    option_map (λ n. cond (list_all (between 48 57) text) n (slot_or_address p plan n)) (number_meant names text)
