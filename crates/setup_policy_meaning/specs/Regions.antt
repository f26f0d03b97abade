-- Which untyped region a word of a policy means: its address, and the bits of its size.
use Rattle.std.specs.Prelude.{Bool, ℕ, ◌-◌, ◌*◌, ◌^◌, ◌==◌, nat_le, nat_lt, cond, codes, ◌++◌, List, [], ◌∷◌, slice_get, Option, Some, None, find, option_and_then, option_map, string_bytes}
use Rattle.std.specs.List.{after_first, before_first, cons_option, filter_map, list_all, list_any}
use Rattle.std.specs.Fmt.{decimal}
use Rattle.cap_core.specs.declared.profile.ProfileName.{ProfileName}
use Rattle.cap_core.specs.declared.capability.Cap.{Cap}
use Rattle.cap_core.specs.declared.capability.Cap.TheVariants.{Untyped}
use Rattle.cap_core.specs.Numbers.{slot_size}
use Rattle.kernel_forest.specs.Entries.{cap_at}
use Rattle.kernel_abstract.specs.Plan.{Plan}
use Rattle.kernel_abstract.specs.Shown.{Shown}
use Rattle.setup_values.specs.Names.{Names}
use Rattle.setup_report.specs.Meant.{first_region, is_boot_slot}
use Rattle.setup_report.specs.State.{Derived, slot_rows}
use Rattle.setup_report.specs.Words.{number_meant}
use Rattle.setup_policy_file.specs.declared.file.Word.{Word}
use Rattle.setup_policy_file.specs.declared.file.Word.TheVariants as w

-- ---- the regions that a number stands for

abbrev pub region_named : Cap → Option (ℕ × ℕ)
region_named (Untyped base bits free) = Some (base, bits)
region_named cap = None

abbrev pub boot_region : Plan → ℕ → Option (ℕ × ℕ)
boot_region plan i = cond (nat_lt i (first_region plan)) None (slice_get plan.untypeds (i - first_region plan))

-- the region that boot put into a slot of the root CNode, or the one that another slot holds
abbrev pub region_in_slot : ProfileName → Plan → Shown → ℕ → Option (ℕ × ℕ)
region_in_slot p plan v i = cond (is_boot_slot plan i) (boot_region plan i) (region_named (cap_at v.derivations (slot_size p * i)))

abbrev pub region_at : ℕ → Cap → Option (ℕ × ℕ)
region_at base (Untyped other bits free) = cond (other == base) (Some (other, bits)) None
region_at base cap = None

-- those that begin at an address, one for each full slot that holds one
abbrev pub regions_at : Shown → ℕ → List (ℕ × ℕ)
regions_at v base = filter_map (λ (d : Derived). region_at base d.0.cap) (slot_rows v)

-- a number below the count of the root CNode's slots is one of them, and each other number an address
abbrev pub regions_of : ProfileName → Plan → Shown → Option ℕ → List (ℕ × ℕ)
regions_of p plan v None = []
regions_of p plan v (Some n) = cond (nat_lt n (2 ^ plan.root_radix)) (cons_option (region_in_slot p plan v n) []) (regions_at v n)

-- ---- what a word means

-- the first of them, where all have its size
abbrev pub have_size : ℕ → List (ℕ × ℕ) → Bool
have_size bits rs = list_all (λ (r : ℕ × ℕ). r.1 == bits) rs

abbrev pub if_sized_as : List (ℕ × ℕ) → ℕ × ℕ → Option (ℕ × ℕ)
if_sized_as rs r = cond (have_size r.1 rs) (Some r) None

abbrev pub only_region : List (ℕ × ℕ) → Option (ℕ × ℕ)
only_region rs = option_and_then (if_sized_as rs) (slice_get rs 0)

-- the first 2^bits bytes, where a region is as large
abbrev pub first_bytes : ℕ → List (ℕ × ℕ) → Option (ℕ × ℕ)
first_bytes bits rs = option_map (λ (r : ℕ × ℕ). (r.0, bits)) (find (λ (r : ℕ × ℕ). nat_le bits r.1) rs)

abbrev pub part_of : Option ℕ → List (ℕ × ℕ) → Option (ℕ × ℕ)
part_of bits rs = option_and_then (λ n. first_bytes n rs) bits

-- a text means the one region that it stands for
abbrev pub whole_region : ProfileName → Names → Plan → Shown → List ℕ → Option (ℕ × ℕ)
whole_region p names plan v text = only_region (regions_of p plan v (number_meant names text))

-- a text with a number behind a stroke means the first bytes of a region that it stands for
abbrev pub part_region : ProfileName → Names → Plan → Shown → List ℕ → List ℕ → Option (ℕ × ℕ)
part_region p names plan v text bits = part_of (number_meant [] bits) (regions_of p plan v (number_meant names text))

-- 47 is the stroke
abbrev pub has_stroke : List ℕ → Bool
has_stroke name = list_any (λ c. c == 47) name

abbrev pub before_stroke : List ℕ → List ℕ
before_stroke name = before_first (λ c. c == 47) name

abbrev pub behind_stroke : List ℕ → List ℕ
behind_stroke name = after_first (λ c. c == 47) name

abbrev pub region_called : ProfileName → Names → Plan → Shown → List ℕ → Option (ℕ × ℕ)
region_called p names plan v name =
    cond (has_stroke name) (part_region p names plan v (before_stroke name) (behind_stroke name)) (whole_region p names plan v (codes "@" ++ name))

abbrev pub region_meant : ProfileName → Names → Plan → Shown → Word → Option (ℕ × ℕ)
region_meant p names plan v (w.Number n) = whole_region p names plan v (decimal n)
region_meant p names plan v (w.Name s) = region_called p names plan v (string_bytes s)
