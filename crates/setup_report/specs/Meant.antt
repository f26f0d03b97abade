-- The object that a word stands for: a thread, an endpoint or a region.
use Rattle.std.specs.Prelude.{ℕ, ◌+◌, ◌-◌, ◌*◌, ◌^◌, ◌&&◌, nat_le, nat_lt, Bool, cond, List, length, slice_get, Option, Some, None, is_some, option_map, option_and_then}
use Rattle.std.specs.List.{filter_map, list_all}
use Rattle.cap_core.specs.declared.profile.ProfileName.{ProfileName}
use Rattle.cap_core.specs.declared.capability.Cap.{Cap}
use Rattle.cap_core.specs.declared.capability.Cap.TheVariants.{Untyped}
use Rattle.kernel_forest.specs.Entries.{cap_at}
use Rattle.kernel_abstract.specs.Plan.{Plan, tcb_place, endpoint_place}
use Rattle.cap_core.specs.Numbers.{slot_size}
use Rattle.kernel_abstract.specs.Shown.{Shown, tcb_base, endpoint_base}
use Rattle.setup_values.specs.Names.{Names}
use Rattle.setup_report.specs.declared.meanings.meant.ObjectKind.{ObjectKind}
use Rattle.setup_report.specs.declared.meanings.meant.ObjectKind.TheVariants.{Thread, Endpoint, Region}
use Rattle.setup_report.specs.Words.{number_meant}

-- ---- what a capability names

abbrev pub untyped_base : Cap → Option ℕ
untyped_base (Untyped base bits free) = Some base
untyped_base cap = None

abbrev pub object_of_kind : ObjectKind → Cap → Option ℕ
object_of_kind Thread cap = tcb_base cap
object_of_kind Endpoint cap = endpoint_base cap
object_of_kind Region cap = untyped_base cap

-- ---- what boot puts into the root CNode: from slot 2 on its threads, its endpoints and its regions

abbrev pub first_endpoint : Plan → ℕ
first_endpoint plan = 2 + plan.threads

abbrev pub first_region : Plan → ℕ
first_region plan = 2 + plan.threads + plan.endpoints

abbrev pub is_boot_slot : Plan → ℕ → Bool
is_boot_slot plan i = nat_le 2 i && nat_lt i (first_region plan + length plan.untypeds)

abbrev pub thread_of_boot_slot : ProfileName → Plan → ℕ → Option ℕ
thread_of_boot_slot p plan i = cond (nat_le 2 i && nat_lt i (first_endpoint plan)) (Some (tcb_place p plan (i - 2))) None

abbrev pub boot_endpoint : ProfileName → Plan → ℕ → Option ℕ
boot_endpoint p plan i =
    cond (nat_le (first_endpoint plan) i && nat_lt i (first_region plan)) (Some (endpoint_place p plan (i - first_endpoint plan))) None

abbrev pub boot_region : Plan → ℕ → Option ℕ
boot_region plan i =
    cond (nat_le (first_region plan) i) (option_map (λ (untyped : ℕ × ℕ). untyped.0) (slice_get plan.untypeds (i - first_region plan))) None

abbrev pub boot_object : ObjectKind → ProfileName → Plan → ℕ → Option ℕ
boot_object Thread p plan i = thread_of_boot_slot p plan i
boot_object Endpoint p plan i = boot_endpoint p plan i
boot_object Region p plan i = boot_region plan i

-- ---- what a number and a word stand for

-- a slot of the root CNode stands for what boot put there, and another one for what it holds
abbrev pub in_slot : ObjectKind → ProfileName → Plan → Shown → ℕ → Option ℕ
in_slot kind p plan v i =
    cond (is_boot_slot plan i) (boot_object kind p plan i) (object_of_kind kind (cap_at v.derivations (slot_size p * i)))

-- a number below the count of the root CNode's slots is one of them, and each other number an address
abbrev pub object_or_address : ObjectKind → ProfileName → Plan → Shown → ℕ → Option ℕ
object_or_address kind p plan v n = cond (nat_lt n (2 ^ plan.root_radix)) (in_slot kind p plan v n) (Some n)

-- the object of a sort that a word stands for in a state, or none
abbrev pub object_meant : ObjectKind → ProfileName → Names → Plan → Shown → List ℕ → Option ℕ
object_meant kind p names plan v text = option_and_then (object_or_address kind p plan v) (number_meant names text)

-- each of some texts stands for such an object
abbrev pub are_meant : ObjectKind → ProfileName → Names → Plan → Shown → List (List ℕ) → Bool
are_meant kind p names plan v texts = list_all (λ text. is_some (object_meant kind p names plan v text)) texts

-- the objects that some texts stand for, in their order
abbrev pub objects_meant : ObjectKind → ProfileName → Names → Plan → Shown → List (List ℕ) → List ℕ
objects_meant kind p names plan v texts = filter_map (object_meant kind p names plan v) texts
