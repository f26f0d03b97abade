-- A boot plan, where its objects stand, and what is wrong with it.
use Rattle.std.specs.Prelude.{◌≡◌, ℕ, Bool, not, ◌+◌, ◌*◌, ◌%◌, ◌^◌, ◌≤◌, ◌==◌, ◌&&◌, ◌||◌, nat_lt, cond, List, [], ◌∷◌, length, take, All, Option, Some, None}
use Rattle.std.specs.Option.{option_or}
use Rattle.std.specs.List.{list_any, range_with_len}
use Rattle.cap_core.specs.declared.profile.ProfileName.{ProfileName}
use Rattle.cap_core.specs.Limits.{min_memory_bits, max_memory_bits, min_root_radix, max_root_radix, min_boot_threads, max_boot_threads, max_boot_endpoints, max_boot_untypeds}
use Rattle.cap_core.specs.Numbers.{slot_bits, tcb_bits, endpoint_bits, tcb_size, endpoint_size, min_untyped_bits, max_object_bits}
use Rattle.mem_core.specs.Plans.{least_multiple}
use Rattle.kernel_abstract.specs.declared.plan.Extent.{Extent}
use Rattle.kernel_abstract.specs.declared.plan.PlanDefect.{PlanDefect}
use Rattle.kernel_abstract.specs.declared.plan.PlanDefect.TheVariants.{Outside, Unaligned, UntypedOutside, Overlap, Slots}

-- the bits of the memory's size, the radix of the root CNode, how many threads and endpoints, and the base and the bits of
-- each untyped region
pub record Plan : Type 0 where
  pub memory_bits : ℕ
  pub root_radix : ℕ
  pub threads : ℕ
  pub endpoints : ℕ
  pub untypeds : List (ℕ × ℕ)

-- a plan with these sizes and untyped regions
abbrev pub planned : ℕ → ℕ → ℕ → ℕ → List (ℕ × ℕ) → Plan
planned memory_bits root_radix threads endpoints untypeds =
    record { memory_bits = memory_bits; root_radix = root_radix; threads = threads; endpoints = endpoints; untypeds = untypeds }

-- the address of the first thread control block: past the root CNode, which is at 0
abbrev pub first_tcb : ProfileName → Plan → ℕ
first_tcb p plan = least_multiple (tcb_size p) (2 ^ (slot_bits p + plan.root_radix))

-- the address of the thread control block i at boot
abbrev pub tcb_place : ProfileName → Plan → ℕ → ℕ
tcb_place p plan i = first_tcb p plan + tcb_size p * i

-- the address of the endpoint j at boot
abbrev pub endpoint_place : ProfileName → Plan → ℕ → ℕ
endpoint_place p plan j = tcb_place p plan plan.threads + endpoint_size p * j

-- the first address past the boot objects
abbrev pub boot_end : ProfileName → Plan → ℕ
boot_end p plan = endpoint_place p plan plan.endpoints

-- the addresses of an object or a region of 2^bits bytes
abbrev pub extent : ℕ → ℕ → Extent
extent base bits = record { start = base; end = base + 2 ^ bits }

-- both have an address in common
abbrev pub overlap : Extent → Extent → Bool
overlap a b = nat_lt a.start b.end && nat_lt b.start a.end

abbrev pub node_extent : ProfileName → Plan → Extent
node_extent p plan = extent 0 (slot_bits p + plan.root_radix)

abbrev pub tcb_extent : ProfileName → Plan → ℕ → Extent
tcb_extent p plan i = extent (tcb_place p plan i) (tcb_bits p)

abbrev pub endpoint_extent : ProfileName → Plan → ℕ → Extent
endpoint_extent p plan j = extent (endpoint_place p plan j) (endpoint_bits p)

abbrev pub untyped_extent : ℕ × ℕ → Extent
untyped_extent untyped = extent untyped.0 untyped.1

-- a region has an address in common with a boot object: the root CNode, a thread control block or an endpoint
abbrev pub overlaps_tcb : ProfileName → Plan → Extent → Bool
overlaps_tcb p plan region = list_any (λ i. overlap region (tcb_extent p plan i)) (range_with_len 0 plan.threads)

abbrev pub overlaps_endpoint : ProfileName → Plan → Extent → Bool
overlaps_endpoint p plan region = list_any (λ j. overlap region (endpoint_extent p plan j)) (range_with_len 0 plan.endpoints)

abbrev pub overlaps_boot_object : ProfileName → Plan → Extent → Bool
overlaps_boot_object p plan region =
    overlap region (node_extent p plan) || (overlaps_tcb p plan region || overlaps_endpoint p plan region)

-- a region has an address in common with an untyped region that stands before place i of the plan
abbrev pub overlaps_earlier : Plan → ℕ → Extent → Bool
overlaps_earlier plan i region = list_any (λ untyped. overlap region (untyped_extent untyped)) (take i plan.untypeds)

abbrev pub defect_if : Bool → PlanDefect → Option PlanDefect
defect_if test defect = cond test (Some defect) None

-- the first defect of the untyped region at place i of the plan
abbrev pub untyped_defect : ProfileName → Plan → ℕ → ℕ × ℕ → Option PlanDefect
untyped_defect p plan i untyped =
    option_or (defect_if (not (untyped.0 % 2 ^ untyped.1 == 0)) (Unaligned i))
    (option_or (defect_if (nat_lt (2 ^ plan.memory_bits) (untyped_extent untyped).end) (UntypedOutside i))
    (defect_if (overlaps_boot_object p plan (untyped_extent untyped) || overlaps_earlier plan i (untyped_extent untyped)) (Overlap i)))

-- the first defect of the untyped regions from place i on
abbrev pub untypeds_defect : ProfileName → Plan → ℕ → List (ℕ × ℕ) → Option PlanDefect
untypeds_defect p plan i [] = None
untypeds_defect p plan i (untyped ∷ untypeds) =
    option_or (untyped_defect p plan i untyped) (untypeds_defect p plan (i + 1) untypeds)

-- how many slots of the root CNode are taken: slot 0, which stays empty, its own, and one for each other object
abbrev pub slots_taken : Plan → ℕ
slots_taken plan = 2 + plan.threads + plan.endpoints + length plan.untypeds

-- the first defect of a plan: of the boot objects, of each untyped region in order, of the root CNode
abbrev pub first_defect : ProfileName → Plan → Option PlanDefect
first_defect p plan =
    option_or (defect_if (nat_lt (2 ^ plan.memory_bits) (boot_end p plan)) Outside)
    (option_or (untypeds_defect p plan 0 plan.untypeds)
    (defect_if (nat_lt (2 ^ plan.root_radix) (slots_taken plan)) Slots))

-- the bits of an untyped region lie within the profile
pub record IsUntypedSize (p : ProfileName) (untyped : ℕ × ℕ) : Type 0 where
  pub least : min_untyped_bits p ≤ untyped.1
  pub most : untyped.1 ≤ max_object_bits p

-- the sizes of a boot lie within the limits of a simulation
pub record AreSizes (memory_bits root_radix threads endpoints : ℕ) : Type 0 where
  pub memory_least : min_memory_bits ≤ memory_bits
  pub memory_most : memory_bits ≤ max_memory_bits
  pub radix_least : min_root_radix ≤ root_radix
  pub radix_most : root_radix ≤ max_root_radix
  pub threads_least : min_boot_threads ≤ threads
  pub threads_most : threads ≤ max_boot_threads
  pub endpoints_most : endpoints ≤ max_boot_endpoints

-- the numbers of a plan lie within the limits of a simulation
pub record IsWithinLimits (p : ProfileName) (plan : Plan) : Type 0 where
  pub sizes : AreSizes plan.memory_bits plan.root_radix plan.threads plan.endpoints
  pub untypeds_most : length plan.untypeds ≤ max_boot_untypeds
  pub untypeds_sized : All (IsUntypedSize p) plan.untypeds

-- a plan that a kernel can be booted from
pub record IsPlan (p : ProfileName) (plan : Plan) : Type 0 where
  pub limits : IsWithinLimits p plan
  pub sound : first_defect p plan ≡ None
