-- What only private contracts cite, in proofs of the public ones: nobody has to believe it.
use Rattle.std.specs.Prelude.{◌≡◌, ◌≤◌, ◌<◌, ◌+◌, ℕ, codes, List, ◌++◌, length, All, Some}
use Rattle.std.specs.Fmt.{decimal}
use Rattle.cap_core.specs.declared.profile.ProfileName.{ProfileName}
use Rattle.cap_core.specs.Limits.{min_boot_threads, max_boot_threads, max_boot_endpoints, max_boot_untypeds}
use Rattle.kernel_abstract.specs.Plan.{Plan, planned, IsPlan, IsUntypedSize, tcb_place}
use Rattle.setup_values.specs.Names.{Names, word_named}
use Rattle.setup_format.specs.Views.{ReadView}
use Rattle.command_new.specs.New.{HasObjects, AreNames, IsExample}
use Rattle.command_new.specs.declared.asked.NewSetup.{NewSetup}

-- what is asked for lies within the limits of a simulation
pub record IsAskedWithin (p : ProfileName) (asked : NewSetup) : Type 0 where
  pub threads_least : min_boot_threads ≤ asked.threads
  pub threads_most : asked.threads ≤ max_boot_threads
  pub endpoints_most : asked.endpoints ≤ max_boot_endpoints
  pub untypeds_most : length asked.untypeds.items ≤ max_boot_untypeds
  pub untypeds_sized : All (IsUntypedSize p) asked.untypeds.items

-- the plan of what is asked for, in a memory and with a root CNode of these sizes
abbrev pub plan_in : NewSetup → ℕ → ℕ → Plan
plan_in asked memory_bits root_radix = planned memory_bits root_radix asked.threads asked.endpoints asked.untypeds.items

-- no plan of what is asked for has a root CNode of that radix, whatever its memory
abbrev pub NoneOfRadix : ProfileName → NewSetup → ℕ → Type 0
NoneOfRadix p asked root_radix = (memory_bits : ℕ) → ¬ IsPlan p (plan_in asked memory_bits root_radix)

-- names stand for the addresses of the threads
abbrev pub NameThreads : ProfileName → Plan → Names → Type 0
NameThreads p plan names = (i : ℕ) → i < plan.threads → word_named names (codes "thread_" ++ decimal i) ≡ Some (tcb_place p plan i)

-- names of one kind stand for so many slots, from one on
abbrev pub NameSlots : Names → List ℕ → ℕ → ℕ → Type 0
NameSlots names prefix first count = (i : ℕ) → i < count → word_named names (prefix ++ decimal i) ≡ Some (first + i)

-- a set-up with its names has what is asked for, the names and the call
pub record IsMetBy (p : ProfileName) (asked : NewSetup) (made : ReadView) : Type 0 where
  pub sizes : HasObjects asked made.setup.plan
  pub named : AreNames p made.setup.plan made.names
  pub calls : IsExample p made.setup.plan made.names made.setup.calls
