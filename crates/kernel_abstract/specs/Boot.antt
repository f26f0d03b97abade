-- Boot: the state that a plan gives.
use Rattle.std.specs.Prelude.{ℕ, ◌+◌, ◌-◌, ◌*◌, false, List, [], ◌∷◌, ◌++◌, map}
use Rattle.std.specs.List.{range_with_len}
use Rattle.cap_core.specs.declared.profile.ProfileName.{ProfileName}
use Rattle.cap_core.specs.declared.capability.Cap.{Cap}
use Rattle.cap_core.specs.declared.capability.Cap.TheVariants.{Untyped, Endpoint, CNode, Tcb}
use Rattle.cap_core.specs.Numbers.{word_bits, slot_size}
use Rattle.cap_core.specs.Rights.{all_rights}
use Rattle.kernel_forest.specs.Forest.{Forest, none}
use Rattle.kernel_forest.specs.Entries.{Entry}
use Rattle.kernel_forest.specs.Derivation.{rooted, derived}
use Rattle.kernel_abstract.specs.Plan.{Plan, tcb_place, endpoint_place}
use Rattle.kernel_abstract.specs.State.{State}

-- the capability of the root CNode, which stands at 0: its guard and its radix take a whole word
abbrev pub root_cap : ProfileName → Plan → Cap
root_cap p plan = CNode 0 plan.root_radix (record { value = 0; size = word_bits p - plan.root_radix })

-- the addresses of the boot threads
abbrev pub boot_tcbs : ProfileName → Plan → List ℕ
boot_tcbs p plan = map (tcb_place p plan) (range_with_len 0 plan.threads)

-- an endpoint capability with no badge and all rights
abbrev pub whole_endpoint : ℕ → Cap
whole_endpoint base = Endpoint base (record { 0 = 0 }) all_rights

abbrev pub tcb_caps : ProfileName → Plan → List Cap
tcb_caps p plan = map (λ i. Tcb (tcb_place p plan i)) (range_with_len 0 plan.threads)

abbrev pub endpoint_caps : ProfileName → Plan → List Cap
endpoint_caps p plan = map (λ j. whole_endpoint (endpoint_place p plan j)) (range_with_len 0 plan.endpoints)

abbrev pub untyped_caps : Plan → List Cap
untyped_caps plan = map (λ (untyped : ℕ × ℕ). Untyped untyped.0 untyped.1 0) plan.untypeds

-- the capabilities in the root CNode's slots, from slot 1 on
abbrev pub boot_caps : ProfileName → Plan → List Cap
boot_caps p plan = root_cap p plan ∷ tcb_caps p plan ++ endpoint_caps p plan ++ untyped_caps plan

-- capabilities put into the root CNode's slots from slot i on, each a tree of its own
abbrev pub with_roots : ProfileName → ℕ → List Cap → Forest Entry → Forest Entry
with_roots p i [] f = f
with_roots p i (cap ∷ caps) f = with_roots p (i + 1) caps (rooted (i * slot_size p) cap f)

-- each thread's root slot, at its own address, gets a capability derived from the one in slot 1
abbrev pub with_spaces : ProfileName → Cap → List ℕ → Forest Entry → Forest Entry
with_spaces p root [] f = f
with_spaces p root (tcb ∷ tcbs) f = with_spaces p root tcbs (derived (slot_size p) tcb root f)

-- the derivation forest after boot: the root CNode, the boot objects, and the capability spaces of the boot threads
abbrev pub boot_forest : ProfileName → Plan → Forest Entry
boot_forest p plan =
    with_spaces p (root_cap p plan) (boot_tcbs p plan) (with_roots p 1 (boot_caps p plan) none)

-- the state after boot: every thread is ready, and nothing was sent
unfoldable pub boot : ProfileName → Plan → State
boot p plan =
    record {
      derivations = boot_forest p plan;
      endpoint_birth = λ base. 0;
      thread_birth = λ base. 0;
      sends = [];
      receives = [];
      is_cancelled = λ number. false;
      is_inactive = λ thread. false;
      count = 0;
    }
