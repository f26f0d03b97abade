-- What of a state is held to a policy.
use Rattle.std.specs.Prelude.{◌≡◌, ℕ, ◌==◌, true, false, List, ◌++◌, map, filter, Option, Some, None}
use Rattle.std.specs.List.{filter_map, flat_map}
use Rattle.cap_core.specs.declared.profile.ProfileName.{ProfileName}
use Rattle.cap_core.specs.declared.capability.Cap.{Cap}
use Rattle.cap_core.specs.declared.capability.Cap.TheVariants.{Null, Untyped, Endpoint, CNode, Tcb}
use Rattle.cap_core.specs.Numbers.{endpoint_bits}
use Rattle.ipc_core.specs.declared.waiter.Offer.{Offer}
use Rattle.kernel_abstract.specs.declared.call.ThreadState.{ThreadState}
use Rattle.kernel_abstract.specs.declared.call.ThreadState.TheVariants.{Ready, Inactive, Sending, Receiving}
use Rattle.kernel_abstract.specs.Shown.{Shown, state_at}
use Rattle.kernel_abstract.specs.Waiting.{AreStatesAndLists, offer_at}
use Rattle.query_parts.specs.declared.listed.PartMemory.{PartMemory}
use Rattle.query_parts.specs.declared.listed.PartUse.{PartUse}
use Rattle.query_parts.specs.Listed.{part_at}
use Rattle.setup_report.specs.State.{Derived, rising, threads, slot_rows}
use Rattle.command_parts.specs.Ever.{AreRightParts}
use Rattle.command_parts.specs.Takes.{part_slots, takes}
use Rattle.command_parts.specs.Text.{parts_of}
use Rattle.command_policy_breaches.specs.declared.held.HeldRegion.{HeldRegion}
use Rattle.command_policy_breaches.specs.declared.held.Home.{Home}
use Rattle.command_policy_breaches.specs.declared.held.Layout.{Layout}
use Rattle.setup_policy.specs.declared.policy.Member.{Member}
use Rattle.setup_policy.specs.declared.policy.Policy.{Policy}
use Rattle.command_policy_breaches.specs.declared.held.Waiting.{Waiting}

-- the endpoints that parts may use, and those on which threads wait
abbrev pub endpoints_to_check : List PartUse → List Waiting → List ℕ
endpoints_to_check uses waits = rising (map (λ (u : PartUse). u.endpoint) uses ++ map (λ (w : Waiting). w.endpoint) waits)

-- in which parts groups have threads, each part of a group once
abbrev pub home : ℕ → ℕ → Home
home group part = record { group = group; part = part }

abbrev pub homes_at : ℕ → List ℕ → List Home
homes_at group parts = map (home group) (rising parts)

abbrev pub part_of_member : List PartMemory → Member → Option ℕ
part_of_member memory m = part_at memory m.thread

abbrev pub homes_of : List PartMemory → List Member → ℕ → List Home
homes_of memory members group =
    homes_at group (filter_map (part_of_member memory) (filter (λ (m : Member). m.actor == group) members))

-- who waits on which endpoint; of a send, with which badge
abbrev pub offered_badge : Option Offer → ℕ
offered_badge None = 0
offered_badge (Some offer) = offer.badge.0

abbrev pub waiting_in : ℕ → Option ThreadState → Option Offer → Option Waiting
waiting_in thread None offer = None
waiting_in thread (Some Ready) offer = None
waiting_in thread (Some Inactive) offer = None
waiting_in thread (Some (Sending endpoint)) offer =
    Some (record { thread = thread; endpoint = endpoint; badge = offered_badge offer; sends = true })
waiting_in thread (Some (Receiving endpoint)) offer = Some (record { thread = thread; endpoint = endpoint; badge = 0; sends = false })

abbrev pub waiting_of : Shown → ℕ → Option Waiting
waiting_of v thread = waiting_in thread (state_at v thread) (offer_at v thread)

-- which untyped regions slots of parts hold
abbrev pub region_at : ℕ → ℕ → Option ℕ → Option HeldRegion
region_at base bits None = None
region_at base bits (Some part) = Some (record { part = part; base = base; bits = bits })

abbrev pub region_in : List PartMemory → ℕ → Cap → Option HeldRegion
region_in memory slot Null = None
region_in memory slot (Untyped base bits free) = region_at base bits (part_at memory slot)
region_in memory slot (Endpoint base badge rights) = None
region_in memory slot (CNode base radix guard) = None
region_in memory slot (Tcb base) = None

abbrev pub region_of : List PartMemory → Derived → Option HeldRegion
region_of memory d = region_in memory d.0.slot d.0.cap

-- the threads that the policy trusts
abbrev pub trusted_threads : Policy → List ℕ
trusted_threads c = rising (map (λ (m : Member). m.thread) c.silent.items ++ map (λ (m : Member). m.thread) c.messages.items)

-- the parts are right parts around the live threads that the policy does not trust, and the rest is read off them and the state,
-- in which threads do what the waiting lists of endpoints have them do
pub record IsLayoutOf (p : ProfileName) (c : Policy) (v : Shown) (l : Layout) : Type 0 where
  pub right : AreRightParts p v (trusted_threads c) l.memory.items l.uses.items
  pub numbers : l.parts.items ≡ parts_of l.memory.items
  pub agree : AreStatesAndLists v
  pub met : l.endpoints.items ≡ endpoints_to_check l.uses.items l.waits.items
  pub size : l.endpoint_bits ≡ endpoint_bits p
  pub homes_are : l.homes.items ≡ flat_map (homes_of l.memory.items c.members.items) c.groups.items
  pub waits_are : l.waits.items ≡ filter_map (waiting_of v) (threads p v)
  pub regions_are : l.regions.items ≡ filter_map (region_of l.memory.items) (slot_rows v)
  pub takes_are : l.takes.items ≡ takes (part_slots l.memory.items v.derivations) l.parts.items
