-- These serve the proofs of private functions, no public contract cites them: what the checks show of a call that passes.
use Rattle.std.specs.Prelude.{◌≡◌, ℕ, ◌≤◌, ◌<◌, ◌==◌, ◌⊎◌, true, false, All, None}
use Rattle.std.specs.List.{list_any}
use Rattle.cap_core.specs.Limits.{max_retype_count}
use Rattle.cap_core.specs.declared.profile.ProfileName.{ProfileName}
use Rattle.cap_core.specs.declared.capability.Cap.TheVariants.{Tcb}
use Rattle.cap_core.specs.Objects.{is_untyped, badge_of, IsLawful}
use Rattle.mem_core.specs.Shapes.{IsLawfulShape}
use Rattle.mem_core.specs.Plans.{LieInUntyped}
use Rattle.kernel_forest.specs.Forest.{Forest}
use Rattle.kernel_forest.specs.Entries.{Entry, caps, cap_at, is_full, first_child}
use Rattle.kernel_forest.specs.Derivation.{names_same}
use Rattle.cspace_core.specs.Resolution.{slot_of, is_cnode}
use Rattle.kernel_delete.specs.Housed.{is_housed}
use Rattle.kernel_abstract.specs.declared.invocation.NewObjects.{NewObjects}
use Rattle.kernel_abstract.specs.declared.invocation.CapPlacement.{CapPlacement}
use Rattle.kernel_abstract.specs.declared.invocation.NewSpace.{NewSpace}
use Rattle.kernel_abstract.specs.declared.invocation.Invocation.{Invocation}
use Rattle.kernel_abstract.specs.declared.invocation.Invocation.TheVariants.{Send, Receive, Retype, Derive, Move, Delete, Revoke, CancelBadged, SetSpace, Suspend, Resume}
use Rattle.kernel_abstract.specs.Regions.{free_of}
use Rattle.kernel_abstract.specs.Memory.{IsSlotAddress}
use Rattle.kernel_abstract.specs.Shown.{Shown, has_child, threads_of}
use Rattle.kernel_abstract.specs.Private.Effects.{IsLiveEndpoint}

-- an empty slot gets a lawful capability of the object that a full slot names, in whatever memory all are lawful
pub record IsPlacement (p : ProfileName) (f : Forest Entry) (placement : CapPlacement) : Type 0 where
  pub full : is_full placement.source f ≡ true
  pub empty : is_full placement.slot f ≡ false
  pub placed : (memory : ℕ) → All (IsLawful p memory) (caps f) → IsSlotAddress p memory placement.slot
  pub housed : is_housed p f placement.slot ≡ true
  pub lawful : (memory : ℕ) → All (IsLawful p memory) (caps f) → IsLawful p memory placement.cap
  pub same : names_same (cap_at f placement.source) placement.cap ≡ true

-- a badge is set if there was none, and an untyped region of which nothing was made is handed on
pub record IsDerivation (p : ProfileName) (f : Forest Entry) (placement : CapPlacement) : Type 0 where
  pub ends : IsPlacement p f placement
  pub badge : (badge_of placement.cap ≡ badge_of (cap_at f placement.source)) ⊎ (badge_of (cap_at f placement.source) ≡ 0)
  pub childless : is_untyped placement.cap ≡ true → first_child placement.source f ≡ None

-- neither the badge nor what is used of an untyped region is changed
pub record IsMove (p : ProfileName) (f : Forest Entry) (placement : CapPlacement) : Type 0 where
  pub ends : IsPlacement p f placement
  pub badge : badge_of placement.cap ≡ badge_of (cap_at f placement.source)
  pub free : free_of placement.cap ≡ free_of (cap_at f placement.source)

-- an untyped has room for objects of a lawful shape, and each gets an empty slot
pub record IsRetype (p : ProfileName) (f : Forest Entry) (new : NewObjects) : Type 0 where
  pub untyped : is_untyped (cap_at f new.untyped) ≡ true
  pub shape : IsLawfulShape p new.shape
  pub some : 1 ≤ new.count
  pub most : new.count ≤ max_retype_count
  pub placed : LieInUntyped (cap_at f new.untyped) (has_child new.untyped f) new.shape.bits new.count new.placed
  pub empty : (i : ℕ) → i < new.count → is_full (slot_of p new.first_slot i) f ≡ false
  pub slots : (memory : ℕ) → All (IsLawful p memory) (caps f) → (i : ℕ) → i < new.count → IsSlotAddress p memory (slot_of p new.first_slot i)
  pub housed : (i : ℕ) → i < new.count → is_housed p f (slot_of p new.first_slot i) ≡ true

-- a slot can stand there, in whatever memory all capabilities are lawful
abbrev pub IsNamedSlot : ProfileName → Forest Entry → ℕ → Type 0
IsNamedSlot p f slot = (memory : ℕ) → All (IsLawful p memory) (caps f) → IsSlotAddress p memory slot

abbrev pub IsLiveThread : Forest Entry → ℕ → Type 0
IsLiveThread f t = list_any (λ k. t == k) (threads_of f) ≡ true

-- a live thread gets a lawful capability of the CNode that a full slot names
pub record IsSpace (p : ProfileName) (f : Forest Entry) (new : NewSpace) : Type 0 where
  pub live : IsLiveThread f new.tcb
  pub root : IsNamedSlot p f new.tcb
  pub full : is_full new.source f ≡ true
  pub invoked : is_full new.invoked f ≡ true
  pub names : cap_at f new.invoked ≡ Tcb new.tcb
  pub lawful : (memory : ℕ) → All (IsLawful p memory) (caps f) → IsLawful p memory new.cap
  pub remade : (memory : ℕ) → IsLawful p memory (cap_at f new.source) → IsLawful p memory new.cap
  pub same : names_same (cap_at f new.source) new.cap ≡ true
  pub node : is_cnode new.cap ≡ true

abbrev pub IsInvocation : ProfileName → Shown → Invocation → Type 0
IsInvocation p v (Send service message block) = IsLiveEndpoint v service.endpoint
IsInvocation p v (Receive service block) = IsLiveEndpoint v service.endpoint
IsInvocation p v (Retype new) = IsRetype p v.derivations new
IsInvocation p v (Derive placement) = IsDerivation p v.derivations placement
IsInvocation p v (Move placement) = IsMove p v.derivations placement
IsInvocation p v (Delete slot) = IsNamedSlot p v.derivations slot
IsInvocation p v (Revoke slot) = IsNamedSlot p v.derivations slot
IsInvocation p v (CancelBadged service) = IsLiveEndpoint v service.endpoint
IsInvocation p v (SetSpace new) = IsSpace p v.derivations new
IsInvocation p v (Suspend tcb) = IsLiveThread v.derivations tcb
IsInvocation p v (Resume tcb) = IsLiveThread v.derivations tcb
