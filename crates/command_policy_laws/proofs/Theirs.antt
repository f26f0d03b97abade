-- What a group's slots name, and what its threads name, is the group's.
use Rattle.std.proofs.Common.{◌≡◌, ℕ, ◌≤◌, ◌<◌, List, Option, Some, None, sym, ap, ◌∙◌, refl}
use Rattle.cap_core.specs.declared.profile.ProfileName.{ProfileName}
use Rattle.cap_core.specs.declared.capability.Cap.{Cap}
use Rattle.cap_core.specs.declared.capability.Cap.TheVariants.{Null, Untyped, Endpoint, CNode, Tcb}
use Rattle.kernel_forest.specs.Forest.{Forest}
use Rattle.kernel_forest.specs.Entries.{Entry, cap_at}
use Rattle.query_parts.specs.Listed.{part_at, parts_listed}
use Rattle.query_parts.specs.Parts.{IsClosed, IsWithin}
use Rattle.query_parts.proofs.Same.{names_its_own}
use Rattle.command_policy_breaches.specs.declared.held.Home.{Home}
use Rattle.command_policy_breaches.specs.declared.held.Layout.{Layout}
use Rattle.command_policy_laws.specs.Unbroken.{AreNamesTheirs, AreObjectsTheirs, IsObjectTheirs, group_in, group_of}

has_part : (homes : List Home) (o : Option ℕ) (g : ℕ) → group_in homes o ≡ Some g → (i : ℕ) × (o ≡ Some i)
has_part homes None g h = cc
has_part homes (Some i) g h = (i, refl)

same_part : (l : Layout) (a b i g : ℕ) → part_at l.memory.items a ≡ Some i → part_at l.memory.items b ≡ Some i → group_of l a ≡ Some g → group_of l b ≡ Some g
same_part l a b i g at other group = ap (group_in l.homes.items) (other ∙ sym at) ∙ group

theirs : (p : ProfileName) (l : Layout) (i g slot : ℕ) (cap : Cap) → part_at l.memory.items slot ≡ Some i → group_of l slot ≡ Some g
    → IsWithin p (parts_listed l.memory.items l.uses.items) i cap → IsObjectTheirs p l g cap
theirs p l i g slot Null at group own = tt
theirs p l i g slot (Endpoint base badge rights) at group own = tt
theirs p l i g slot (Untyped base bits free) at group own = λ address low high. same_part l slot address i g at (own address low high) group
theirs p l i g slot (CNode base radix guard) at group own = λ address low high. same_part l slot address i g at (own address low high) group
theirs p l i g slot (Tcb base) at group own = λ address low high. same_part l slot address i g at (own address low high) group

module _ (p : ProfileName) (l : Layout) (f : Forest Entry) (closed : (i : ℕ) → IsClosed p (parts_listed l.memory.items l.uses.items) i f) where
  pub objects_theirs : AreObjectsTheirs p l f
  objects_theirs slot g group =
      let there = has_part l.homes.items (part_at l.memory.items slot) g group in
      theirs p l there.0 g slot (cap_at f slot) there.1 group (closed there.0 slot there.1)

  pub names_theirs : AreNamesTheirs p l f
  names_theirs thread slot g group named =
      let there = has_part l.homes.items (part_at l.memory.items thread) g group in
      same_part l thread slot there.0 g there.1 (names_its_own p (parts_listed l.memory.items l.uses.items) there.0 f thread (closed there.0) there.1 slot named) group
