-- The proof of `cap_at`: the goals that a search leaves open.
use Rattle.std.proofs.Common.{sym, ap, subst, ◌∙◌, All}
use Rattle.kernel_forest.specs.Entries.{cap_at, slots}
use Rattle.kernel_abstract.specs.Shown.{Shown}
use Rattle.kernel_abstract.specs.Memory.{IsSlotAddress, IsAligned}
use Rattle.kernel_core.proofs.Threads.Addresses.{no_cap}
use Rattle.kernel_core.proofs.Capabilities.ShownForest.{all_aligned}
use Rattle.kernel_core.proofs.kernel.Kernel.cap_at.Goals as goal

pub returns-in-Some-clause-aligned : goal.returns-in-Some-clause-aligned
returns-in-Some-clause-aligned g c =
    subst (λ (v : Shown). All (IsAligned g.P.Profile.profile) (slots v.derivations)) c.self.view_is
    (all_aligned g.P.Profile.profile c.self.inside.threads.memory_bits (g.S.CapStore.forest c.self.inside.store) c.self.invariant.kernel.slots_placed)

pub returns-in-None-clause-cap : goal.returns-in-None-clause-cap
returns-in-None-clause-cap g c =
    sym (ap (λ (v : Shown). cap_at v.derivations c.args.slot) (sym c.self.view_is)
    ∙ no_cap (g.S.CapStore.forest c.self.inside.store) c.args.slot (IsSlotAddress g.P.Profile.profile c.self.inside.threads.memory_bits) c.self.invariant.kernel.slots_placed c.in-None.ensures.none)

pub returns-in-None-clause-aligned : goal.returns-in-None-clause-aligned
returns-in-None-clause-aligned g c =
    subst (λ (v : Shown). All (IsAligned g.P.Profile.profile) (slots v.derivations)) c.self.view_is
    (all_aligned g.P.Profile.profile c.self.inside.threads.memory_bits (g.S.CapStore.forest c.self.inside.store) c.self.invariant.kernel.slots_placed)
