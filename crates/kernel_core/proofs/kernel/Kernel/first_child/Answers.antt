-- The proof of `first_child`: the goals that a search leaves open.
use Rattle.std.proofs.Common.{sym, ap, ◌∙◌}
use Rattle.kernel_forest.specs.Entries.{first_child}
use Rattle.kernel_abstract.specs.Shown.{Shown}
use Rattle.kernel_abstract.specs.Memory.{IsSlotAddress}
use Rattle.kernel_core.proofs.Threads.Addresses.{no_child}
use Rattle.kernel_core.proofs.kernel.Kernel.first_child.Goals as goal

pub returns-in_err-slot : goal.returns-in_err-slot
returns-in_err-slot g c =
    c.from_residual.ensures
    ∙ sym (ap (λ (v : Shown). first_child c.args.slot v.derivations) (sym c.self.view_is)
    ∙ no_child (g.S.CapStore.forest c.self.inside.store) c.args.slot (IsSlotAddress g.P.Profile.profile c.self.inside.threads.memory_bits) c.self.invariant.kernel.slots_placed (c.in_err-slot.ensures.none))
