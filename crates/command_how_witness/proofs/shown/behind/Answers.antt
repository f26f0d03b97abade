-- A run keeps objects in the memory.
use Rattle.std.proofs.Common.{subst, sym}
use Rattle.kernel_abstract.specs.Memory.{IsInMemory}
use Rattle.kernel_abstract.specs.Shown.{Shown}
use Rattle.command_how_witness.proofs.shown.behind.Goals as goal

pub returns-clause-within : goal.returns-clause-within
returns-clause-within g c =
    (c.requires.0, c.run.ensures.within c.requires.0 (subst (λ (v : Shown). IsInMemory g.P.Profile.profile c.requires.0 v) (sym c.in_ok-at.ensures) c.requires.1))
