use Rattle.std.proofs.Common.{List, subst, ap}
use Rattle.kernel_shared.specs.declared.entry.Entry.{Entry}
use Rattle.kernel_shared.specs.Laws.{Lawful}
use Rattle.kernel_shared.specs.ClientStates.{ClientState}
use Rattle.kernel_shared.proofs.Lawfully.{lawful_take}
use Rattle.kernel_shared.proofs.client.Client.assert_lawful.Goals as goal

pub returns-clause-lawful : goal.returns-clause-lawful
returns-clause-lawful g c =
    subst (λ (h : List Entry). ∥ Lawful g.N.Naming.profile g.N.Naming.opening h ∥₁) (ap (λ (t : ClientState). t.front) c.self.view_is) (lawful_take _ _ c.self.inside.seen _ c.self.invariant.lawful)
