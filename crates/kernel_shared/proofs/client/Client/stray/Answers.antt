use Rattle.std.proofs.Common.{List, Some, sym, ◌∙◌, ap, subst}
use Rattle.kernel_shared.specs.ClientStates.{ClientState, lost, lost_of}
use Rattle.kernel_shared.specs.declared.entry.Entry.{Entry}
use Rattle.kernel_shared.specs.Laws.{Lawful}
use Rattle.kernel_shared.proofs.Lawfully.{lawful_take}
use Rattle.kernel_shared.specs.Readers.{seen_of}
use Rattle.kernel_shared.proofs.client.Client.stray.Goals as goal

pub returns-in-Some-clause-some : goal.returns-in-Some-clause-some
returns-in-Some-clause-some g c = (
  c.in-Some.stray.call,
  sym (ap (λ (t : ClientState). t.stray) c.self.view_is) ∙ (ap (λ s. lost_of s (seen_of c.self.inside.reader)) c.in-Some.is ∙ ap (λ f. Some (lost c.in-Some.stray.call f)) (sym c.of.ensures)),
)

pub returns-in-Some-clause-lawful : goal.returns-in-Some-clause-lawful
returns-in-Some-clause-lawful g c =
    subst (λ (h : List Entry). ∥ Lawful g.N.Naming.profile g.N.Naming.opening h ∥₁) (sym c.of.ensures) (lawful_take _ _ c.in-Some.stray.seen _ c.self.invariant.lawful)
