use Rattle.std.proofs.Common.{rules, ◌≡◌, Some, refl, sym, subst}
use Rattle.kernel_shared.specs.Laws.{count_of}
use Rattle.kernel_shared.specs.ClientStates.{ClientState, lost}
use Rattle.kernel_shared.proofs.client.Client.ask.Goals as goal

pub returns-in-Ok-clause-ok : goal.returns-in-Ok-clause-ok
returns-in-Ok-clause-ok g c =
    let t = rw c.in-Ok.is at c.publish-state.ensures.ok in
    let n : count_of c.refresh.new.self.id c.refresh.new.self.front ≡ c.refresh.new.self.done = search rules in
    subst (λ (u : ClientState). (u.stray ≡ Some (lost c.args.call u.front)) × (count_of u.id u.front ≡ u.done)) (sym t) (refl, n)
