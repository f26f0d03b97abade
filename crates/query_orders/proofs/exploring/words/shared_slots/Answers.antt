use Rattle.std.proofs.Common.{ap, sym, ◌∙◌}
use Rattle.kernel_forest.specs.Entries.{derivations_of}
use Rattle.kernel_abstract.specs.Shown.{Shown}
use Rattle.query_orders.proofs.exploring.words.shared_slots.Goals as goal

pub returns-then-capabilities_may_change : goal.returns-then-capabilities_may_change
returns-then-capabilities_may_change g c w k = sym c.capabilities_may_change.ensures ∙ c.if-capabilities_may_change.true

pub returns : goal.returns
returns g c w k = (
  sym c.capabilities_may_change.ensures ∙ c.if-capabilities_may_change.false,
  c.in_ok-slots.ensures.list ∙ ap (λ (v : Shown). derivations_of v.derivations) k,
)
