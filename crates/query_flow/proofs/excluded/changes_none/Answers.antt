-- The proof of `changes_none`: the goals that a search leaves open.
use Rattle.std.proofs.Common.{Option, IfSome, ◌∙◌, sym, subst}
use Rattle.query_flow.specs.declared.excluded.Bound.{Bound}
use Rattle.query_flow.specs.Apart.{IsTested}
use Rattle.query_flow.proofs.Ruled.{none_changed, idle_changes}
use Rattle.query_flow.proofs.excluded.changes_none.Goals as goal

pub returns-then-is_idle : goal.returns-then-is_idle
returns-then-is_idle g c so =
    let p = g.P.Profile.profile in
    idle_changes p c.args.trusted.now c.args.kernel.now c.in-Some.bound
    (subst (λ (o : Option Bound). IfSome o (IsTested p c.args.trusted.now c.args.kernel.now)) c.in-Some.is c.in_ok-tested_flow.ensures)
    c.args.from (sym c.is_idle.ensures ∙ c.if-is_idle.true)

pub returns-else-is_idle : goal.returns-else-is_idle
returns-else-is_idle g c so =
    let p = g.P.Profile.profile in
    none_changed p c.args.trusted.now c.args.kernel.now c.in-Some.bound
    (subst (λ (o : Option Bound). IfSome o (IsTested p c.args.trusted.now c.args.kernel.now)) c.in-Some.is c.in_ok-tested_flow.ensures)
    c.args.from (c.fills_none.ensures.settled so) (c.fills_none.ensures.none so)
