-- The places that are looked at are those behind the first calls.
use Rattle.std.proofs.Common.{ℕ, List, ap, ◌∙◌}
use Rattle.command_policy_text.specs.declared.told.Told.{Told}
use Rattle.command_policy.specs.Policies.{told_with}
use Rattle.command_policy.proofs.Origins.{is_origin, origin_behind}
use Rattle.command_policy.proofs.judging.Judged.told_with_places.Goals as goal

pub told_with-requires-clause-origin : goal.told_with-requires-clause-origin
told_with-requires-clause-origin g c =
    is_origin g.P.Profile.profile c.args.setup.now c.args.made _ c.origin-origin.result _ _ c.origin-origin.ensures c.requires.plan c.requires.made c.in_ok-fills.ensures

pub returns : goal.returns
returns g c =
    c.in_ok-answer.ensures
    ∙ ap (λ (places : Told → List ℕ). told_with places c.args.self.now c.args.setup.now)
    (origin_behind g.P.Profile.profile c.args.setup.now c.args.made _ c.origin-origin.result c.args.self.now c.origin-origin.ensures
    (rw c.as_slice-joins.ensures.value at c.in_ok-sites.ensures))
