-- The proof of `add_lines`: the goals that a search leaves open.
use Rattle.std.proofs.Common.{◌≤◌, length, Some, refl, rules}
use Rattle.command_policy_text.proofs.Placed.{all_placed}
use Rattle.command_policy_text.proofs.places.add_lines.Goals as goal

pub returns : goal.returns
returns g c =
    let all : length c.in_ok-places.places.items ≤ c.loop-sited.sited-index = search rules in
    all_placed g.P.Profile.profile c.args.held.policy.now c.args.held.layout.now (Some c.args.origin) c.args.origin c.args.told c.in_ok-places.places.items c.loop-sited.sited-index
    _ _ refl c.in_ok-places.ensures all (rw c.deref-sited-items.ensures.value at c.loop-sited.invariant)
