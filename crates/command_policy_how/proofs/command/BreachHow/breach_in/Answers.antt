-- The breach that is found is one of what is judged.
use Rattle.std.proofs.Common.{◌≡◌, ℕ, ◌∙◌, sym, rules}
use Rattle.std.specs.Prelude.{string_bytes, map}
use Rattle.command_policy.proofs.Answered.{if_ok}
use Rattle.command_policy_how.proofs.Held.{found_held}
use Rattle.command_policy_how.proofs.command.BreachHow.breach_in.Goals as goal

pub returns : goal.returns
returns c =
    if_ok c.told_by.result _ _
    (λ found told. found_held c.args.self.now.breach c.args.judged.now c.held-held.result c.as_slice.result.now c.as_slice-2.result.now
    (map string_bytes c.args.lines.now) c.in-Some.line.now found c.held-held.ensures c.as_slice.ensures.value (c.as_slice-2.ensures.value ∙ c.in_ok-breaches.ensures) (search rules) told)
    c.told_by.ensures
