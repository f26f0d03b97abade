-- It is said to be excluded where the laws say so, and calls are looked for where they do not.
use Rattle.std.proofs.Common.{rules, ◌≡◌, true, false}
use Rattle.command_how.proofs.Told.{outcome_of_found}
use Rattle.command_how.proofs.telling.outcome_of.Goals as goal

pub returns-then-branch : goal.returns-then-branch
returns-then-branch g c = λ uses right.
    let yes : c.in_ok-excludes.field-0 ≡ true = search rules in
    (record { right = right; outside = c.in_ok-excludes.ensures.outside yes uses }, c.in_ok-excludes.ensures.ruled yes uses)

pub returns : goal.returns
returns g c = λ uses right.
    let no : c.in_ok-excludes.field-0 ≡ false = search rules in
    outcome_of_found _ _ _ uses _ _ _ c.in_ok-outcome.outcome (c.in_ok-excludes.ensures.inside no) c.in_ok-outcome.ensures
