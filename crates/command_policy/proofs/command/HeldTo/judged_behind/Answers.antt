-- What is judged of the policy file is judged behind so many calls.
use Rattle.std.proofs.Common.{subst}
use Rattle.setup_values.specs.Names.{names_view}
use Rattle.command_policy.specs.Policies.{IsPolicyMeantBehind}
use Rattle.command_policy.proofs.command.HeldTo.judged_behind.Goals as goal

pub returns-in-Ok : goal.returns-in-Ok
returns-in-Ok g c =
    let meant : IsPolicyMeantBehind g.P.Profile.profile (names_view c.args.read.now.names.items) c.args.read.now.setup c.args.made c.args.file c.in-Ok.judged =
    subst (λ names. IsPolicyMeantBehind g.P.Profile.profile (names_view names) c.args.read.now.setup c.args.made c.args.file c.in-Ok.judged) c.as_slice-names.ensures.value c.in-Ok.ensures.meant in
    record { says = c.requires.says; is_made = c.requires.made; meant = meant; is_judged = c.in-Ok.ensures.judged }
