-- What is told with no places is told of what is kept, and in version 1; what is told with them is told in version 2.
use Rattle.std.proofs.Common.{sym, ◌∙◌}
use Rattle.command_policy.proofs.Answered.{if_ok}
use Rattle.command_policy.proofs.Origins.{told_of_kept, told_of_one, told_of_two}
use Rattle.command_policy.proofs.judging.Judged.told.Goals as goal

pub returns-in-AllMet : goal.returns-in-AllMet
returns-in-AllMet g c =
    told_of_kept g.P.Profile.profile c.args.setup.now c.args.made c.args.self.now _ _ c.in-AllMet.is c.in_ok-plain.ensures

pub returns-in-One : goal.returns-in-One
returns-in-One g c =
    c.in_ok-plain.ensures ∙ told_of_one g.P.Profile.profile c.args.setup.now c.args.made c.args.self.now c.in-One.is

pub returns-in-Two : goal.returns-in-Two
returns-in-Two g c =
    if_ok c.told_with_places.result _ _
    (λ told is. is ∙ told_of_two g.P.Profile.profile c.args.setup.now c.args.made c.args.self.now c.in-Two.is) c.told_with_places.ensures
