-- What was said of the questions from the threads before a place.
use Rattle.command_policy_how.proofs.Merged.{SoFarFrom}
use Rattle.command_policy_how.proofs.asking.Asking.ask_each.Given as goal

abbrev pub invariant-loop-from : goal.invariant-loop-from
invariant-loop-from g l =
    SoFarFrom g.P.Profile.profile l.self.held.policy.now l.self.held.layout.now l.self.held.homes.now l.self.told l.self.most l.kernel l.self.all.now l.from-index l.answer
