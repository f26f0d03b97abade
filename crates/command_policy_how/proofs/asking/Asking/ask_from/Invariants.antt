-- What was said of the questions to the threads before a place.
use Rattle.command_policy_how.proofs.Merged.{SoFarTo}
use Rattle.command_policy_how.proofs.asking.Asking.ask_from.Given as goal

abbrev pub invariant-loop-to : goal.invariant-loop-to
invariant-loop-to g l =
    SoFarTo g.P.Profile.profile l.self.held.policy.now l.self.held.layout.now l.self.held.homes.now l.self.told l.self.most l.kernel l.from l.self.all.now l.to-index l.answer
