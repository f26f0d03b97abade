use Rattle.kernel_forest.proofs.Marked.MarkedLaw.{stands_for, no_other}
use Rattle.kernel_forest.proofs.lists_stand_for_forests.Goals as goal

pub returns-clause-stands : goal.returns-clause-stands
returns-clause-stands g c l = stands_for g.P.Profile.profile l

pub returns-clause-alone : goal.returns-clause-alone
returns-clause-alone g c l f h = no_other g.P.Profile.profile l f h
