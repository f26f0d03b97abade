use Rattle.kernel_forest.proofs.Trees.Without.{preorder-without, without-without}
use Rattle.kernel_forest.proofs.Slots.Emptied.{emptied-without}
use Rattle.kernel_forest.proofs.slots_leave_together.Goals as goal

pub returns-clause-left : goal.returns-clause-left
returns-clause-left c p f = preorder-without p f

pub returns-clause-both : goal.returns-clause-both
returns-clause-both c p q f = without-without p q f

pub returns-clause-one : goal.returns-clause-one
returns-clause-one c s f d = emptied-without s f d
