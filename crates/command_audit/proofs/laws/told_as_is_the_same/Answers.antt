use Rattle.command_audit.proofs.ToldAs.{told_right, told_once}
use Rattle.command_audit.proofs.laws.told_as_is_the_same.Goals as goal

pub returns-clause-right : goal.returns-clause-right
returns-clause-right c = λ list t first. told_right list t first

pub returns-clause-once : goal.returns-clause-once
returns-clause-once c = λ list t u. told_once list t u
