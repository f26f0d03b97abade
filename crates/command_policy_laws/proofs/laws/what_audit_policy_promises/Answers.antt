-- The proof of `what_audit_policy_promises`: the goals that a search leaves open.
use Rattle.command_policy_laws.proofs.Audits.{audit_promised}
use Rattle.command_policy_laws.proofs.laws.what_audit_policy_promises.Goals as goal

pub returns : goal.returns
returns c = audit_promised
