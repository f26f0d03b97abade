-- The proof of `no_grant_leads_out`: the goals that a search leaves open.
use Rattle.command_policy_laws.proofs.GrantsMet.{grants_kept_ever}
use Rattle.command_policy_laws.proofs.laws.no_grant_leads_out.Goals as goal

pub returns : goal.returns
returns c p memory uses v i j none = grants_kept_ever p memory uses v i j none
