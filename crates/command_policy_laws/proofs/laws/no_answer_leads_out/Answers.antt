-- The proof of `no_answer_leads_out`: the goals that a search leaves open.
use Rattle.command_policy_laws.proofs.GrantsMet.{answers_kept_ever}
use Rattle.command_policy_laws.proofs.laws.no_answer_leads_out.Goals as goal

pub returns : goal.returns
returns c p memory uses v i j none = answers_kept_ever p memory uses v i j none
