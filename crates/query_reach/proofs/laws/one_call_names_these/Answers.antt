use Rattle.query_reach.proofs.OneCall.{all_are_named}
use Rattle.query_reach.proofs.laws.one_call_names_these.Goals as goal

pub returns : goal.returns
returns c = all_are_named
