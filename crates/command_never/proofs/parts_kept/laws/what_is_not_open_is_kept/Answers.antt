-- The proof of `what_is_not_open_is_kept`: the goals that a search leaves open.
use Rattle.command_never.proofs.Kept.{kept_ever}
use Rattle.command_never.proofs.parts_kept.laws.what_is_not_open_is_kept.Goals as goal

pub returns : goal.returns
returns c p memory uses v by i j = kept_ever p memory uses by i j v
