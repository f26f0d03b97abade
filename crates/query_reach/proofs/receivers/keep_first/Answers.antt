use Rattle.std.proofs.Common.{rules}
use Rattle.std.proofs.lemmas.Fn.{dedup_same}
use Rattle.query_reach.specs.ByEndpoint.{same_receiver}
use Rattle.query_reach.proofs.receivers.keep_first.Goals as goal

pub returns : goal.returns
returns c = dedup_same _ same_receiver _ (λ x y b f' x' y' k. search rules) _ _ c.dedup_by_key.ensures.filtered
