-- The proof of `listings_tell_policies`: the goals that a search leaves open.
use Rattle.command_policy_listing.proofs.Told.{listings_tell}
use Rattle.command_policy_listing.proofs.laws.listings_tell_policies.Goals as goal

pub returns : goal.returns
returns c = λ a b n setup made. listings_tell a b n setup made
