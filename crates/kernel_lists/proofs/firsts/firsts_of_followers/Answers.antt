use Rattle.std.specs.Prelude.{◌≡◌, true}
use Rattle.kernel_lists.proofs.Merging.{firsts_follow, find-firsts}
use Rattle.kernel_lists.proofs.firsts.firsts_of_followers.Goals as goal

pub returns-clause-follow : goal.returns-clause-follow
returns-clause-follow g c = λ same alike fine next ys xs laws respects each. firsts_follow same alike laws (λ x. fine x ≡ true) next respects ys xs each

pub returns-clause-found : goal.returns-clause-found
returns-clause-found g c = λ same test fine xs respects each. find-firsts same (λ x. fine x ≡ true) test respects xs each
