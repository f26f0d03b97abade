-- The proof of `no_slot`: the goal that a search leaves open.
use Rattle.std.proofs.Common.{◌≡◌, sym, ◌∙◌}
use Rattle.kernel_forest.specs.Entries.{cap_at}
use Rattle.slot_core.specs.Places.{address_of}
use Rattle.kernel_abstract.proofs.Checks.Walked.{slot_by_index_is}
use Rattle.kernel_checks.proofs.failure.RefusalFailure.no_slot.Goals as goal

pub returns : goal.returns
returns g c =
    let p = g.P.Profile.profile in
    sym (slot_by_index_is p (cap_at (g.S.CapStore.forest c.args._store.now)) c.args._word (address_of p c.args._root) c.args._index c.args._depth ∙ c.requires)
