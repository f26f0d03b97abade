-- The proof of `no_word`: the goal that a search leaves open.
use Rattle.std.proofs.Common.{◌≡◌, sym, ap, ◌∙◌}
use Rattle.slot_core.specs.Places.{address_of}
use Rattle.kernel_abstract.proofs.Checks.Walked.{looked_up, slot_by_word_is}
use Rattle.kernel_checks.proofs.failure.RefusalFailure.no_word.Goals as goal

pub returns : goal.returns
returns g c =
    let p = g.P.Profile.profile in
    sym (slot_by_word_is p (g.S.CapStore.forest c.args._store.now) c.args._word (address_of p c.args._root) c.args._number ∙ ap looked_up c.requires)
