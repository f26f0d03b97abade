-- The proof of `no_word`: the goal that a search leaves open.
use Rattle.std.proofs.Common.{◌≡◌, sym, ap, ◌∙◌}
use Rattle.slot_core.specs.Places.{address_of}
use Rattle.kernel_abstract.proofs.Checks.Walked.{word_passed}
use Rattle.kernel_checks.specs.Seen.{slot_seen}
use Rattle.kernel_checks.proofs.Answering.{not_both}
use Rattle.kernel_checks.proofs.failure.ReasonFailure.no_word.Goals as goal

pub unreachable-requires : goal.unreachable-requires
unreachable-requires g c =
    let p = g.P.Profile.profile in
    let f = g.S.CapStore.forest c.args.store.now in
    not_both _ (address_of p c.in-Ok.field-0) c.args._fault
    (word_passed p f c.args.word (address_of p c.args.root) c.args.number (address_of p c.in-Ok.field-0) (sym c.walk_word.ensures ∙ ap (slot_seen p) c.in-Ok.is))
    c.requires
