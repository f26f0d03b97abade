use Rattle.std.proofs.Common.{◌≡◌, ◌∙◌}
use Rattle.cap_core.specs.Numbers.{word_bits}
use Rattle.query_reach.proofs.Tabled.{empty_wide, first_noted}
use Rattle.query_reach.proofs.table.first_rows.Goals as goal

pub note-requires-clause-wide : goal.note-requires-clause-wide
note-requires-clause-wide g c = empty_wide c.args.width _ c.in_ok-rows.ensures.empty

pub returns-clause-first : goal.returns-clause-first
returns-clause-first g c =
    let bits : c.WORD_BITS-2.result ≡ word_bits g.P.Profile.profile = c.WORD_BITS-2.ensures ∙ g.met.P.Profile.word_bits_is in
    rw bits at (first_noted c.WORD_BITS-2.result c.args.width c.args.root _ _ c.in_ok-rows.ensures.empty c.in_ok-note.ensures.shape c.in_ok-note.ensures.noted)
