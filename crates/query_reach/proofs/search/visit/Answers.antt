use Rattle.std.proofs.Common.{get_or}
use Rattle.std.proofs.lemmas.Option.{slice_get-get_or}
use Rattle.cap_core.specs.declared.capability.Cap.TheVariants.{Null}
use Rattle.query_reach.specs.declared.filled.FullSlot.{FullSlot}
use Rattle.query_reach.proofs.Tabled.{visit_noted, visit_none}
use Rattle.query_reach.proofs.search.visit.Goals as goal

pub returns-in_ok-note-clause-visits : goal.returns-in_ok-note-clause-visits
returns-in_ok-note-clause-visits g c =
    let none : FullSlot = record { address = 0; cap = Null } in
    visit_noted g.P.Profile.profile c.args.from c.args.left c.args.word c.args.place c.args.filled.now (get_or c.args.filled.now c.args.place none) _ _ c.in-Some.more c.in-Some.next
    (slice_get-get_or c.args.filled.now c.args.place none c.requires.place) c.in_ok-note.ensures.noted c.in-Some.ensures.some c.in-Some.ensures.each

pub returns-in_default-clause-visits : goal.returns-in_default-clause-visits
returns-in_default-clause-visits g c =
    let none : FullSlot = record { address = 0; cap = Null } in
    visit_none g.P.Profile.profile c.args.from c.args.left c.args.word c.args.place c.args.filled.now (get_or c.args.filled.now c.args.place none) _
    (slice_get-get_or c.args.filled.now c.args.place none c.requires.place) (λ t w n. c.in_default.not-Some (t, w) (c.next_word.ensures.each t w n))
