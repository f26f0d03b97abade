use Rattle.std.proofs.Common.{◌<◌, arith, length, map, get_or, List, Option}
use Rattle.std.proofs.lemmas.Option.{slice_get-get_or, slice_get_within}
use Rattle.cap_core.specs.declared.capability.Cap.TheVariants.{Null}
use Rattle.query_reach.specs.declared.filled.FullSlot.{FullSlot}
use Rattle.query_reach.specs.declared.paths.Path.{Path}
use Rattle.query_reach.proofs.HeldSlots.{listed_only, entries_more, entries_skip}
use Rattle.query_reach.proofs.held.found.Goals as goal
use Rattle.query_reach.proofs.held.found.Goals.{in-Some+in_ok-push, in_default}

pub loop-place-preserved : goal.loop-place-preserved
loop-place-preserved g c =
    let none : FullSlot = record { address = 0; cap = Null } in
    let place = c.loop-place.place in
    let at : FullSlot = get_or c.args.filled.now place none in
    let is = slice_get-get_or c.args.filled.now place none c.loop-place-test.true in
    let rows : List (List (Option Path)) = map (λ r. r.items) c.args.rows.now in
    elim c.match-held_at.branch [
      | in-Some+in_ok-push w ↦ rw (w.list-is, w.in_ok-push.ensures.items) (record {
        only = listed_only rows c.args.filled.now place at w.in-Some.held c.loop-place.list.items is w.in-Some.ensures.some c.loop-place.invariant.only;
        all = entries_more rows c.args.filled.now place at w.in-Some.held c.loop-place.list.items is w.in-Some.ensures.some c.loop-place.invariant.all;
      })
      | in_default w ↦ rw w.list-is (record {
        only = c.loop-place.invariant.only;
        all = entries_skip rows c.args.filled.now place at c.loop-place.list.items is w.in_default.ensures.none c.loop-place.invariant.all;
      })
    ]

pub returns-clause-all : goal.returns-clause-all
returns-clause-all g c place u is =
    let low : place < length c.args.filled.now = slice_get_within c.args.filled.now place u is in
    c.loop-place.invariant.all place u (omega (arith, low, c.loop-place-test.false)) is
