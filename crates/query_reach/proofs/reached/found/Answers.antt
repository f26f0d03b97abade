use Rattle.std.proofs.Common.{◌<◌, ℕ, arith, length, get_or, Some, None}
use Rattle.std.proofs.lemmas.Option.{slice_get-get_or}
use Rattle.cap_core.specs.declared.capability.Cap.TheVariants.{Null}
use Rattle.query_reach.specs.declared.filled.FullSlot.{FullSlot}
use Rattle.query_reach.proofs.Tabled.{word_read, word_inside}
use Rattle.query_reach.proofs.Listed.{found_more, found_only, found_skip}
use Rattle.query_reach.proofs.reached.found.Goals as goal
use Rattle.query_reach.proofs.reached.found.Goals.{in-Some+in_ok-push, in_default}

pub loop-place-preserved : goal.loop-place-preserved
loop-place-preserved c =
    let none : FullSlot = record { address = 0; cap = Null } in
    let place : ℕ = c.loop-place.place in
    let at : FullSlot = get_or c.args.filled.now place none in
    let within : place < length c.args.filled.now = omega (arith, c.requires, c.loop-place-test.true) in
    elim c.match-row-place.branch [
      | in-Some+in_ok-push w ↦ rw (w.list-is, w.in_ok-push.ensures.items) (record {
        only = found_only c.args.row.now c.args.filled.now place at w.in-Some.word c.loop-place.list.items
            (slice_get-get_or c.args.filled.now place none within) (word_read c.args.row.now place None (Some w.in-Some.word) c.loop-place-test.true w.in-Some.is) c.loop-place.invariant.only;
        all = found_more c.args.row.now c.args.filled.now place at w.in-Some.word c.loop-place.list.items
            (slice_get-get_or c.args.filled.now place none within) (word_read c.args.row.now place None (Some w.in-Some.word) c.loop-place-test.true w.in-Some.is) c.loop-place.invariant.all;
      })
      | in_default w ↦ rw w.list-is (record {
        only = c.loop-place.invariant.only;
        all = found_skip c.args.row.now c.args.filled.now place c.loop-place.list.items (word_read c.args.row.now place None None c.loop-place-test.true w.in_default.is) c.loop-place.invariant.all;
      })
    ]

pub returns-clause-all : goal.returns-clause-all
returns-clause-all c r is =
    let low : is.place < length c.args.row.now = word_inside c.args.row.now is.place r.word is.word in
    c.loop-place.invariant.all r is (omega (arith, low, c.loop-place-test.false))
