use Rattle.std.proofs.Common.{◌<◌, arith, length, get_or, Some, None}
use Rattle.std.proofs.lemmas.Option.{slice_get-get_or}
use Rattle.cap_core.specs.declared.capability.Cap.TheVariants.{Null}
use Rattle.query_reach.specs.declared.filled.FullSlot.{FullSlot}
use Rattle.query_reach.proofs.Tabled.{same_shape, shapes, word_read, row_spread_none, row_spread_more, row_spread_skip, row_spread_all}
use Rattle.query_reach.proofs.search.expand_row.Goals as goal
use Rattle.query_reach.proofs.search.expand_row.Goals.{in-Some+in_ok-expand, in_default}

pub expand-requires-clause-word : goal.expand-requires-clause-word
expand-requires-clause-word g c =
    c.requires.words c.loop-place.place c.in-Some.word (word_read c.args.row.now c.loop-place.place None (Some c.in-Some.word) c.loop-place-test.true c.in-Some.is)

pub loop-place-preserved : goal.loop-place-preserved
loop-place-preserved g c =
    let none : FullSlot = record { address = 0; cap = Null } in
    let within : c.loop-place.place < length c.args.filled.now = omega (arith, c.requires.width, c.loop-place-test.true) in
    elim c.match-row-place.branch [
      | in-Some+in_ok-expand w ↦ rw w.rows-is (record {
        shape = shapes _ _ _ _ c.loop-place.invariant.shape w.in_ok-expand.ensures.shape;
        spreads = row_spread_more g.P.Profile.profile c.args.row.now c.args.left c.args.filled.now c.loop-place.place _ _ _ (get_or c.args.filled.now c.loop-place.place none) w.in-Some.word
            (slice_get-get_or c.args.filled.now c.loop-place.place none within)
            (word_read c.args.row.now c.loop-place.place None (Some w.in-Some.word) c.loop-place-test.true w.in-Some.is)
            c.loop-place.invariant.spreads w.in_ok-expand.ensures.spreads;
      })
      | in_default w ↦ rw w.rows-is (record {
        shape = c.loop-place.invariant.shape;
        spreads = row_spread_skip g.P.Profile.profile c.args.row.now c.args.left c.args.filled.now c.loop-place.place _ _
            (word_read c.args.row.now c.loop-place.place None None c.loop-place-test.true w.in_default.is) c.loop-place.invariant.spreads;
      })
    ]

pub loop-place-init : goal.loop-place-init
loop-place-init g c = record {
  shape = same_shape _ _ c.requires.wide;
  spreads = row_spread_none g.P.Profile.profile c.args.row.now c.args.left c.args.filled.now _;
}

pub returns-clause-spreads : goal.returns-clause-spreads
returns-clause-spreads g c =
    row_spread_all g.P.Profile.profile c.args.row.now c.args.left c.args.filled.now c.loop-place.place (length c.args.filled.now) _ _
    (omega (arith, c.loop-place-test.false)) c.loop-place.invariant.spreads
