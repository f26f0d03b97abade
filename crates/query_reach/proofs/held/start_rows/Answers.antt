use Rattle.std.proofs.Common.{◌≡◌, ◌+◌, arith, length, map, get_or, List, Option, refl}
use Rattle.std.proofs.lemmas.List.{length-map}
use Rattle.std.proofs.lemmas.Option.{slice_get-get_or, slice_get_within}
use Rattle.cap_core.specs.Numbers.{word_bits}
use Rattle.query_reach.specs.declared.paths.Path.{Path}
use Rattle.query_reach.specs.declared.reached.Reached.{Reached}
use Rattle.query_reach.proofs.PathTables.{empty_wide, empty_none}
use Rattle.query_reach.proofs.HeldSlots.{starts_more, starts_skip, starts_put, starts_none, starts_nothing}
use Rattle.query_reach.proofs.held.start_rows.Goals as goal
use Rattle.query_reach.proofs.held.start_rows.Goals.{in-Some+in_ok-put_path, in_default}

pub loop-r-init : goal.loop-r-init
loop-r-init g c =
    let rows : List (List (Option Path)) = map (λ r. r.items) c.in_ok-rows.rows.items in
    let none = empty_none (word_bits g.P.Profile.profile + 1) rows (c.in_ok-rows.ensures) in
    record {
      wide = empty_wide (word_bits g.P.Profile.profile + 1) (length c.args.filled.now) rows c.in_ok-rows.ensures;
      starts = starts_nothing rows none;
      of = starts_none c.args.filled.now c.args.reached.now rows none;
    }

pub put_path-requires-clause-place : goal.put_path-requires-clause-place
put_path-requires-clause-place g c =
    let at = c.in-Some.ensures.some in
    let within = slice_get_within c.args.filled.now c.in-Some.place at.0 at.1.0 in
    omega (arith, within)

pub put_path-requires-clause-read : goal.put_path-requires-clause-read
put_path-requires-clause-read g c =
    let high = c.loop-r.invariant.wide.high in
    let m : length (map (λ r. r.items) c.loop-r.rows.items) ≡ length c.loop-r.rows.items = rw length-map refl in
    omega (arith, high, m, c.loop-r.rows.ok.0)

pub put_path-requires-clause-wide : goal.put_path-requires-clause-wide
put_path-requires-clause-wide g c = (word_bits g.P.Profile.profile + 1, c.loop-r.invariant.wide)

pub loop-r-preserved : goal.loop-r-preserved
loop-r-preserved g c =
    let none : Reached = record { word = 0; slot = 0 } in
    let r : Reached = get_or c.args.reached.now c.loop-r.r-index none in
    let here = slice_get-get_or c.args.reached.now c.loop-r.r-index none c.loop-r-test.true in
    let rows : List (List (Option Path)) = map (λ r. r.items) c.loop-r.rows.items in
    let wide = c.loop-r.invariant.wide in
    elim c.match-place_of.branch [
      | in-Some+in_ok-put_path w ↦ rw w.rows-is (
          let at = w.in-Some.ensures.some in
          let put = w.in_ok-put_path.ensures.put in
          record {
            wide = w.in_ok-put_path.ensures.wide (word_bits g.P.Profile.profile + 1) wide;
            starts = starts_put rows _ w.in-Some.place r.word put c.loop-r.invariant.starts;
            of = starts_more c.args.filled.now c.args.reached.now c.loop-r.r-index w.in-Some.place rows _ r at.0 c.requires here at.1.0 at.1.1 put c.loop-r.invariant.of;
          })
      | in_default w ↦ rw w.rows-is (record {
        wide = wide;
        starts = c.loop-r.invariant.starts;
        of = starts_skip c.args.filled.now c.args.reached.now c.loop-r.r-index rows r here w.in_default.ensures.none c.loop-r.invariant.of;
      })
    ]
