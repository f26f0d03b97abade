use Rattle.std.proofs.Common.{◌≡◌, ◌+◌, ◌<◌, arith, length, map, get_or, List, Option, refl}
use Rattle.std.proofs.lemmas.List.{length-map}
use Rattle.std.proofs.lemmas.Option.{slice_get-get_or}
use Rattle.cap_core.specs.declared.capability.Cap.TheVariants.{Null}
use Rattle.cap_core.specs.Numbers.{word_bits}
use Rattle.query_reach.specs.declared.filled.FullSlot.{FullSlot}
use Rattle.query_reach.specs.declared.paths.Path.{Path}
use Rattle.query_reach.proofs.PathTables.{add_put, add_none, extend_from, extend_more, extend_all, step_inside, step_above}
use Rattle.query_reach.proofs.explore.extend.Goals as goal
use Rattle.query_reach.proofs.explore.extend.Goals.{in-Some+in_ok-put_path, in_default}

pub loop-place-init : goal.loop-place-init
loop-place-init g c = record {
  wide = c.requires.wide;
  extends = extend_from g.P.Profile.profile c.args.from c.args.read c.args.path c.args.filled.now _ _
      (λ k t w n. (c.places_in-start.ensures.all k n.0 n.1.0 (step_inside g.P.Profile.profile c.args.from c.args.read c.args.path n.0.address t w n.1.1)).0);
}

pub loop-place-preserved : goal.loop-place-preserved
loop-place-preserved g c =
    let none : FullSlot = record { address = 0; cap = Null } in
    let within : c.loop-place.place < length c.args.filled.now = omega (arith, c.loop-place-test.true, c.places_in-start.ensures.within) in
    let at : FullSlot = get_or c.args.filled.now c.loop-place.place none in
    let is = slice_get-get_or c.args.filled.now c.loop-place.place none within in
    let rows : List (List (Option Path)) = map (λ r. r.items) c.loop-place.rows.items in
    let wide = c.loop-place.invariant.wide in
    elim c.match-next_path.branch [
      | in-Some+in_ok-put_path w ↦ rw w.rows-is (
          let step = w.in-Some.ensures.some in
          let above = step_above g.P.Profile.profile (word_bits g.P.Profile.profile) c.args.from c.args.read c.args.path at.address w.in-Some.more w.in-Some.next c.requires.lawful step in
          record {
            wide = w.in_ok-put_path.ensures.wide (word_bits g.P.Profile.profile + 1) wide;
            extends = extend_more g.P.Profile.profile c.args.from c.args.read c.args.path c.args.filled.now c.loop-place.place _ _ _ at is c.loop-place.invariant.extends
                (add_put g.P.Profile.profile c.args.from c.args.read c.args.path c.loop-place.place at.address w.in-Some.more w.in-Some.next rows _ above.0 w.in_ok-put_path.ensures.put step w.in-Some.ensures.each);
          })
      | in_default w ↦ rw w.rows-is (record {
        wide = wide;
        extends = extend_more g.P.Profile.profile c.args.from c.args.read c.args.path c.args.filled.now c.loop-place.place _ _ _ at is c.loop-place.invariant.extends
            (add_none g.P.Profile.profile c.args.from c.args.read c.args.path c.loop-place.place at.address rows
            (λ t n s. w.in_default.not-Some (t, n) (c.next_path.ensures.each t n s)));
      })
    ]

pub returns-clause-extends : goal.returns-clause-extends
returns-clause-extends g c =
    extend_all g.P.Profile.profile c.args.from c.args.read c.args.path c.args.filled.now c.loop-place.place (length c.args.filled.now) _ _
    (λ k t w n. let b = (c.places_in-start.ensures.all k n.0 n.1.0 (step_inside g.P.Profile.profile c.args.from c.args.read c.args.path n.0.address t w n.1.1)).1 in
    omega (arith, b, c.loop-place-test.false))
    c.loop-place.invariant.extends

pub put_path-requires-clause-read : goal.put_path-requires-clause-read
put_path-requires-clause-read g c =
    let above = step_above g.P.Profile.profile (word_bits g.P.Profile.profile) c.args.from c.args.read c.args.path _ c.in-Some.more c.in-Some.next c.requires.lawful c.in-Some.ensures.some in
    let high = c.loop-place.invariant.wide.high in
    let m : length (map (λ r. r.items) c.loop-place.rows.items) ≡ length c.loop-place.rows.items = rw length-map refl in
    omega (arith, above.1, high, m, c.loop-place.rows.ok.0)

pub put_path-requires-clause-wide : goal.put_path-requires-clause-wide
put_path-requires-clause-wide g c = (word_bits g.P.Profile.profile + 1, c.loop-place.invariant.wide)
