use Rattle.std.proofs.Common.{◌≡◌, ◌<◌, arith, length, map, get_or, Option, Some, None, sym, ◌∙◌, inl, inr}
use Rattle.std.proofs.lemmas.Option.{slice_get-get_or}
use Rattle.cap_core.specs.declared.capability.Cap.TheVariants.{Null}
use Rattle.query_reach.specs.declared.filled.FullSlot.{FullSlot}
use Rattle.query_reach.specs.declared.paths.Path.{Path}
use Rattle.query_reach.specs.Private.Paths.{path_at}
use Rattle.query_reach.proofs.PathTables.{extend_row_none, extend_row_more, extend_row_skip, extend_row_all}
use Rattle.query_reach.proofs.explore.extend_row.Goals as goal
use Rattle.query_reach.proofs.explore.extend_row.Goals.{in-Some+in_ok-extend, in_default}

pub loop-place-init : goal.loop-place-init
loop-place-init g c = record {
  wide = c.requires.wide;
  extends = extend_row_none g.P.Profile.profile c.args.read c.args.filled.now _;
}

pub extend-requires-clause-index : goal.extend-requires-clause-index
extend-requires-clause-index g c =
    let here : path_at (map (λ r. r.items) c.loop-place.rows.items) c.args.read c.loop-place.place ≡ Some c.in-Some.path =
    rw c.as_slice-in-loop-place.ensures.value at (sym c.known_path.ensures ∙ c.in-Some.is) in
    c.requires.bits c.args.read c.loop-place.place c.in-Some.path (sym (c.loop-place.invariant.extends.front c.args.read c.loop-place.place (omega arith)) ∙ here)

pub loop-place-preserved : goal.loop-place-preserved
loop-place-preserved g c =
    let none : FullSlot = record { address = 0; cap = Null } in
    let ends = rw c.as_slice.ensures.value at c.places_of-place-end.ensures in
    let within : c.loop-place.place < length c.args.filled.now =
    elim (c.requires.wide.wide c.args.read) [
      | inl zero ↦ omega (arith, zero, ends, c.loop-place-test.true, c.loop-place.auto.place-end)
      | inr full ↦ omega (arith, full, ends, c.loop-place-test.true, c.loop-place.auto.place-end)
    ] in
    let read : (o : Option Path) → c.known_path.result ≡ o → path_at (map (λ r. r.items) c.loop-place.rows.items) c.args.read c.loop-place.place ≡ o =
    λ o e. rw c.as_slice-in-loop-place.ensures.value at (sym c.known_path.ensures ∙ e) in
    elim c.match-known_path.branch [
      | in-Some+in_ok-extend w ↦ rw w.rows-is (record {
        wide = w.in_ok-extend.ensures.wide;
        extends = extend_row_more g.P.Profile.profile c.args.read c.args.filled.now c.loop-place.place _ _ _ (get_or c.args.filled.now c.loop-place.place none) w.in-Some.path
            (slice_get-get_or c.args.filled.now c.loop-place.place none within) (read (Some w.in-Some.path) w.in-Some.is)
            c.loop-place.invariant.extends w.in_ok-extend.ensures.extends;
      })
      | in_default w ↦ rw w.rows-is (record {
        wide = c.loop-place.invariant.wide;
        extends = extend_row_skip g.P.Profile.profile c.args.read c.args.filled.now c.loop-place.place _ _ (read None w.in_default.is) c.loop-place.invariant.extends;
      })
    ]

pub returns-clause-extends : goal.returns-clause-extends
returns-clause-extends g c =
    let ends = rw c.as_slice.ensures.value at c.places_of-place-end.ensures in
    extend_row_all g.P.Profile.profile c.args.read c.args.filled.now c.loop-place.place (length c.args.filled.now) _ _
    (omega (arith, ends, c.loop-place-test.false, c.loop-place.auto.place-end)) c.loop-place.invariant.extends
