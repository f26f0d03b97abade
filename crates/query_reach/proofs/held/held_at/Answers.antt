use Rattle.std.proofs.Common.{◌≡◌, arith, length, map, get_or, List, Option, Some, None, refl, sym, ◌∙◌}
use Rattle.std.proofs.lemmas.Option.{slice_get-get_or}
use Rattle.query_reach.specs.declared.held.Held.{Held}
use Rattle.query_reach.specs.declared.paths.Path.{Path}
use Rattle.query_reach.specs.Private.Paths.{path_at}
use Rattle.query_reach.specs.Private.Entries.{IsBest}
use Rattle.query_reach.proofs.Depths.{best_begins, best_goes_on, bound_at, bound_past}
use Rattle.query_reach.proofs.HeldSlots.{best_more, best_skip, best_some, best_if_none, none_there}
use Rattle.query_reach.proofs.held.held_at.Goals as goal
use Rattle.query_reach.proofs.held.held_at.Goals.{in-Some, in_default}

pub loop-at-init : goal.loop-at-init
loop-at-init g c = best_begins (map (λ r. r.items) c.args.rows.now) c.args.depths.now c.args.place c.args.slot c.requires.depths

pub loop-at-preserved : goal.loop-at-preserved
loop-at-preserved g c =
    let rows : List (List (Option Path)) = map (λ r. r.items) c.args.rows.now in
    let depth = get_or c.args.depths.now c.loop-at.at 0 in
    let here = slice_get-get_or c.args.depths.now c.loop-at.at 0 c.loop-at-test.true in
    let was : IsBest rows c.args.place c.args.slot depth c.loop-at.best = rw (bound_at c.args.depths.now (length rows) c.loop-at.at depth here) at c.loop-at.invariant in
    let some = (c.requires.depths.within c.loop-at.at depth here).0 in
    let read = λ (o : Option Path) (e : c.known_path-in-loop-at.result ≡ o). sym c.known_path-in-loop-at.ensures ∙ e in
    elim c.match-known_path.branch [
      | in-Some w ↦ rw (w.best-is, w.earlier_of.ensures) (
          let next : Held = record { word = w.in-Some.path.word; depth = depth; index = w.in-Some.path.index; slot = c.args.slot } in
          best_goes_on rows c.args.depths.now c.args.place c.args.slot c.loop-at.at depth _ c.requires.depths here
          (best_more rows c.args.place c.args.slot depth c.loop-at.best next some refl refl (read (Some w.in-Some.path) w.in-Some.is) was))
      | in_default w ↦ rw w.best-is (best_goes_on rows c.args.depths.now c.args.place c.args.slot c.loop-at.at depth c.loop-at.best c.requires.depths here
          (best_skip rows c.args.place c.args.slot depth c.loop-at.best (read None w.in_default.is) was))
    ]

pub returns-clause-some : goal.returns-clause-some
returns-clause-some g c =
    let rows : List (List (Option Path)) = map (λ r. r.items) c.args.rows.now in
    let none : path_at rows 0 c.args.place ≡ None = sym c.known_path.ensures ∙ none_there c.known_path.result (sym c.is_some.ensures ∙ c.if-is_some.false) in
    let whole : IsBest rows c.args.place c.args.slot (length rows) c.loop-at.best =
    rw (bound_past c.args.depths.now (length rows) c.loop-at.at (omega (arith, c.loop-at-test.false))) at c.loop-at.invariant in
    best_some rows c.args.place c.args.slot (length rows) c.loop-at.best (omega arith) none whole

pub returns-clause-none : goal.returns-clause-none
returns-clause-none g c =
    let rows : List (List (Option Path)) = map (λ r. r.items) c.args.rows.now in
    let whole : IsBest rows c.args.place c.args.slot (length rows) c.loop-at.best =
    rw (bound_past c.args.depths.now (length rows) c.loop-at.at (omega (arith, c.loop-at-test.false))) at c.loop-at.invariant in
    best_if_none rows c.args.place c.args.slot (length rows) c.loop-at.best (omega arith) whole
