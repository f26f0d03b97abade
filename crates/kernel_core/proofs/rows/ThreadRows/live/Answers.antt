-- The proof of `live`: the goals that a search leaves open.
use Rattle.std.proofs.Common.{◌≡◌, ◌<◌, ◌+◌, List, Option, None, get_or, length, replicate, ap, sym, subst, ◌∙◌, arith}
use Rattle.std.proofs.lemmas.List.{get_or_default}
use Rattle.std.specs.Global.{Vec}
use Rattle.kernel_core.specs.declared.rows.ThreadRow.{ThreadRow}
use Rattle.kernel_core.specs.declared.rows.LiveRow.{LiveRow}
use Rattle.kernel_core.specs.SavedRows.{rows_with}
use Rattle.kernel_core.proofs.Saved.SavedRows.{AreRowsTo, row_missing, row_there, none_there}
use Rattle.kernel_core.proofs.Threads.RowsEnd.{all_live}
use Rattle.kernel_core.proofs.rows.ThreadRows.live.Goals as goal
use Rattle.kernel_core.proofs.rows.ThreadRows.live.Goals.{in-Some+in_ok-push, in_default}

pub loop-place-preserved : goal.loop-place-preserved
loop-place-preserved c =
    let rows = c.self.inside.places.items in
    let place = c.loop-place.place in
    let live = c.loop-place.live.items in
    let lt : place < length rows = omega (arith, c.self.invariant.within) in
    let here : get_or rows place None ≡ c.index.result.now = get_or_default rows place None c.index.result.now lt ∙ sym c.index.ensures in
    let all = AreRowsTo (place + 1) rows in
    elim c.match-index.branch [
      | in-Some+in_ok-push w ↦ subst all (sym (ap (λ (v : Vec LiveRow). v.items) w.live-is ∙ w.in_ok-push.ensures.items)) (row_there place w.in-Some.row rows live lt (here ∙ w.in-Some.is) c.loop-place.invariant)
      | in_default w ↦ subst all (sym (ap (λ (v : Vec LiveRow). v.items) w.live-is)) (row_missing place rows live lt (here ∙ none_there c.index.result.now w.in_default.not-Some) c.loop-place.invariant)
    ]

pub returns : goal.returns
returns c =
    let rows = c.self.inside.places.items in
    let live = c.loop-place.live.items in
    let whole : c.loop-place.place ≡ c.self.inside.end = omega arith in
    subst (λ (l : List (Option ThreadRow)). rows_with (replicate (length l) None) live ≡ l) c.self.view_is
    (all_live c.self.inside.end rows live c.self.invariant (subst (λ n. AreRowsTo n rows live) whole c.loop-place.invariant))
