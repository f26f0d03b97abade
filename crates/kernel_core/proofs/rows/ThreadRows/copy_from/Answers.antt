-- The proof of `copy_from`: the goal that a search leaves open.
use Rattle.std.proofs.Common.{◌≡◌, ◌++◌, List, Option, length, take, drop, ap, ◌∙◌, arith}
use Rattle.kernel_core.specs.declared.rows.ThreadRow.{ThreadRow}
use Rattle.kernel_core.proofs.Threads.RowsEnd.{rows_written, written_back}
use Rattle.kernel_core.proofs.rows.ThreadRows.copy_from.Goals as goal

pub returns : goal.returns
returns c =
    let own = c.self.inside.places.items in
    let new = c.new.inside.places.items in
    let n = c.max-end.result in
    let long : length own ≡ length new = omega (arith, ap length c.self.view_is, ap length c.new.view_is) in
    let all : c.copy_front.new.rows ≡ new =
    c.copy_front.ensures
    ∙ ap (λ (l : List (Option ThreadRow)). take n l ++ drop n c.as_mut_slice.result.now) c.as_slice.ensures.value
    ∙ ap (λ (l : List (Option ThreadRow)). take n new ++ drop n l) c.as_mut_slice.ensures.value
    ∙ rows_written c.self.inside.end c.new.inside.end n own new c.self.invariant c.new.invariant long (omega arith) (omega arith) in
    written_back c.self.inside.places.len own c.copy_front.new.rows (omega arith) (ap length all ∙ omega arith) ∙ all ∙ c.new.view_is
