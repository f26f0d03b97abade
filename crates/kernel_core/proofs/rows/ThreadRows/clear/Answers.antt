-- The proof of `clear`: the goal that a search leaves open.
use Rattle.std.proofs.Common.{◌≡◌, ◌++◌, List, Option, None, length, drop, replicate, ap, sym, ◌∙◌, arith}
use Rattle.std.proofs.lemmas.List.{length-replicate}
use Rattle.kernel_core.specs.declared.rows.ThreadRow.{ThreadRow}
use Rattle.kernel_core.proofs.Threads.RowsEnd.{rows_taken, written_back}
use Rattle.kernel_core.proofs.rows.ThreadRows.clear.Goals as goal

pub returns-then-len-count : goal.returns-then-len-count
returns-then-len-count c =
    let own = c.self.inside.places.items in
    let long : length own ≡ c.args.count = omega arith in
    let all : c.clear_front.new.rows ≡ replicate c.args.count None =
    c.clear_front.ensures
    ∙ ap (λ (l : List (Option ThreadRow)). replicate c.self.inside.end None ++ drop c.self.inside.end l) c.as_mut_slice.ensures.value
    ∙ rows_taken c.self.inside.end c.args.count own c.self.invariant long in
    written_back c.self.inside.places.len own c.clear_front.new.rows (omega arith) (ap length all ∙ length-replicate c.args.count None ∙ sym long) ∙ all
