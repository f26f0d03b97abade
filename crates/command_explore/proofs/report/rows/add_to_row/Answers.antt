use Rattle.std.proofs.Common.{◌≡◌, ◌<◌, ◌≤◌, Some, length, slice_get, true, false, refl, arith}
use Rattle.std.specs.Prelude.{nat_lt}
use Rattle.std.proofs.lemmas.Bool.Decides.{nat_tests}
use Rattle.std.proofs.lemmas.Option.{slice_get_read, slice_get_past}
use Rattle.query_orders.specs.Found.{answer_of}
use Rattle.command_explore.proofs.CallAnswers.{row_written, row_missing}
use Rattle.command_explore.proofs.report.rows.add_to_row.Goals as goal

pub returns-in_ok-add_answer : goal.returns-in_ok-add_answer
returns-in_ok-add_answer c =
    let rows = c.args.rows.now.items in
    let t : true ≡ nat_lt c.args.number (length rows) = c.in-Some.ensures.item.0 in
    let lt : c.args.number < length rows = grind (arith, nat_tests) in
    let at : slice_get rows c.args.number ≡ Some c.in-Some.row.now = slice_get_read rows (length rows) c.args.number c.in-Some.row.now refl lt c.in-Some.ensures.value in
    row_written rows _ c.args.number c.in-Some.row.now c.add_answer.new.row (answer_of c.args.answer.now) at refl c.in_ok-add_answer.ensures

pub returns-in_default : goal.returns-in_default
returns-in_default c =
    let rows = c.args.rows.now.items in
    let t : false ≡ nat_lt c.args.number (length rows) = c.in_default.ensures.item.0 in
    let past : length rows ≤ c.args.number = grind (arith, nat_tests) in
    row_missing rows c.args.number (answer_of c.args.answer.now) (slice_get_past rows c.args.number past)
