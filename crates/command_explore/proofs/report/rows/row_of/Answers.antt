use Rattle.std.proofs.Common.{◌≡◌, ◌<◌, List, Some, IfSome, filter, length, slice_get, refl, ap, subst, ◌∙◌, true, arith}
use Rattle.std.specs.Prelude.{nat_lt}
use Rattle.std.proofs.lemmas.Bool.Decides.{nat_tests}
use Rattle.std.proofs.lemmas.Option.{slice_get_read}
use Rattle.std.specs.Global.{Vec}
use Rattle.query_orders.specs.declared.exploring.found.FoundAnswer.{FoundAnswer}
use Rattle.query_orders.specs.Found.{answers_of}
use Rattle.command_explore.specs.Text.{is_answer_of}
use Rattle.command_explore.proofs.CallAnswers.{twice}
use Rattle.command_explore.proofs.report.rows.row_of.Goals as goal

pub returns-in-Some : goal.returns-in-Some
returns-in-Some c numbers are =
    let rows = c.args.rows.now in
    let own = is_answer_of numbers c.args.number in
    let all = answers_of c.args.answers.now in
    let t : true ≡ nat_lt c.args.number (length rows) = c.in-Some.ensures.lookup.0 in
    let lt : c.args.number < length rows = grind (arith, nat_tests) in
    let at : slice_get rows c.args.number ≡ Some c.in-Some.row.now = slice_get_read rows (length rows) c.args.number c.in-Some.row.now refl lt c.in-Some.ensures.lookup.1 in
    let row : answers_of c.in-Some.row.now.items ≡ filter own all = subst (λ o. IfSome o (λ (r : Vec FoundAnswer). answers_of r.items ≡ filter own all)) at (are c.args.number) in
    ap (λ (l : List FoundAnswer). filter own (answers_of l)) c.as_slice.ensures.value ∙ ap (filter own) row ∙ twice own all
