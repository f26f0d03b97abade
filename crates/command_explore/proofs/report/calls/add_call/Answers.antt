use Rattle.std.proofs.Common.{◌≡◌, ◌<◌, length, option_copied, ap, ◌∙◌, string_bytes, arith}
use Rattle.std.proofs.lemmas.List.{length-map}
use Rattle.setup_format.specs.Views.{CallView}
use Rattle.query_orders.specs.Found.{answers_of}
use Rattle.setup_report.specs.Naming.{naming_view}
use Rattle.command_explore.specs.Numbers.{numbers_in}
use Rattle.command_explore.proofs.Places.{IsAt, is_at, same_at, client_at, expect_at, call_at}
use Rattle.command_explore.proofs.Lines.{block_written}
use Rattle.command_explore.proofs.report.calls.add_call.Goals as goal

pub returns-clause-lines : goal.returns-clause-lines
returns-clause-lines c call at =
    let calls = c.args.setup.now.calls in
    let i = c.args.i in
    let numbers = numbers_in c.args.numbers.now in
    let answers = answers_of c.args.answers.now in
    let a : IsAt calls i = is_at calls i c.requires in
    let many : length c.calls.result.now ≡ length calls = ap length c.calls.ensures ∙ length-map calls (λ (k : CallView). k.call) in
    let lt : i < length c.calls.result.now = omega (arith, many, c.requires) in
    block_written (naming_view c.args.naming.now) numbers c.args.is_whole answers c.args.number a.view call (same_at calls i call a at) _ _ (option_copied c.expect-expected.result) (string_bytes c.args.out.now) _ _ _ _
    (client_at calls i c.client_of.result a c.client_of.ensures) (call_at calls c.calls.result.now i _ a c.calls.ensures lt) (expect_at calls i (option_copied c.expect-expected.result) a c.expect-expected.ensures)
    c.in_ok-add_head.ensures c.in_ok-count.ensures.text c.in_ok-writeln.ensures.bytes c.in_ok-add_answers.ensures
