use Rattle.std.proofs.Common.{◌≡◌, ◌+◌, ◌++◌, length, ap, sym, subst, ◌∙◌, string_bytes, arith}
use Rattle.std.proofs.lemmas.List.{length-map}
use Rattle.setup_format.specs.Views.{CallView}
use Rattle.query_orders.specs.Found.{answers_of}
use Rattle.setup_report.specs.Naming.{naming_view}
use Rattle.command_explore.specs.Numbers.{numbers_in}
use Rattle.command_explore.specs.Rows.{AreRows}
use Rattle.command_explore.proofs.Places.{is_at}
use Rattle.command_explore.proofs.Lines.{blocks_added, met_added, expected_added, one_met-le, one_expected-le, within_more}
use Rattle.command_explore.proofs.CallAnswers.{block_same, one_met_same}
use Rattle.command_explore.proofs.report.calls.add_calls.Goals as goal

pub overflow_add-met : goal.overflow_add-met
overflow_add-met c =
    let calls = c.args.setup.now.calls in
    let many : length c.calls-i-end.result.now ≡ length calls = ap length c.calls-i-end.ensures ∙ length-map calls (λ (k : CallView). k.call) in
    let a = is_at calls c.loop-i.i (omega (arith, c.loop-i-test.true, many)) in
    let small = within_more c.loop-i.met c.loop-i.i _ _ c.loop-i.invariant.met_bound (c.in_ok-one.ensures.met a.view a.at) (one_met-le (numbers_in c.args.numbers.now) (c.loop-i.i + 1) (a.view).expect c.args.is_whole (answers_of c.row_of-row.result.now)) in
    omega (arith, small, c.loop-i-test.true)

pub overflow_add-expected : goal.overflow_add-expected
overflow_add-expected c =
    let calls = c.args.setup.now.calls in
    let many : length c.calls-i-end.result.now ≡ length calls = ap length c.calls-i-end.ensures ∙ length-map calls (λ (k : CallView). k.call) in
    let a = is_at calls c.loop-i.i (omega (arith, c.loop-i-test.true, many)) in
    let small = within_more c.loop-i.expected c.loop-i.i _ _ c.loop-i.invariant.expected_bound (c.in_ok-one.ensures.expected a.view a.at) (one_expected-le (a.view).expect) in
    omega (arith, small, c.loop-i-test.true)

pub loop-i-preserved : goal.loop-i-preserved
loop-i-preserved c =
    let calls = c.args.setup.now.calls in
    let i = c.loop-i.i in
    let numbers = numbers_in c.args.numbers.now in
    let answers = answers_of c.args.answers.now in
    let whole = c.args.is_whole in
    let texts = naming_view c.args.naming.now in
    let many : length c.calls-i-end.result.now ≡ length calls = ap length c.calls-i-end.ensures ∙ length-map calls (λ (k : CallView). k.call) in
    let a = is_at calls i (omega (arith, c.loop-i-test.true, many)) in
    let row = answers_of c.row_of-row.result.now in
    let same = c.row_of-row.ensures numbers (subst (AreRows numbers answers) (sym c.as_slice.ensures.value) c.in_ok-rows.ensures) in
    record {
      lines = blocks_added numbers whole answers calls i a texts _ (string_bytes c.loop-i.out) _ c.loop-i.invariant.lines (c.in_ok-one.ensures.lines a.view a.at ∙ ap (λ l. string_bytes c.loop-i.out ++ l) (block_same numbers (i + 1) row answers same texts whole a.view));
      met = met_added numbers whole answers calls i a _ c.loop-i.met _ c.loop-i.invariant.met (c.in_ok-one.ensures.met a.view a.at ∙ one_met_same numbers (i + 1) row answers same (a.view).expect whole);
      expected = expected_added numbers whole answers calls i a _ c.loop-i.expected _ c.loop-i.invariant.expected (c.in_ok-one.ensures.expected a.view a.at);
      met_bound = within_more c.loop-i.met i _ _ c.loop-i.invariant.met_bound (c.in_ok-one.ensures.met a.view a.at) (one_met-le numbers (i + 1) (a.view).expect whole row);
      expected_bound = within_more c.loop-i.expected i _ _ c.loop-i.invariant.expected_bound (c.in_ok-one.ensures.expected a.view a.at) (one_expected-le (a.view).expect);
    }
