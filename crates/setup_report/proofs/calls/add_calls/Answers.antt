use Rattle.std.proofs.Common.{◌≡◌, Some, slice_get, get_or, option_copied}
use Rattle.kernel_abstract.specs.declared.call.Reply.TheVariants.{Done}
use Rattle.setup_report.specs.Naming.{naming_view}
use Rattle.setup_report.specs.Text.{reply_text}
use Rattle.setup_report.proofs.Sequences.Calls.{added, call_here, reply_here, met_more, expectation_more, one_met-le, one_expected-le, count_more, count_within}
use Rattle.setup_report.proofs.calls.add_calls.Goals as goal

pub loop-i-preserved : goal.loop-i-preserved
loop-i-preserved c =
    let calls = c.args.setup.now.calls in
    let replies = c.args.replies.now in
    let items = c.calls-call-items.result.now in
    let reply : slice_get replies c.loop-i.i ≡ Some (get_or replies c.loop-i.i Done) = reply_here calls items replies c.loop-i.i Done c.calls-call-items.ensures c.requires c.loop-i-test.true in
    record {
      lines = added (naming_view c.args.naming.now) calls replies c.loop-i.i _ _ _ _ _ _ c.loop-i.invariant.lines
          (call_here calls items c.loop-i.i _ c.calls-call-items.ensures c.loop-i-test.true)
          c.expect.ensures reply c.in_ok-one.ensures.line;
      met = count_more _ _ _ _ _ _ c.loop-i.invariant.met (met_more calls replies c.loop-i.i _ _ c.expect.ensures reply) c.in_ok-one.ensures.met;
      expected = count_more _ _ _ _ _ _ c.loop-i.invariant.expected (expectation_more calls replies c.loop-i.i _ _ c.expect.ensures reply) c.in_ok-one.ensures.expected;
      met_bound = count_within _ _ _ _ c.loop-i.invariant.met_bound c.in_ok-one.ensures.met (one_met-le (option_copied c.expect.result) (reply_text (get_or replies c.loop-i.i Done)));
      expected_bound = count_within _ _ _ _ c.loop-i.invariant.expected_bound c.in_ok-one.ensures.expected (one_expected-le (option_copied c.expect.result));
    }
