use Rattle.std.proofs.Common.{◌≡◌, ◌+◌, ◌++◌, ◌∷◌, [], length, map, take, drop, sym, ap, ◌∙◌, string_bytes, arith, append-nil}
use Rattle.std.proofs.lemmas.List.{length-map}
use Rattle.toml.specs.View.{table_view}
use Rattle.kernel_abstract.specs.State.{shown}
use Rattle.kernel_abstract.specs.Step.{step, replies_of, state_after}
use Rattle.setup_format.specs.Views.{CallView}
use Rattle.setup_report.specs.Naming.{naming_view}
use Rattle.command_trace.specs.Told.{told_lines}
use Rattle.command_why.specs.Tables.{call_table}
use Rattle.command_why.specs.Why.{reason_lines_of}
use Rattle.command_trace.specs.Ways.{ways_asked}
use Rattle.command_trace.specs.Trace.{traced_call_lines, traced_calls_lines, why_at}
use Rattle.command_trace.proofs.Differences.{written}
use Rattle.command_trace.proofs.Steps.{reached_after, after_one, replies_one, take_next, there_is, take_whole, start_of_run, no_replies}
use Rattle.command_trace.proofs.TextSteps.{call_next, none_left}
use Rattle.command_trace.proofs.calls.add_calls.Goals as goal

pub loop-i-init : goal.loop-i-init
loop-i-init g c =
    let texts = naming_view c.args.naming.now in
    let p = g.P.Profile.profile in
    record {
      told = c.requires.told;
      stands = λ A reached same. same ∙ ap shown (sym (start_of_run p A));
      replies = λ A reached same. c.in_ok-replies.ensures.items ∙ sym (no_replies p A);
      text = λ A reached same. ap (λ B. string_bytes c.args.out.now ++ traced_calls_lines c.args.ways texts p (table_view c.args.table.now) 0 B c.args.setup.now.calls) (start_of_run p A);
    }

pub make_call-requires-clause-reached : goal.make_call-requires-clause-reached
make_call-requires-clause-reached g c =
    let p = g.P.Profile.profile in
    let A = c.requires.reached.0 in
    let made = map (λ (k : CallView). k.call) (take c.loop-i.i c.args.setup.now.calls) in
    (state_after p A made, reached_after p A made c.requires.reached.1, c.loop-i.invariant.stands A c.requires.reached.1 c.requires.reached.2)

pub loop-i-preserved : goal.loop-i-preserved
loop-i-preserved g c =
    let texts = naming_view c.args.naming.now in
    let p = g.P.Profile.profile in
    let calls = c.args.setup.now.calls in
    let table = table_view c.args.table.now in
    let i = c.loop-i.i in
    let many : length c.calls-i-end.result.now ≡ length calls = ap length c.calls-i-end.ensures ∙ length-map calls (λ (k : CallView). k.call) in
    let at = there_is calls i (omega (arith, c.loop-i-test.true, many)) in
    let call = at.0 in
    let made = map (λ (k : CallView). k.call) (take i calls) in
    let more = take_next calls i call at.1 in
    record {
      told = c.in_ok-next.ensures.told;
      stands = λ A reached same.
          let steps = c.in_ok-next.ensures.steps (state_after p A made) call (reached_after p A made reached) (c.loop-i.invariant.stands A reached same) at.1 in
          steps.shows ∙ ap shown (sym (ap (state_after p A) more ∙ after_one p A made call.call));
      replies = λ A reached same.
          let steps = c.in_ok-next.ensures.steps (state_after p A made) call (reached_after p A made reached) (c.loop-i.invariant.stands A reached same) at.1 in
          c.in_ok-push.ensures.items
          ∙ (λ k. c.loop-i.invariant.replies A reached same k ++ steps.reply_is k ∷ [])
          ∙ sym (ap (replies_of p A) more ∙ replies_one p A made call.call);
      text = λ A reached same.
          let B = state_after p A made in
          let stands = c.loop-i.invariant.stands A reached same in
          let steps = c.in_ok-next.ensures.steps B call (reached_after p A made reached) stands at.1 in
          let wrote : string_bytes c.make_call.new.out
          ≡ string_bytes c.loop-i.out ++ traced_call_lines texts (i + 1) call (step p B call.call).reply (ways_asked c.args.ways texts p (shown B) call.call) (why_at texts p table i B call.call) (told_lines texts p (shown B)) (told_lines texts p (shown (step p B call.call).state)) =
          c.in_ok-next.ensures.text call at.1
          ∙ (λ k. string_bytes c.loop-i.out ++ traced_call_lines texts (i + 1) call (steps.reply_is k) (ways_asked c.args.ways texts p (stands k) call.call) (reason_lines_of texts p (stands k) (record { call = call.call; table = call_table table i })) (told_lines texts p (stands k)) (told_lines texts p (steps.shows k))) in
          ap (λ C. string_bytes c.make_call.new.out ++ traced_calls_lines c.args.ways texts p table (i + 1) C (drop (i + 1) calls)) (ap (state_after p A) more ∙ after_one p A made call.call)
          ∙ written (string_bytes c.loop-i.out) (string_bytes c.make_call.new.out) (string_bytes c.args.out.now) _
          (traced_calls_lines c.args.ways texts p table (i + 1) (step p B call.call).state (drop (i + 1) calls)) _ (traced_calls_lines c.args.ways texts p table 0 A calls)
          wrote (call_next c.args.ways texts p table calls i call B at.1) (c.loop-i.invariant.text A reached same);
    }

pub returns-clause-replies : goal.returns-clause-replies
returns-clause-replies g c = λ A reached same.
    let p = g.P.Profile.profile in
    let calls = c.args.setup.now.calls in
    let many : length c.calls-i-end.result.now ≡ length calls = ap length c.calls-i-end.ensures ∙ length-map calls (λ (k : CallView). k.call) in
    c.loop-i.invariant.replies A reached same
    ∙ ap (λ l. replies_of p A (map (λ (k : CallView). k.call) l)) (take_whole calls c.loop-i.i (omega (arith, c.loop-i-test.false, many)))

pub returns-clause-text : goal.returns-clause-text
returns-clause-text g c = λ A reached same.
    let p = g.P.Profile.profile in
    let calls = c.args.setup.now.calls in
    let many : length c.calls-i-end.result.now ≡ length calls = ap length c.calls-i-end.ensures ∙ length-map calls (λ (k : CallView). k.call) in
    let made = map (λ (k : CallView). k.call) (take c.loop-i.i calls) in
    sym (append-nil (string_bytes c.loop-i.out))
    ∙ ap (λ l. string_bytes c.loop-i.out ++ l) (sym (none_left c.args.ways (naming_view c.args.naming.now) p (table_view c.args.table.now) c.loop-i.i (state_after p A made) calls c.loop-i.i (omega (arith, c.loop-i-test.false, many))))
    ∙ c.loop-i.invariant.text A reached same
