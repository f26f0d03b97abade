-- The proof of `add_calls`: the goals that a search leaves open.
use Rattle.std.proofs.Common.{◌≡◌, ◌+◌, ◌++◌, ◌∷◌, [], length, map, take, drop, sym, ap, ◌∙◌, string_bytes, arith, append-nil}
use Rattle.std.proofs.lemmas.List.{length-map, take_all}
use Rattle.toml.specs.View.{table_view}
use Rattle.kernel_abstract.specs.State.{shown}
use Rattle.kernel_abstract.specs.Step.{step, replies_of, state_after}
use Rattle.kernel_abstract.proofs.Reached.Runs.{state_after-nil, state_after-snoc, replies_of-nil, replies_of-snoc, reached_after}
use Rattle.setup_format.specs.Views.{CallView}
use Rattle.setup_report.specs.Naming.{naming_view}
use Rattle.command_why.specs.Tables.{call_table}
use Rattle.command_why.specs.Why.{why_call_lines, calls_lines, reason_lines_of}
use Rattle.command_why.proofs.Steps.{call_next, take_next, there_is, none_left, written}
use Rattle.command_why.proofs.calls.add_calls.Goals as goal

pub loop-i-init : goal.loop-i-init
loop-i-init g c =
    let p = g.P.Profile.profile in
    record {
      stands = λ A reached same. same ∙ ap shown (sym (state_after-nil p A));
      replies = λ A reached same. c.in_ok-replies.ensures.items ∙ sym (replies_of-nil p A);
      text = λ A reached same. ap (λ B. string_bytes c.args.out.now ++ calls_lines (naming_view c.args.naming.now) p (table_view c.args.table.now) c.args.chosen 0 B c.args.setup.now.calls) (state_after-nil p A);
    }

pub loop-i-preserved : goal.loop-i-preserved
loop-i-preserved g c =
    let p = g.P.Profile.profile in
    let calls = c.args.setup.now.calls in
    let table = table_view c.args.table.now in
    let chosen = c.args.chosen in
    let texts = naming_view c.args.naming.now in
    let i = c.loop-i.i in
    let many : length c.calls-i-end.result.now ≡ length calls = ap length c.calls-i-end.ensures ∙ length-map calls (λ (k : CallView). k.call) in
    let at = there_is calls i (omega (arith, c.loop-i-test.true, many)) in
    let call = at.0 in
    let made = map (λ (k : CallView). k.call) (take i calls) in
    let more = take_next calls i call at.1 in
    record {
      stands = λ A reached same.
          let steps = c.in_ok-reply.ensures.steps (state_after p A made) call (reached_after p A made reached) (c.loop-i.invariant.stands A reached same) at.1 in
          steps.shows ∙ ap shown (sym (ap (state_after p A) more ∙ state_after-snoc p A made call.call));
      replies = λ A reached same.
          let steps = c.in_ok-reply.ensures.steps (state_after p A made) call (reached_after p A made reached) (c.loop-i.invariant.stands A reached same) at.1 in
          c.in_ok-push.ensures.items
          ∙ (λ k. c.loop-i.invariant.replies A reached same k ++ steps.reply_is k ∷ [])
          ∙ sym (ap (replies_of p A) more ∙ replies_of-snoc p A made call.call);
      text = λ A reached same.
          let B = state_after p A made in
          let stands = c.loop-i.invariant.stands A reached same in
          let steps = c.in_ok-reply.ensures.steps B call (reached_after p A made reached) stands at.1 in
          let wrote : string_bytes c.make_call.new.out
          ≡ string_bytes c.loop-i.out ++ why_call_lines texts chosen (i + 1) call (step p B call.call).reply (reason_lines_of texts p (shown B) (record { call = call.call; table = call_table table i })) =
          c.in_ok-reply.ensures.text call at.1
          ∙ (λ k. string_bytes c.loop-i.out ++ why_call_lines texts chosen (i + 1) call (steps.reply_is k) (reason_lines_of texts p (stands k) (record { call = call.call; table = call_table table i }))) in
          ap (λ C. string_bytes c.make_call.new.out ++ calls_lines texts p table chosen (i + 1) C (drop (i + 1) calls)) (ap (state_after p A) more ∙ state_after-snoc p A made call.call)
          ∙ written (string_bytes c.loop-i.out) (string_bytes c.make_call.new.out) (string_bytes c.args.out.now) _
          (calls_lines texts p table chosen (i + 1) (step p B call.call).state (drop (i + 1) calls)) _ (calls_lines texts p table chosen 0 A calls)
          wrote (call_next texts p table chosen calls i call B at.1) (c.loop-i.invariant.text A reached same);
    }

pub returns-clause-replies : goal.returns-clause-replies
returns-clause-replies g c = λ A reached same.
    let p = g.P.Profile.profile in
    let calls = c.args.setup.now.calls in
    let many : length c.calls-i-end.result.now ≡ length calls = ap length c.calls-i-end.ensures ∙ length-map calls (λ (k : CallView). k.call) in
    c.loop-i.invariant.replies A reached same
    ∙ ap (λ l. replies_of p A (map (λ (k : CallView). k.call) l)) (take_all c.loop-i.i calls (omega (arith, c.loop-i-test.false, many)))

pub returns-clause-text : goal.returns-clause-text
returns-clause-text g c = λ A reached same.
    let p = g.P.Profile.profile in
    let calls = c.args.setup.now.calls in
    let many : length c.calls-i-end.result.now ≡ length calls = ap length c.calls-i-end.ensures ∙ length-map calls (λ (k : CallView). k.call) in
    let made = map (λ (k : CallView). k.call) (take c.loop-i.i calls) in
    sym (append-nil (string_bytes c.loop-i.out))
    ∙ ap (λ l. string_bytes c.loop-i.out ++ l) (sym (none_left (naming_view c.args.naming.now) p (table_view c.args.table.now) c.args.chosen c.loop-i.i (state_after p A made) calls c.loop-i.i (omega (arith, c.loop-i-test.false, many))))
    ∙ c.loop-i.invariant.text A reached same
