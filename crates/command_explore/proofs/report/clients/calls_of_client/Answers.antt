use Rattle.std.proofs.Common.{◌+◌, ℕ, List, ◌++◌, drop, ap, ◌∙◌}
use Rattle.kernel_abstract.specs.declared.call.Call.{Call}
use Rattle.setup_format.specs.Views.{CallView}
use Rattle.command_explore.specs.Clients.{calls_of_client}
use Rattle.command_explore.proofs.Places.{is_at, call_at, within, calls_steps, given_more, given_not}
use Rattle.command_explore.proofs.report.clients.calls_of_client.Goals as goal
use Rattle.command_explore.proofs.report.clients.calls_of_client.Goals.{then-client_of-client+in_ok-push, else-client_of-client}

pub loop-i-preserved : goal.loop-i-preserved
loop-i-preserved c =
    let calls = c.args.setup.now.calls in
    let items = c.calls-call-items.result.now in
    let i = c.loop-i.i in
    let client = c.args.client in
    let a = is_at calls i (within calls items i c.calls-call-items.ensures c.loop-i-test.true) in
    let given : ℕ → List CallView → List Call = λ n vs. calls_of_client vs client in
    let one : ℕ → CallView → Call = λ n v. v.call in
    elim c.if-client_of-client.branch [
      | then-client_of-client+in_ok-push w ↦
          given_more client given one (calls_steps client) calls i c.client_of.result c.loop-i.own.items _ (calls_of_client calls client) _ a c.client_of.ensures c.loop-i.invariant w.if-client_of-client.true
          (call_at calls items i _ a c.calls-call-items.ensures c.loop-i-test.true) (ap (λ v. v.items) w.own-is ∙ w.in_ok-push.ensures.items)
      | else-client_of-client w ↦
          ap (λ v. v.items ++ calls_of_client (drop (i + 1) calls) client) w.own-is
          ∙ given_not client given one (calls_steps client) calls i c.client_of.result c.loop-i.own.items (calls_of_client calls client) a c.client_of.ensures c.loop-i.invariant w.if-client_of-client.false
    ]
