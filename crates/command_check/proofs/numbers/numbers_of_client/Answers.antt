use Rattle.std.proofs.Common.{◌≡◌, ◌+◌, ◌++◌, ℕ, List, length, drop, refl, ap, ◌∙◌, arith}
use Rattle.std.proofs.lemmas.List.{length-map}
use Rattle.setup_format.specs.Views.{CallView}
use Rattle.command_check.specs.Numbers.{client_numbers}
use Rattle.command_check.proofs.Places.{is_at, given_more, given_not, numbers_steps}
use Rattle.command_check.proofs.numbers.numbers_of_client.Goals as goal
use Rattle.command_check.proofs.numbers.numbers_of_client.Goals.{then-client_of-client+in_ok-push, else-client_of-client}

pub loop-i-preserved : goal.loop-i-preserved
loop-i-preserved c =
    let calls = c.args.setup.now.calls in
    let i = c.loop-i.i in
    let client = c.args.client in
    let many : length c.calls-i-end.result.now ≡ length calls = ap length c.calls-i-end.ensures ∙ length-map calls (λ (k : CallView). k.call) in
    let a = is_at calls i (omega (arith, c.loop-i-test.true, many)) in
    let given : ℕ → List CallView → List ℕ = λ n vs. client_numbers client n vs in
    let one : ℕ → CallView → ℕ = λ n v. n in
    elim c.if-client_of-client.branch [
      | then-client_of-client+in_ok-push w ↦
          given_more client given one (numbers_steps client) calls i c.client_of.result c.loop-i.own.items _ (client_numbers client 1 calls) (i + 1) a c.client_of.ensures c.loop-i.invariant w.if-client_of-client.true
          refl (ap (λ v. v.items) w.own-is ∙ w.in_ok-push.ensures.items)
      | else-client_of-client w ↦
          ap (λ v. v.items ++ client_numbers client (i + 1 + 1) (drop (i + 1) calls)) w.own-is
          ∙ given_not client given one (numbers_steps client) calls i c.client_of.result c.loop-i.own.items (client_numbers client 1 calls) a c.client_of.ensures c.loop-i.invariant w.if-client_of-client.false
    ]
