use Rattle.std.proofs.Common.{◌≡◌, ◌++◌, OnOk, ap, subst, ◌∙◌}
use Rattle.query_orders.specs.Words.{listed, waiter_words}
use Rattle.query_orders.specs.Private.Waiting.{waiter_shown, threads_waiting_at}
use Rattle.query_orders.proofs.KernelWords.WaitingLists.{waiters_listed}
use Rattle.query_orders.proofs.words.waits.add_endpoint.Goals as goal

pub returns : goal.returns
returns g c =
    let v = c.args.kernel.now in
    let e = c.args.endpoint in
    let list : c.as_slice.result.now ≡ threads_waiting_at v e = c.as_slice.ensures.value ∙ c.in_ok-threads.ensures in
    subst (λ l. OnOk c.add_waiters.result (c.add_waiters.new.words.items ≡ c.args.words.now.items ++ l))
    (ap (listed (λ t. waiter_words (waiter_shown v t))) list ∙ waiters_listed v e c.waiting-first.ensures.agree)
    c.add_waiters.ensures
