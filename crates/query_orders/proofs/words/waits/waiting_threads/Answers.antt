use Rattle.std.proofs.Common.{◌≡◌, ◌+◌, ◌++◌, ◌∷◌, [], length, None, Some, sym, ap, refl, ◌∙◌, arith, rules}
use Rattle.std.proofs.lemmas.List.{length-append}
use Rattle.kernel_abstract.specs.Shown.{waiting_at}
use Rattle.kernel_abstract.specs.Waiting.{thread_waiting}
use Rattle.query_orders.proofs.KernelWords.Fronts.{front_more, front_all}
use Rattle.query_orders.proofs.words.waits.waiting_threads.Goals as goal

pub loop-next-preserved : goal.loop-next-preserved
loop-next-preserved g c =
    let v = c.args.kernel.now in
    let e = c.args.endpoint in
    let before = c.loop-next.threads.items in
    let found : thread_waiting v e (length before) ≡ Some c.in-Some.thread = sym c.loop-next.invariant.next ∙ c.in-Some.is in
    let longer : length before + 1 ≡ length (before ++ c.in-Some.thread ∷ []) = omega (arith, length-append before (c.in-Some.thread ∷ [])) in
    record {
      front = rw c.in_ok-push.ensures.items (front_more (waiting_at v e) before c.in-Some.thread (length before) c.loop-next.invariant.front found refl);
      next = c.next_waiting-next.ensures.behind e (length before) found ∙ ap (thread_waiting v e) (longer ∙ sym (ap length c.in_ok-push.ensures.items));
    }

pub returns : goal.returns
returns g c =
    let v = c.args.kernel.now in
    let e = c.args.endpoint in
    let gone : c.loop-next.next ≡ None = search rules in
    let none : thread_waiting v e (length c.loop-next.threads.items) ≡ None = sym c.loop-next.invariant.next ∙ gone in
    front_all (waiting_at v e) c.loop-next.threads.items (length c.loop-next.threads.items) c.loop-next.invariant.front none refl
