-- The names of one thread more; at the end, the names behind the head of their table.
use Rattle.std.proofs.Common.{◌≡◌, ℕ, ◌++◌, string_bytes, ap, ◌∙◌, arith}
use Rattle.std.specs.List.{flat_map, range_with_len}
use Rattle.command_new.specs.Text.{thread_names, new_threads_text}
use Rattle.command_new.proofs.Appended.{both, one_more}
use Rattle.command_new.proofs.text.add_threads.Goals as goal

pub loop-thread-preserved : goal.loop-thread-preserved
loop-thread-preserved g c =
    one_more (thread_names g.P.Profile.profile c.args.plan.now) _ _ _ c.loop-thread.thread c.loop-thread.invariant c.in_ok-add_thread.ensures

pub returns : goal.returns
unfolding new_threads_text
returns g c =
    let all : c.loop-thread.thread ≡ c.args.plan.now.threads = omega arith in
    let f = thread_names g.P.Profile.profile c.args.plan.now in
    both (string_bytes c.args.out.now) _ (flat_map f (range_with_len 0 c.args.plan.now.threads)) _ _ c.in_ok-writeln.ensures.bytes
    (c.loop-thread.invariant ∙ ap (λ (n : ℕ). string_bytes c.writeln.new.self ++ flat_map f (range_with_len 0 n)) all)
