use Rattle.std.proofs.Common.{◌≡◌, ◌++◌, map, take, drop, string_bytes}
use Rattle.toml.specs.View.{table_view}
use Rattle.kernel_abstract.specs.State.{State, shown}
use Rattle.kernel_abstract.specs.Step.{replies_of, state_after}
use Rattle.kernel_abstract.specs.Reached.{IsReached}
use Rattle.setup_format.specs.Views.{CallView}
use Rattle.setup_report.specs.Naming.{naming_view}
use Rattle.command_trace.specs.Trace.{traced_calls_lines}
use Rattle.command_trace.specs.Foreseen.{IsKept}
use Rattle.command_trace.proofs.calls.add_calls.Given as goal

abbrev pub invariant-loop-i : goal.invariant-loop-i
invariant-loop-i g l =
    let texts = naming_view l.naming in
    let p = g.P.Profile.profile in
    record {
      told : IsKept texts p l.kernel l.told;
      stands : (A : State) → IsReached p A → l.initial.kernel ≡ shown A → l.kernel ≡ shown (state_after p A (map (λ (c : CallView). c.call) (take l.i l.setup.calls)));
      replies : (A : State) → IsReached p A → l.initial.kernel ≡ shown A → l.replies.items ≡ replies_of p A (map (λ (c : CallView). c.call) (take l.i l.setup.calls));
      text : (A : State) → IsReached p A → l.initial.kernel ≡ shown A →
          string_bytes l.out ++ traced_calls_lines l.ways texts p (table_view l.table) l.i (state_after p A (map (λ (c : CallView). c.call) (take l.i l.setup.calls))) (drop l.i l.setup.calls)
          ≡ string_bytes l.initial.out ++ traced_calls_lines l.ways texts p (table_view l.table) 0 A l.setup.calls;
    }
