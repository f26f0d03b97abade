-- A call has lines of a reason exactly where it is refused.
use Rattle.std.proofs.Common.{◌≡◌, ℕ, is_some, Option, None, Some, option_map, refl, sym, ap, ◌∙◌}
use Rattle.toml.specs.Data.{Members}
use Rattle.cap_core.specs.declared.profile.ProfileName.{ProfileName}
use Rattle.kernel_abstract.specs.declared.call.Call.{Call}
use Rattle.kernel_abstract.specs.declared.call.Reply.{Reply}
use Rattle.kernel_abstract.specs.declared.call.Reply.TheVariants.{Done, Delivered, Waiting, Dropped, Empty, Refused}
use Rattle.kernel_abstract.specs.State.{State, shown}
use Rattle.kernel_abstract.specs.Step.{step}
use Rattle.kernel_abstract.specs.Decode.{reason_of}
use Rattle.kernel_abstract.specs.Step.{refusal_in}
use Rattle.kernel_abstract.specs.Reasons.{refusal_of}
use Rattle.kernel_checks.proofs.Calls.{reason_is}
use Rattle.setup_report.specs.Naming.{Texts}
use Rattle.command_why.specs.Reasons.{reason_lines}
use Rattle.command_why.specs.Tables.{call_table}
use Rattle.command_why.specs.Why.{is_refused}
use Rattle.command_trace.specs.Trace.{why_at}

some_map : {X Y : Type 0} (f : X → Y) (o : Option X) → is_some (option_map f o) ≡ is_some o
some_map f None = refl
some_map f (Some x) = refl

some_refused : (reply : Reply) → is_some (refusal_in reply) ≡ is_refused reply
some_refused Done = refl
some_refused (Delivered endpoint from to badge message) = refl
some_refused Waiting = refl
some_refused Dropped = refl
some_refused Empty = refl
some_refused (Refused refusal) = refl

pub stands_where_refused : (texts : Texts) (p : ProfileName) (table : Members) (i : ℕ) (A : State) (call : Call) → is_some (why_at texts p table i A call) ≡ is_refused (step p A call).reply
stands_where_refused texts p table i A call =
    some_map (reason_lines texts p (shown A) (record { call = call; table = call_table table i })) (reason_of p (shown A) call)
    ∙ sym (some_map refusal_of (reason_of p (shown A) call))
    ∙ ap is_some (reason_is p A call)
    ∙ some_refused (step p A call).reply
