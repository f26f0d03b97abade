-- A set-up after its first calls.
use Rattle.std.specs.Prelude.{ℕ, nat_le, cond, Bool, true, false, List, map, take, length, count_by, Option, Some, None}
use Rattle.cap_core.specs.declared.profile.ProfileName.{ProfileName}
use Rattle.kernel_abstract.specs.declared.call.Call.{Call}
use Rattle.kernel_abstract.specs.declared.call.Reply.{Reply}
use Rattle.kernel_abstract.specs.declared.call.Reply.TheVariants.{Refused}
use Rattle.kernel_abstract.specs.Boot.{boot}
use Rattle.kernel_abstract.specs.State.{State}
use Rattle.kernel_abstract.specs.Step.{state_after, replies_of}
use Rattle.setup_format.specs.Views.{SetupView, CallView}

-- the first calls of a set-up
abbrev pub first_calls : SetupView → ℕ → List Call
first_calls setup made = take made (map (λ (c : CallView). c.call) setup.calls)

-- the state of the abstract kernel after the first calls
abbrev pub state_behind : ProfileName → SetupView → ℕ → State
state_behind p setup made = state_after p (boot p setup.plan) (first_calls setup made)

-- what the first calls are answered
abbrev pub replies_behind : ProfileName → SetupView → ℕ → List Reply
replies_behind p setup made = replies_of p (boot p setup.plan) (first_calls setup made)

-- the reply says that a call was refused
abbrev pub is_refused_reply : Reply → Bool
is_refused_reply (Refused refusal) = true
is_refused_reply reply = false

-- how many of the first calls are refused
abbrev pub refused_behind : ProfileName → SetupView → ℕ → ℕ
refused_behind p setup made = count_by is_refused_reply (replies_behind p setup made)

-- how many calls are made: all of them, if no number is given; none if the set-up has fewer
abbrev pub calls_made : SetupView → Option ℕ → Option ℕ
calls_made setup None = Some (length setup.calls)
calls_made setup (Some count) = cond (nat_le count (length setup.calls)) (Some count) None
