-- Who waits on an endpoint, to send or to receive.
use Rattle.std.specs.Prelude.{ℕ, true, false, List, Option, Some, None}
use Rattle.std.specs.List.{filter_map}
use Rattle.cap_core.specs.declared.profile.ProfileName.{ProfileName}
use Rattle.kernel_abstract.specs.declared.call.ThreadState.{ThreadState}
use Rattle.kernel_abstract.specs.declared.call.ThreadState.TheVariants.{Ready, Inactive, Sending, Receiving}
use Rattle.kernel_abstract.specs.Shown.{Shown, state_at}
use Rattle.setup_report.specs.State.{threads}
use Rattle.command_never.specs.declared.parts_kept.waits.Wait.{Wait}

abbrev pub wait_in : ℕ → Option ThreadState → Option Wait
wait_in thread (Some (Sending endpoint)) = Some (record { thread = thread; endpoint = endpoint; sends = true })
wait_in thread (Some (Receiving endpoint)) = Some (record { thread = thread; endpoint = endpoint; sends = false })
wait_in thread (Some Ready) = None
wait_in thread (Some Inactive) = None
wait_in thread None = None

abbrev pub wait_of : Shown → ℕ → Option Wait
wait_of v thread = wait_in thread (state_at v thread)

-- the live threads that wait, rising
abbrev pub waits : ProfileName → Shown → List Wait
waits p v = filter_map (wait_of v) (threads p v)
