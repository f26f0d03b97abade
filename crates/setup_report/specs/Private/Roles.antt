-- Whether a thread is shown to send.
use Rattle.std.specs.Prelude.{Bool, true, false, Option, Some, None}
use Rattle.kernel_abstract.specs.declared.call.ThreadState.{ThreadState}
use Rattle.kernel_abstract.specs.declared.call.ThreadState.TheVariants.{Ready, Inactive, Sending, Receiving}

abbrev pub is_sending : Option ThreadState → Bool
is_sending None = false
is_sending (Some Ready) = false
is_sending (Some Inactive) = false
is_sending (Some (Sending endpoint)) = true
is_sending (Some (Receiving endpoint)) = false
