-- What the program writes of what each call of a set-up changes, and its verdict.
use Rattle.std.specs.Prelude.{◌≡◌, ℕ, Bool, List}
use Rattle.cap_core.specs.declared.profile.ProfileName.{ProfileName}
use Rattle.setup_format.specs.Views.{ReadView}
use Rattle.command_trace.specs.Trace.{trace_of}
use Rattle.command_check.specs.Program.{replies_to, verdict_of}
use Rattle.command_core.specs.declared.fault.Verdict.{Verdict}

-- the trace of a set-up, by addresses or by names, with the ways of words or without, and the verdict on its expectations
unfoldable pub traced_in : Bool → Bool → ProfileName → ReadView → List ℕ × Verdict
traced_in by_name ways p read = (trace_of by_name ways p read.table read.names read.setup, verdict_of read.setup.calls (replies_to p read.setup))

-- a text and a verdict are the trace of a set-up that was read
abbrev pub IsTrace : Bool → Bool → ProfileName → ReadView → List ℕ → Verdict → Type 0
IsTrace by_name ways p read text verdict = (text, verdict) ≡ traced_in by_name ways p read
