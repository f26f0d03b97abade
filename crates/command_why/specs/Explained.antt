-- What the program writes of why the calls of a set-up are refused, and its verdict.
use Rattle.std.specs.Prelude.{◌≡◌, ℕ, List, [], length, Bool, false, ◌==◌, ◌||◌, nat_lt, if◌then◌else◌, Option, None, Some}
use Rattle.cap_core.specs.declared.profile.ProfileName.{ProfileName}
use Rattle.setup_format.specs.Views.{ReadView}
use Rattle.command_why.specs.Why.{why_of}
use Rattle.command_check.specs.Program.{replies_to, texts_after, verdict_of}
use Rattle.command_core.specs.declared.fault.Verdict.{Verdict}
use Rattle.command_core.specs.declared.fault.Verdict.TheVariants.{Absent}

-- calls are numbered from 1 on
abbrev pub is_absent : Option ℕ → ℕ → Bool
is_absent None calls = false
is_absent (Some number) calls = number == 0 || nat_lt calls number

-- why calls of a set-up are refused, with the verdict on all of its expectations; by addresses, or by the names of objects in the
-- state after its calls
unfoldable pub explained_in : Bool → ProfileName → Option ℕ → ReadView → List ℕ × Verdict
explained_in by_name p call read =
    (why_of (texts_after by_name p read.names read.setup) p read.table call read.setup, verdict_of read.setup.calls (replies_to p read.setup))

-- of each call that is refused, or of the one with a number; nothing, if the set-up has no call of that number
abbrev pub explained : Bool → ProfileName → Option ℕ → ReadView → List ℕ × Verdict
explained by_name p call read = if is_absent call (length read.setup.calls) then ([], Absent) else explained_in by_name p call read

-- a text and a verdict say why calls of a set-up are refused, of one call or of all, by addresses or by names
abbrev pub IsWhy : Bool → Option ℕ → ProfileName → ReadView → List ℕ → Verdict → Type 0
IsWhy by_name call p read text verdict = (text, verdict) ≡ explained by_name p call read
