-- What the program writes for the bytes that it reads if the clients of a set-up share one kernel, and its verdict.
use Rattle.std.specs.Prelude.{◌≡◌, ℕ, ◌<◌, ◌≤◌, ◌==◌, ◌⊎◌, min, Bool, true, List, [], ◌∷◌, ◌++◌, map, filter, length, take, Result, Ok, Err}
use Rattle.cap_core.specs.declared.profile.ProfileName.{ProfileName}
use Rattle.kernel_abstract.specs.declared.call.Call.{Call}
use Rattle.kernel_abstract.specs.Boot.{boot}
use Rattle.kernel_abstract.specs.State.{State, shown}
use Rattle.kernel_abstract.specs.Step.{replies_of, state_after}
use Rattle.kernel_shared.specs.declared.entry.Entry.{Entry}
use Rattle.kernel_shared.specs.Laws.{entry_calls, replies_in, are_entries_numbered}
use Rattle.setup_values.specs.Names.{Names}
use Rattle.setup_format.specs.Views.{SetupView, CallView, ReadView}
use Rattle.setup_format.specs.Faults.{Fault}
use Rattle.setup_format.specs.Setups.{read_of_bytes}
use Rattle.setup_format.specs.Refusal.{refusal_line}
use Rattle.setup_report.specs.Naming.{Texts, report_texts}
use Rattle.setup_read.specs.SharedReport.{shared_report_told}
use Rattle.command_check.specs.Notes.{noted, unmet_at}
use Rattle.command_check.specs.Program.{verdict_on}
use Rattle.command_core.specs.Devices.{Gave, Took}
use Rattle.command_core.specs.declared.answer.Found.{Found}
use Rattle.command_core.specs.declared.fault.Verdict.{Verdict}
use Rattle.command_core.specs.declared.fault.Verdict.TheVariants.{Refused}
use Rattle.command_core.specs.declared.sink.Sink.{Ghosts as SinkGhosts}
use Rattle.command_core.specs.declared.source.Source.{Ghosts as SourceGhosts}
use Rattle.command_check.specs.Numbers.{call_number_at, client_numbers_of, expectation_of}

-- the calls of a client in a set-up, in order
abbrev pub client_calls : ℕ → List CallView → List Call
client_calls client calls = map (λ (c : CallView). c.call) (filter (λ (c : CallView). c.client == client) calls)

-- the calls of a client in a history, in order
abbrev pub calls_by : ℕ → List Entry → List Call
calls_by client history = entry_calls (filter (λ (e : Entry). e.client == client) history)

-- the calls begin with these
abbrev pub IsBeginning : List Call → List Call → Type 0
IsBeginning first calls = (rest : List Call) × (calls ≡ first ++ rest)

-- The calls that are made before the clients begin: so many, but not more than the set-up has, or than the history has room
-- for.
abbrev pub count_first : ℕ → SetupView → ℕ
count_first first setup = min (min first setup.limit) (length setup.calls)

abbrev pub first_calls : ℕ → SetupView → List CallView
first_calls first setup = take (count_first first setup) setup.calls

-- an entry of a history, and a call of a set-up, as a client and its call
abbrev pub call_made : Entry → ℕ × Call
call_made e = (e.client, e.call)

abbrev pub call_asked : CallView → ℕ × Call
call_asked c = (c.client, c.call)

-- A history that the clients of a set-up can make of a kernel that they share. It begins with the first calls of the set-up, in
-- its order; behind them stand the calls that the clients then make. The replies are those of the abstract kernel from its boot
-- on; each client's entries are numbered from 0 on, in order; there are no more entries than the set-up's limit; and each
-- client's entries carry a beginning of its calls. That is all of them if the history has as many entries as the set-up has
-- calls. If it has fewer than the limit, it is all of them, or the gate may end the client (`ends`) before the call that would
-- come next; the gate counts the calls that the client makes after the first.
pub record IsSharedRun (ends : ℕ → ℕ → Type 0) (first : ℕ) (p : ProfileName) (setup : SetupView) (history : List Entry) : Type 0 where
  pub before : List Entry
  pub behind : List Entry
  pub is : history ≡ before ++ behind
  pub first_made : map call_made before ≡ map call_asked (first_calls first setup)
  pub replies : replies_in history ≡ replies_of p (boot p setup.plan) (entry_calls history)
  pub numbered : are_entries_numbered [] history ≡ true
  pub within : length history ≤ setup.limit
  pub beginnings : (client : ℕ) → IsBeginning (calls_by client history) (client_calls client setup.calls)
  pub unless_full : length history < setup.limit → (client : ℕ)
      → (calls_by client history ≡ client_calls client setup.calls) ⊎ ends client (length (calls_by client behind))
  pub whole : length history ≡ length setup.calls → (client : ℕ) → calls_by client history ≡ client_calls client setup.calls

-- what the abstract kernel shows after the calls of a history
abbrev pub history_state : ProfileName → SetupView → List Entry → State
history_state p setup history = state_after p (boot p setup.plan) (entry_calls history)

-- the texts of its report: addresses, or the names of the objects in the state after its calls
abbrev pub history_texts : Bool → ProfileName → Names → SetupView → List Entry → Texts
history_texts by_name p names setup history = report_texts by_name p names setup.plan (shown (history_state p setup history))

-- the report of a history, and its verdict: all calls of the set-up are made, or not all
abbrev pub IsReportOf : Bool → ProfileName → Names → SetupView → List Entry → List ℕ → Verdict → Type 0
IsReportOf by_name p names setup history text verdict =
    (text ≡ shared_report_told (history_texts by_name p names setup history) p (length setup.calls) history (shown (history_state p setup history)))
    × (verdict ≡ verdict_on (length history) (length setup.calls))

-- the report of some shared run of the set-up
abbrev pub IsOutcomeIn : Bool → (ℕ → ℕ → Type 0) → ℕ → ProfileName → Names → SetupView → List ℕ → Verdict → Type 0
IsOutcomeIn by_name ends first p names setup text verdict =
    (history : List Entry) × IsSharedRun ends first p setup history × IsReportOf by_name p names setup history text verdict

-- or the line by which it is refused
abbrev pub IsSharedOutcome : Bool → (ℕ → ℕ → Type 0) → ℕ → Result ReadView Fault → List ℕ → Verdict → Type 0
IsSharedOutcome by_name ends first (Ok read) text verdict = IsOutcomeIn by_name ends first read.setup.profile read.names read.setup text verdict
IsSharedOutcome by_name ends first (Err fault) text verdict = (text ≡ refusal_line fault) × (verdict ≡ Refused)

-- what is right to write for the bytes of an input, by addresses or by names, in the profile that its set-up names, if so many
-- calls are made first
unfoldable pub IsSharedProgram : Bool → (ℕ → ℕ → Type 0) → ℕ → List ℕ → List ℕ → Verdict → Type 0
IsSharedProgram by_name ends first input text verdict = IsSharedOutcome by_name ends first (read_of_bytes input) text verdict

-- the number, from 1 on, of the call of a set-up that an entry of a history carries
abbrev pub call_number_of : SetupView → Entry → ℕ
call_number_of setup e = call_number_at (client_numbers_of setup) e.client e.number

-- the numbers of the calls whose expectation is not met in a history, in its order
abbrev pub unmet_in : SetupView → List Entry → List ℕ
unmet_in setup [] = []
unmet_in setup (e ∷ es) = unmet_at (call_number_of setup e) (expectation_of setup.calls (call_number_of setup e)) e.reply ++ unmet_in setup es

-- the report of some shared run of the set-up, and the numbers of the calls whose expectation is not met in its history
abbrev pub IsToldIn : Bool → (ℕ → ℕ → Type 0) → ℕ → ProfileName → Names → SetupView → List ℕ → Verdict → List ℕ → Type 0
IsToldIn by_name ends first p names setup text verdict unmet =
    (history : List Entry) × IsSharedRun ends first p setup history × IsReportOf by_name p names setup history text verdict
    × (unmet ≡ unmet_in setup history)

-- or of no call, if the set-up is refused
abbrev pub IsEndOf : Bool → (ℕ → ℕ → Type 0) → ℕ → Result ReadView Fault → List ℕ → Verdict → List ℕ → Type 0
IsEndOf by_name ends first (Ok read) text verdict unmet =
    IsToldIn by_name ends first read.setup.profile read.names read.setup text verdict unmet
IsEndOf by_name ends first (Err fault) text verdict unmet = unmet ≡ []

-- what is right to say besides the text that is written for the bytes of an input
unfoldable pub IsToldProgram : Bool → (ℕ → ℕ → Type 0) → ℕ → List ℕ → List ℕ → Verdict → List ℕ → Type 0
IsToldProgram by_name ends first input text verdict unmet = IsEndOf by_name ends first (read_of_bytes input) text verdict unmet

-- a run from a source to a sink names just those calls whose expectation is not met in the history of its report
abbrev pub TellsUnmet : {S K : Type 0} → Bool → (ℕ → ℕ → Type 0) → ℕ → SourceGhosts S → SinkGhosts K → S → S → K → K → Found → Type 0
TellsUnmet by_name ends first from to source_old source_new sink_old sink_new found = (input text : List ℕ)
    × Gave from.left from.given source_old source_new input × Took to.taken to.written sink_old sink_new text
    × IsToldProgram by_name ends first input text found.verdict (noted found.notes.unmet.items)
