-- A run of an engine: it reads an input from a source, makes a text and a verdict of it, and writes the text to a sink.
use Rattle.std.specs.Prelude.{◌≡◌, ◌⊎◌, ◌+◌, ◌<◌, ℕ, List, true, Result, Ok, Err, IfOk, OnOk}
use Rattle.std.specs.Io.KnownBytes.{IsAtEnd}
use Rattle.command_core.specs.Devices.{Gave, GaveAsMany, Took, TookFront}
use Rattle.command_core.specs.declared.answer.Found.{Found}
use Rattle.command_core.specs.declared.answer.Notes.{Notes}
use Rattle.command_core.specs.declared.fault.Verdict.{Verdict}
use Rattle.command_core.specs.declared.fault.RunFault.{RunFault}
use Rattle.command_core.specs.declared.fault.RunFault.TheVariants.{Reading, Writing, Memory, Thread}
use Rattle.command_core.specs.Limits.{input_limit}
use Rattle.command_core.specs.declared.sink.Sink.{Ghosts as SinkGhosts}
use Rattle.command_core.specs.declared.source.Source.{Ghosts as SourceGhosts}

-- how a run ended: of what it found only the verdict
abbrev pub verdict_of : Result Found RunFault → Result Verdict RunFault
verdict_of (Ok found) = Ok found.verdict
verdict_of (Err fault) = Err fault

-- what a run answers, and what it leaves of the source and of the sink, where `means` says which text and which verdict are
-- right for an input; `from` and `to` say what the devices show
pub record IsRun {S K : Type 0} (means : List ℕ → List ℕ → Verdict → Type 0) (from : SourceGhosts S) (to : SinkGhosts K)
    (source_old source_new : S) (sink_old sink_new : K) (result : Result Verdict RunFault) : Type 0 where
  -- Ok: the source gave the input to its end, and the sink took just a text that is right for the input, with the verdict
  pub ok : IfOk result (λ verdict. (input text : List ℕ)
      × Gave from.left from.given source_old source_new input
      × Took to.taken to.written sink_old sink_new text
      × means input text verdict)
  pub end : OnOk result (IsAtEnd (from.left source_new))
  pub short : OnOk result (from.given source_new < from.given source_old + input_limit)
  -- Reading: a read failed, or the source gave that many bytes without an end; nothing was written
  pub reading : result ≡ Err Reading
      → (from.failed source_new ≡ true) ⊎ GaveAsMany from.left from.given source_old source_new input_limit
  pub reading_keeps : result ≡ Err Reading → sink_new ≡ sink_old
  pub source_marked : from.failed source_new ≡ true → result ≡ Err Reading
  -- Writing: a write failed; the sink took a beginning of a text that is right for the input with some verdict
  pub writing : result ≡ Err Writing → to.failed sink_new ≡ true
  pub writing_front : result ≡ Err Writing → (input text : List ℕ) × (verdict : Verdict)
      × Gave from.left from.given source_old source_new input
      × TookFront to.taken to.written sink_old sink_new text
      × means input text verdict
  pub sink_marked : to.failed sink_new ≡ true → result ≡ Err Writing
  -- Memory, Thread: nothing was written
  pub memory_keeps : result ≡ Err Memory → sink_new ≡ sink_old
  pub thread_keeps : result ≡ Err Thread → sink_new ≡ sink_old

-- what a run found: the text that it wrote and the verdict are right for its input, as `means` says, and so is what standard error
-- says besides them, as `tells` says
abbrev pub IsFound : {S K : Type 0} → (List ℕ → List ℕ → Verdict → Type 0) → (List ℕ → Notes → Type 0) → SourceGhosts S → SinkGhosts K
    → S → S → K → K → Found → Type 0
IsFound means tells from to source_old source_new sink_old sink_new found = (input text : List ℕ)
    × Gave from.left from.given source_old source_new input
    × Took to.taken to.written sink_old sink_new text
    × means input text found.verdict
    × tells input found.notes
