-- The exit status of the process.
use Rattle.std.specs.Prelude.{◌≡◌, ℕ, List, false}
use Rattle.clap.specs.Words.{Text}
use Rattle.command_core.specs.Devices.{Counted}
use Rattle.command_core.specs.declared.sink.Sink.{Ghosts as SinkGhosts}
use Rattle.command_core.specs.declared.source.Source.{Ghosts as SourceGhosts}
use Rattle.program_messages.specs.Statuses.{end_status}
use Rattle.program_messages.specs.declared.ended.Ended.{Ended}
use Rattle.program.specs.Ends.{IsEnd}

-- nothing was read of it yet
abbrev pub IsUnread : {R : Type 0} → Counted R → Type 0
IsUnread source = source.count ≡ 0

-- the status of an end of these words, over inputs of which nothing was read, and a sink to which nothing was written
abbrev pub IsStatusOf : {S F E K : Type 0} → (S → Type 0) → (Text → F → Type 0) → (Text → E → Type 0)
    → SourceGhosts S → SourceGhosts F → SinkGhosts K → List Text → ℕ → Type 0
IsStatusOf {S} {F} {E} {K} is_standard is_file is_fault from_standard from_file to words status =
    (ended : Ended S F E) × (old new : K)
    × (to.written old ≡ 0) × (to.failed old ≡ false)
    × IsEnd is_standard is_file is_fault from_standard from_file to words ended old new
    × (status ≡ end_status ended)
