-- What only private contracts cite, in proofs of the public ones: nobody has to believe it.
use Rattle.std.specs.Prelude.{◌≡◌, ℕ, List, All, Option, Some, false}
use Rattle.clap.specs.Words.{Text}
use Rattle.command_core.specs.declared.sink.Sink.{Ghosts as SinkGhosts}
use Rattle.command_core.specs.declared.source.Source.{Ghosts as SourceGhosts}
use Rattle.command_line.specs.declared.arguments.Line.{Line}
use Rattle.program_messages.specs.declared.ended.Ended.{Ended}
use Rattle.program_messages.specs.declared.ended.Ended.TheVariants.{Did, Unknown}
use Rattle.program.specs.Ends.{IsDone, IsOpened}
use Rattle.cap_core.specs.declared.profile.ProfileName.{ProfileName}
use Rattle.kernel_abstract.specs.Plan.{IsUntypedSize}
use Rattle.program.specs.NewWords.{AreRegionWords}

-- the end of a line that reads one input at the most, which it names so, by the policy with these bytes if its options name one
abbrev pub IsEndOfLine : {S F E K : Type 0} → (S → Type 0) → (Text → F → Type 0) → (Text → E → Type 0)
    → SourceGhosts S → SourceGhosts F → SinkGhosts K → Line → List ℕ → Option Text → Ended S F E → K → K → Type 0
IsEndOfLine is_standard is_file is_fault from_standard from_file to line policy name (Did done) old new =
    (done.line ≡ line)
    × IsOpened done.input line.names_command
    × IsDone is_standard is_file is_fault from_standard from_file to line.job line.options policy name done.input done.answer old new
IsEndOfLine is_standard is_file is_fault from_standard from_file to line policy name (Unknown unknown) old new =
    (line.names_command ≡ false) × (name ≡ Some unknown.word.now) × is_fault unknown.word.now unknown.fault × (new ≡ old)
IsEndOfLine is_standard is_file is_fault from_standard from_file to line policy name ended old new = ⊥

-- whatever regions the words say, the bits of one lie within no profile
abbrev pub SayNoSizes : List (List ℕ) → Type 0
SayNoSizes words = (regions : List (ℕ × ℕ)) → AreRegionWords words regions → (p : ProfileName) → ¬ All (IsUntypedSize p) regions
