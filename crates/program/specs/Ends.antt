-- What the program does with the words of its command line.
use Rattle.std.specs.Prelude.{◌≡◌, ◌≢◌, ◌==◌, ◌&&◌, ◌||◌, not, ⊤, ℕ, List, [], ◌∷◌, ◌⊎◌, codes, Option, Some, None, option_map, Result, Err, true, false, if◌then◌else◌, IfOk, IfErr, OnOk, OnErr, Bool, MatchBool}
use Rattle.std.specs.List.{list_any}
use Rattle.std.specs.Str.{bytes_eq}
use Rattle.clap.specs.Words.{Text, subcommand_of, takes, fault_of}
use Rattle.command_line.specs.CommandLine.{agrees, command, file_asked, job_asked, names_command, own_rows, reads_once, several_asked, takes_several, CallsForText, HasConflict, HasOptions, HasOtherFault}
use Rattle.command_line.specs.declared.arguments.Job.{Job}
use Rattle.command_line.specs.declared.arguments.Job.TheVariants.{New, Marks}
use Rattle.command_line.specs.declared.arguments.Options.{Options}
use Rattle.command_core.specs.Devices.{GaveAsMany, Took, TookFront}
use Rattle.command_core.specs.Limits.{input_limit}
use Rattle.command_core.specs.Runs.{IsRun, verdict_of}
use Rattle.command_core.specs.declared.answer.Found.{Found}
use Rattle.command_core.specs.declared.fault.Verdict.{Verdict}
use Rattle.command_core.specs.declared.fault.RunFault.{RunFault}
use Rattle.command_core.specs.declared.fault.RunFault.TheVariants.{Reading, Writing, Memory, Thread}
use Rattle.command_core.specs.declared.sink.Sink.{Ghosts as SinkGhosts}
use Rattle.command_core.specs.declared.source.Source.{Ghosts as SourceGhosts}
use Rattle.program.specs.Jobs.{meaning}
use Rattle.program.specs.NewWords.{IsNewOf}
use Rattle.command_files.specs.Files.{IsCheckOf, IsFile, IsInput}
use Rattle.command_files.specs.declared.tally.Tally.{Tally}
use Rattle.command_marks.specs.Answers.{AreMarkedBy}
use Rattle.command_marks.specs.Table.{IsMarksOf}
use Rattle.command_files.specs.declared.inputs.Used.{Used}
use Rattle.command_files.specs.declared.inputs.Used.TheVariants.{Standard, File, Unopened, Nothing}
use Rattle.program_messages.specs.declared.ended.Ended.{Ended}
use Rattle.program_messages.specs.declared.ended.Ended.TheVariants.{Did, Checked, Helped, Refused, Conflict, Unknown, NoMemory, NoPolicy}

-- the name of the file that is to be read, if the words name one; a hyphen stands for standard input
abbrev pub named_input : Option Text → Option Text
named_input None = None
named_input (Some name) = if bytes_eq name (codes "-") then None else Some name

-- a text and a verdict of that meaning were made of no input, and the text was written, or a front of it if a write failed
pub record IsWriting {K : Type 0} (means : List ℕ → Verdict → Type 0) (to : SinkGhosts K) (sink_old sink_new : K)
    (result : Result Verdict RunFault) : Type 0 where
  pub ok : IfOk result (λ verdict. (text : List ℕ) × Took to.taken to.written sink_old sink_new text × means text verdict)
  pub writing : result ≡ Err Writing → to.failed sink_new ≡ true
  pub writing_front : result ≡ Err Writing → (text : List ℕ) × (verdict : Verdict)
      × TookFront to.taken to.written sink_old sink_new text × means text verdict
  pub sink_marked : to.failed sink_new ≡ true → result ≡ Err Writing
  pub reading_keeps : result ≡ Err Reading → sink_new ≡ sink_old
  pub memory_keeps : result ≡ Err Memory → sink_new ≡ sink_old
  pub thread_keeps : result ≡ Err Thread → sink_new ≡ sink_old

-- the job's run over standard input, if no file is named, and else over the file of that name; if this can't be
-- opened, a failed read, and nothing is written; a new set-up is made of no input
abbrev pub IsDone : {S F E K : Type 0} → (S → Type 0) → (Text → F → Type 0) → (Text → E → Type 0)
    → SourceGhosts S → SourceGhosts F → SinkGhosts K
    → Job → Options → List ℕ → Option Text → Used S F E → Result Found RunFault → K → K → Type 0
IsDone is_standard is_file is_fault from_standard from_file to job options policy name (Standard source) answer old new =
    (name ≡ None) × (unread : _) × is_standard unread
    × IsRun (meaning job options policy None) from_standard to unread source old new (verdict_of answer)
IsDone is_standard is_file is_fault from_standard from_file to job options policy name (File source) answer old new =
    (named : Text) × (name ≡ Some named) × (unread : _) × is_file named unread
    × IsRun (meaning job options policy (Some named)) from_file to unread source old new (verdict_of answer)
IsDone is_standard is_file is_fault from_standard from_file to job options policy name (Unopened fault) answer old new =
    (named : Text) × (name ≡ Some named) × is_fault named fault × (answer ≡ Err Reading) × (new ≡ old)
IsDone is_standard is_file is_fault from_standard from_file to job options policy name Nothing answer old new =
    (job ≡ New) × IsWriting (IsNewOf options) to old new (verdict_of answer)

abbrev pub is_marks : Job → Bool
is_marks Marks = true
is_marks job = false

-- the bytes of the file that an option names; nothing, if it is not there
abbrev pub IsSecond : {F E : Type 0} → (Text → F → Type 0) → (Text → E → Type 0) → SourceGhosts F → Option Text → List ℕ → Type 0
IsSecond is_file is_fault from_file None bytes = bytes ≡ []
IsSecond is_file is_fault from_file (Some name) bytes = IsFile is_file is_fault from_file name (Some bytes)

-- files were marked, by the exercise with these bytes if `--of` names one
abbrev pub AreMarked : {K : Type 0} → Option Text → List ℕ → (Text → Option Text → Type 0) → SinkGhosts K → List Text → K → K → Result Tally RunFault → Type 0
AreMarked None exercise = IsMarksOf
AreMarked (Some name) exercise = AreMarkedBy exercise

-- so they were if that is the job, or checked, strictly or not
abbrev pub AreDone : {K : Type 0} → Job → Options → List ℕ → (Text → Option Text → Type 0) → SinkGhosts K → List Text → K → K → Result Tally RunFault → Type 0
AreDone job options exercise Is to names old new answer =
    MatchBool (is_marks job) (AreMarked (option_map (λ s. s.now) options.of) exercise Is to names old new answer)
    (IsCheckOf options.strict Is to names old new answer)

-- a text was written, or a front of it if a write failed
abbrev pub IsWritten : {K : Type 0} → SinkGhosts K → Result Unit RunFault → K → K → Type 0
IsWritten to result old new = (text : List ℕ)
    × OnOk result (Took to.taken to.written old new text)
    × IfErr result (λ fault. fault ≡ Writing)
    × OnErr result (TookFront to.taken to.written old new text)

-- a read failed, or the file has as many bytes as none may have
abbrev pub IsUnreadFile : {F : Type 0} → SourceGhosts F → F → F → Type 0
IsUnreadFile from old new = (from.failed new ≡ true) ⊎ GaveAsMany from.left from.given old new input_limit

-- the file of that name was opened, and could not be read to its end, or memory ran out; or it could not be opened
abbrev pub IsUnreadBy : {S F E : Type 0} → (Text → F → Type 0) → (Text → E → Type 0) → SourceGhosts F → Text → Used S F E → RunFault → Type 0
IsUnreadBy is_file is_fault from name (File source) Reading = (unread : _) × is_file name unread × IsUnreadFile from unread source
IsUnreadBy is_file is_fault from name (File source) Memory = (unread : _) × is_file name unread
IsUnreadBy is_file is_fault from name (Unopened fault) Reading = is_fault name fault
IsUnreadBy is_file is_fault from name _ _ = ⊥

-- the second file that the options name: the policy, or, if files are listed, the exercise
abbrev pub second_asked : List Text → Options → Option Text
second_asked [] options = option_map (λ s. s.now) options.policy
second_asked (name ∷ names) options = option_map (λ s. s.now) options.of

-- a file that could not be opened is that of a command that is named
abbrev pub IsOpened : {S F E : Type 0} → Used S F E → Bool → Type 0
IsOpened (Unopened fault) names_command = names_command ≡ true
IsOpened input names_command = ⊤

-- a word that looks like no file's name: it has no dot (46) and no slash (47), and is no hyphen
abbrev pub looks_like_command : Text → Bool
looks_like_command word = not (bytes_eq word (codes "-")) && not (list_any (λ byte. byte == 46 || byte == 47) word)

-- if no command is named, the first of several files could be opened, if it looks like no file's name
abbrev pub IsFirstOpened : {F : Type 0} → (Text → F → Type 0) → Bool → Option Text → Type 0
IsFirstOpened is_file names_command None = ⊤
IsFirstOpened {F} is_file names_command (Some name) =
    names_command ≡ false → looks_like_command name ≡ true → (file : F) × is_file name file

-- Did: clap takes the words, their options go together, and their job was done with the one input that they name. Checked:
-- clap takes them, they list files that are to be checked or marked, of which standard input is one at most, and these were, by the
-- exercise that they name if they name one.
-- Helped: their fault can be a call for help. Refused: they have another fault, and nothing is written. Conflict: clap takes
-- them, their options do not go together or standard input is named twice, and nothing is written. Unknown: clap takes them, they name
-- no command, and the file that they name first can't be opened; nothing is written. NoMemory: nothing is written.
-- NoPolicy: clap takes the words, and the file of the policy or of the exercise that their options name could not be opened or read to its end, and nothing is written.
abbrev pub IsEnd : {S F E K : Type 0} → (S → Type 0) → (Text → F → Type 0) → (Text → E → Type 0)
    → SourceGhosts S → SourceGhosts F → SinkGhosts K → List Text → Ended S F E → K → K → Type 0
IsEnd is_standard is_file is_fault from_standard from_file to words (Did done) old new =
    (fault_of command words ≡ [])
    × (job_asked words ≡ Some done.line.job)
    × HasOptions (own_rows (subcommand_of command words)) done.line.options
    × (agrees done.line.options ≡ true)
    × (several_asked words ≡ [])
    × IsOpened done.input (names_command words)
    × (policy : List ℕ) × IsSecond is_file is_fault from_file (option_map (λ s. s.now) done.line.options.policy) policy
    × IsDone is_standard is_file is_fault from_standard from_file to
    done.line.job done.line.options policy (named_input (file_asked words)) done.input done.answer old new
IsEnd is_standard is_file is_fault from_standard from_file to words (Checked checked) old new =
    (fault_of command words ≡ [])
    × (job_asked words ≡ Some checked.line.job)
    × HasOptions (own_rows (subcommand_of command words)) checked.line.options
    × (takes_several checked.line.job ≡ true)
    × (several_asked words ≢ [])
    × (reads_once (several_asked words) ≡ true)
    × IsFirstOpened is_file (names_command words) (file_asked words)
    × (exercise : List ℕ) × IsSecond is_file is_fault from_file (option_map (λ s. s.now) checked.line.options.of) exercise
    × AreDone checked.line.job checked.line.options exercise (IsInput is_standard is_file is_fault from_standard from_file) to (several_asked words) old new checked.answer
IsEnd is_standard is_file is_fault from_standard from_file to words (Helped answer) old new =
    (takes command words ≡ false) × CallsForText (fault_of command words) × IsWritten to answer old new
IsEnd is_standard is_file is_fault from_standard from_file to words Refused old new =
    (takes command words ≡ false) × HasOtherFault (fault_of command words) × (new ≡ old)
IsEnd is_standard is_file is_fault from_standard from_file to words (Conflict text) old new = HasConflict words × (new ≡ old)
IsEnd is_standard is_file is_fault from_standard from_file to words (Unknown unknown) old new =
    (fault_of command words ≡ [])
    × (names_command words ≡ false)
    × (named_input (file_asked words) ≡ Some unknown.word.now)
    × is_fault unknown.word.now unknown.fault
    × (new ≡ old)
IsEnd is_standard is_file is_fault from_standard from_file to words NoMemory old new = new ≡ old
IsEnd is_standard is_file is_fault from_standard from_file to words (NoPolicy unread) old new =
    (fault_of command words ≡ [])
    × (options : Options) × HasOptions (own_rows (subcommand_of command words)) options
    × (second_asked (several_asked words) options ≡ Some unread.name.now)
    × IsUnreadBy is_file is_fault from_file unread.name.now unread.input unread.fault
    × (new ≡ old)
