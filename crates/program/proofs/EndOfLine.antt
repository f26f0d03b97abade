-- The end of a line that reads one input at the most is that of the words which it was read from.
use Rattle.std.proofs.Common.{◌≡◌, ◌∙◌, ℕ, List, [], true, Option, Some, option_map, ap, subst, sym}
use Rattle.clap.specs.Words.{Text, subcommand_of, fault_of}
use Rattle.command_core.specs.declared.sink.Sink.{Ghosts as SinkGhosts}
use Rattle.command_core.specs.declared.source.Source.{Ghosts as SourceGhosts}
use Rattle.command_line.specs.CommandLine.{HasOptions, agrees, command, file_asked, job_asked, names_command, own_rows, several_asked}
use Rattle.command_line.specs.declared.arguments.Line.{Line}
use Rattle.program_messages.specs.declared.ended.Ended.{Ended}
use Rattle.program_messages.specs.declared.ended.Ended.TheVariants.{Did, Checked, Helped, Refused, Conflict, Unknown, NoMemory, NoPolicy}
use Rattle.program.specs.Ends.{IsDone, IsEnd, IsOpened, IsSecond, named_input}
use Rattle.program.specs.Private.{IsEndOfLine}

module _ {S F E K : Type 0} (is_standard : S → Type 0) (is_file : Text → F → Type 0) (is_fault : Text → E → Type 0) (from_standard : SourceGhosts S) (from_file : SourceGhosts F) (to : SinkGhosts K)
    (words : List Text) (line : Line) (policy : List ℕ) where
  pub line_ended : (ended : Ended S F E) (old new : K) → fault_of command words ≡ [] → job_asked words ≡ Some line.job → HasOptions (own_rows (subcommand_of command words)) line.options
      → agrees line.options ≡ true → several_asked words ≡ [] → file_asked words ≡ option_map (λ s. s.now) line.file → names_command words ≡ line.names_command
      → IsSecond is_file is_fault from_file (option_map (λ s. s.now) line.options.policy) policy
      → IsEndOfLine is_standard is_file is_fault from_standard from_file to line policy (named_input (option_map (λ s. s.now) line.file)) ended old new
      → IsEnd is_standard is_file is_fault from_standard from_file to words ended old new
  line_ended (Did done) old new taken job options fits several file named second is =
      let same : line ≡ done.line = sym is.0 in (
        taken,
        job ∙ ap (λ (l : Line). Some l.job) same,
        subst (λ (l : Line). HasOptions (own_rows (subcommand_of command words)) l.options) same options,
        subst (λ (l : Line). agrees l.options ≡ true) same fits,
        several,
        subst (IsOpened done.input) (sym named) is.1,
        policy,
        subst (λ (l : Line). IsSecond is_file is_fault from_file (option_map (λ s. s.now) l.options.policy) policy) same second,
        subst (λ (l : Line). IsDone is_standard is_file is_fault from_standard from_file to l.job l.options policy (named_input (file_asked words)) done.input done.answer old new) same
            (subst (λ (name : Option Text). IsDone is_standard is_file is_fault from_standard from_file to line.job line.options policy (named_input name) done.input done.answer old new) (sym file) is.2),
      )
  line_ended (Unknown unknown) old new taken job options fits several file named second is =
      (taken, named ∙ is.0, ap named_input file ∙ is.1, is.2, is.3)
  line_ended (Checked checked) old new taken job options fits several file named second is = absurd is
  line_ended (Helped answer) old new taken job options fits several file named second is = absurd is
  line_ended Refused old new taken job options fits several file named second is = absurd is
  line_ended (Conflict text) old new taken job options fits several file named second is = absurd is
  line_ended NoMemory old new taken job options fits several file named second is = absurd is
  line_ended (NoPolicy unread) old new taken job options fits several file named second is = absurd is
