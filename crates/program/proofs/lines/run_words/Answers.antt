-- One input is named at the most, and the end is that of its line. Or several files are named, so they are to be checked or marked, and they were; or the exercise that the options name could not be read.
use Rattle.std.proofs.Common.{◌≡◌, ◌≢◌, ◌∙◌, ℕ, ◌==◌, Bool, List, [], ◌∷◌, length, true, Option, Some, None, option_map, refl, sym, ap, subst, arith}
use Rattle.std.specs.Borrow.{Bor}
use Rattle.clap.specs.Walk.{texts}
use Rattle.clap.specs.Words.{Text, matches_of, subcommand_of}
use Rattle.command_line.specs.CommandLine.{HasOptions, command, file_asked, own_rows, reads_once, several_asked, takes_several}
use Rattle.command_line.specs.declared.arguments.Line.{Line}
use Rattle.command_line.proofs.CommandLines.{several_are_taken}
use Rattle.command_files.specs.Files.{IsInput}
use Rattle.command_line.specs.declared.arguments.Options.{Options}
use Rattle.program.specs.Ends.{AreDone, IsFirstOpened, IsSecond, named_input, second_asked}
use Rattle.program.specs.Private.{IsEndOfLine}
use Rattle.program.proofs.EndOfLine.{line_ended}
use Rattle.program.proofs.lines.run_words.Goals as goal

no_items : (names : List (Bor Text)) → texts names ≡ [] → length names ≡ 0
no_items [] none = refl
no_items (name ∷ names) none = cc

no_names : (names : List (Bor Text)) → length names ≡ 0 → names ≡ []
no_names [] none = refl
no_names (name ∷ names) none = absurd (omega (arith, none))

no_length : (n : ℕ) (empty : Bool) → empty ≡ (n == 0) → empty ≡ true → n ≡ 0
no_length n empty is so = grind (arith, is, so)

some_asked : (ws : List Text) (several : List (Bor Text)) → several_asked ws ≡ texts several → length several ≢ 0 → several_asked ws ≢ []
some_asked ws several is some none = some (no_items several (sym is ∙ none))

none_left : {A : Type 0} (r : Option A) → ((a : A) → r ≡ Some a → ⊥) → r ≡ None
none_left None is = refl
none_left (Some a) is = absurd (is a refl)

pub returns-in-Ok-read_second : goal.returns-in-Ok-read_second
returns-in-Ok-read_second g c =
    let ws = texts c.args.words.now in
    let is = c.in-Ok.ensures in
    let policy = c.in-Ok-read_second.policy.items in
    line_ended (g.I.Inputs.is_standard c.args.inputs.now) (g.I.Inputs.is_file c.args.inputs.now) (g.I.Inputs.is_fault c.args.inputs.now) g.I.Standard.Source g.I.File.Source g.K.Sink
    ws c.in-Ok.line policy c.run_line.result c.args.sink.now c.run_line.new.sink is.taken is.job is.options is.agrees
    (is.several ∙ ap texts (no_names c.in-Ok.line.several.items (sym c.in-Ok.line.several.ok.0 ∙ no_length c.in-Ok.line.several.len c.is_empty.result c.is_empty.ensures c.if-is_empty.true)))
    is.file is.named c.in-Ok-read_second.ensures.read
    (subst (λ (bytes : List ℕ). IsEndOfLine (g.I.Inputs.is_standard c.args.inputs.now) (g.I.Inputs.is_file c.args.inputs.now) (g.I.Inputs.is_fault c.args.inputs.now) g.I.Standard.Source g.I.File.Source g.K.Sink
    c.in-Ok.line bytes (named_input (option_map (λ s. s.now) c.in-Ok.line.file)) c.run_line.result c.args.sink.now c.run_line.new.sink) c.as_slice.ensures.value c.run_line.ensures)

pub returns-in-Ok-read_second-2 : goal.returns-in-Ok-read_second-2
returns-in-Ok-read_second-2 g c =
    let ws = texts c.args.words.now in
    let none : c.unknown_first.result ≡ None = none_left c.unknown_first.result c.in_default.not-Some in
    let Is = IsInput (g.I.Inputs.is_standard c.args.inputs.now) (g.I.Inputs.is_file c.args.inputs.now) (g.I.Inputs.is_fault c.args.inputs.now) g.I.Standard.Source g.I.File.Source in
    let is = c.in-Ok.ensures in
    let exercise = c.in-Ok-read_second-2.exercise.items in
    let some = some_asked ws c.in-Ok.line.several.items is.several (λ none. grind (arith, none, c.is_empty.ensures, c.if-is_empty.false)) in
    let takes = several_are_taken (matches_of command ws) (subcommand_of command ws) c.in-Ok.line.job some is.job in
    let line = sym c.run_files.ensures.line in (
      is.taken,
      is.job ∙ ap (λ (l : Line). Some l.job) line,
      subst (λ (l : Line). HasOptions (own_rows (subcommand_of command ws)) l.options) line is.options,
      subst (λ (l : Line). takes_several l.job ≡ true) line takes,
      some,
      subst (λ names. reads_once names ≡ true) (sym is.several) is.once,
      subst (λ b. IsFirstOpened (g.I.Inputs.is_file c.args.inputs.now) b (file_asked ws)) (sym is.named)
          (subst (λ (name : Option Text). IsFirstOpened (g.I.Inputs.is_file c.args.inputs.now) c.in-Ok.line.names_command name) (sym is.file) (c.unknown_first.ensures.opened none)),
      exercise,
      subst (λ (l : Line). IsSecond (g.I.Inputs.is_file c.args.inputs.now) (g.I.Inputs.is_fault c.args.inputs.now) g.I.File.Source (option_map (λ s. s.now) l.options.of) exercise) line
          c.in-Ok-read_second-2.ensures.read,
      subst (λ (l : Line). AreDone l.job l.options exercise Is g.K.Sink (several_asked ws) c.args.sink.now c.run_files.new.sink c.run_files.result.answer) line
          (subst (λ names. AreDone c.in-Ok.line.job c.in-Ok.line.options exercise Is g.K.Sink names c.args.sink.now c.run_files.new.sink c.run_files.result.answer) (sym is.several)
          (subst (λ (bytes : List ℕ). AreDone c.in-Ok.line.job c.in-Ok.line.options bytes Is g.K.Sink (texts c.in-Ok.line.several.items) c.args.sink.now c.run_files.new.sink c.run_files.result.answer)
          c.as_slice-exercise.ensures.value c.run_files.ensures.done)),
    )

asked_of : (names : List Text) (options : Options) → names ≢ [] → second_asked names options ≡ option_map (λ s. s.now) options.of
asked_of [] options some = absurd (some refl)
asked_of (name ∷ names) options some = refl

pub returns-in-Ok : goal.returns-in-Ok
returns-in-Ok g c =
    let ws = texts c.args.words.now in
    let is = c.in-Ok.ensures in
    let some = some_asked ws c.in-Ok.line.several.items is.several (λ none. grind (arith, none, c.is_empty.ensures, c.if-is_empty.false)) in (
      is.taken,
      c.in-Ok.line.options,
      is.options,
      asked_of (several_asked ws) c.in-Ok.line.options some ∙ c.in-Err-read_second.ensures.unread.0,
      c.in-Err-read_second.ensures.unread.1,
      refl,
    )
