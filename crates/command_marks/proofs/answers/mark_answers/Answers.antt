-- The table and the verdicts are by the exercise that was read.
use Rattle.std.proofs.Common.{◌≡◌, ◌∙◌, List, [], Option, Some, None, map, option_map, refl, ap, subst}
use Rattle.std.specs.Borrow.{Bor}
use Rattle.setup_format.specs.Read.{read_view}
use Rattle.setup_format.specs.Setups.{read_of_bytes}
use Rattle.setup_format.specs.Views.{ReadView}
use Rattle.setup_format.specs.declared.setup.ReadSetup.{ReadSetup}
use Rattle.command_files.specs.Files.{IsInput, IsToldOf, told_text}
use Rattle.command_marks.specs.Answers.{answer_head, answer_row, verdict_for}
use Rattle.command_marks.proofs.answers.mark_answers.Goals as goal

viewed : (found : Option (Bor ReadSetup)) → option_map (λ s. read_view s.now) found ≡ option_map read_view (option_map (λ s. s.now) found)
viewed None = refl
viewed (Some read) = refl

pub returns-in-Ok : goal.returns-in-Ok
returns-in-Ok g c =
    subst (λ (exercise : Option ReadView).
    IsToldOf (λ bytes. verdict_for exercise (read_of_bytes bytes))
    (told_text (λ bytes. verdict_for exercise (read_of_bytes bytes)) answer_head (answer_row exercise) (λ files tally. []))
    (IsInput (g.I.Inputs.is_standard c.args.inputs.now) (g.I.Inputs.is_file c.args.inputs.now) (g.I.Inputs.is_fault c.args.inputs.now) g.I.Standard.Source g.I.File.Source)
    g.K.Sink (map (λ s. s.now) c.args.names.now) c.args.sink.now c.tell_files.new.sink c.tell_files.result)
    (viewed c.as_ref.result ∙ (ap (option_map read_view) c.as_ref.ensures.value ∙ c.in-Ok.ensures))
    c.tell_files.ensures
