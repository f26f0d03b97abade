-- What is asked for says which table it is.
use Rattle.std.proofs.Common.{◌≡◌, None, Some, Option, option_map, List, sym, subst}
use Rattle.std.specs.Borrow.{Bor}
use Rattle.clap.specs.Walk.{texts}
use Rattle.clap.specs.Words.{Text}
use Rattle.command_files.specs.Files.{IsInput}
use Rattle.command_marks.specs.Answers.{AreMarkedBy}
use Rattle.command_marks.specs.Table.{IsMarksOf}
use Rattle.program.specs.Ends.{AreMarked}
use Rattle.program.proofs.lines.mark.Goals as goal

pub returns-in-None : goal.returns-in-None
returns-in-None g c =
    let Is = IsInput (g.I.Inputs.is_standard c.args.inputs.now) (g.I.Inputs.is_file c.args.inputs.now) (g.I.Inputs.is_fault c.args.inputs.now) g.I.Standard.Source g.I.File.Source in
    record {
      done = subst (λ (of : Option (Bor Text)). AreMarked (option_map (λ s. s.now) of) c.args.exercise.now Is g.K.Sink (texts c.args.line.now.several.items) c.args.sink.now c.mark_files.new.sink c.mark_files.result)
          (sym c.in-None.is)
          (subst (λ (names : List (Bor Text)). IsMarksOf Is g.K.Sink (texts names) c.args.sink.now c.mark_files.new.sink c.mark_files.result) c.as_slice-names.ensures.value c.mark_files.ensures);
    }

pub returns-in-Some : goal.returns-in-Some
returns-in-Some g c =
    let Is = IsInput (g.I.Inputs.is_standard c.args.inputs.now) (g.I.Inputs.is_file c.args.inputs.now) (g.I.Inputs.is_fault c.args.inputs.now) g.I.Standard.Source g.I.File.Source in
    record {
      done = subst (λ (of : Option (Bor Text)). AreMarked (option_map (λ s. s.now) of) c.args.exercise.now Is g.K.Sink (texts c.args.line.now.several.items) c.args.sink.now c.mark_answers.new.sink c.mark_answers.result)
          (sym c.in-Some.is)
          (subst (λ (names : List (Bor Text)). AreMarkedBy c.args.exercise.now Is g.K.Sink (texts names) c.args.sink.now c.mark_answers.new.sink c.mark_answers.result) c.as_slice-names.ensures.value c.mark_answers.ensures);
    }
