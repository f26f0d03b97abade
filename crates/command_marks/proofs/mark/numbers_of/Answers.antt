-- A call with the mark adds its number.
use Rattle.std.proofs.Common.{◌++◌, ◌+◌, drop, ap, sym, ◌∙◌}
use Rattle.command_marks.specs.Marks.{numbers_of}
use Rattle.command_marks.specs.declared.mark.Mark.TheVariants.{Nothing}
use Rattle.command_marks.proofs.Sequences.{with_number, without_number}
use Rattle.command_marks.proofs.mark.numbers_of.Goals as goal
use Rattle.command_marks.proofs.mark.numbers_of.Goals.{then-is_mark+in_ok-push, else-is_mark}

pub loop-i-preserved : goal.loop-i-preserved
loop-i-preserved c =
    let marks = c.args.marks.now in
    let wanted = c.args.wanted in
    let i = c.loop-i.i in
    elim c.if-is_mark.branch [
      | then-is_mark+in_ok-push w ↦
          with_number wanted marks i Nothing (numbers_of wanted 1 marks) c.loop-i.numbers.items _ c.loop-i-test.true c.loop-i.invariant
          (sym c.is_mark.ensures ∙ w.if-is_mark.true) (ap (λ v. v.items) w.numbers-is ∙ w.in_ok-push.ensures.items)
      | else-is_mark w ↦
          ap (λ v. v.items ++ numbers_of wanted (i + 1 + 1) (drop (i + 1) marks)) w.numbers-is
          ∙ without_number wanted marks i Nothing (numbers_of wanted 1 marks) c.loop-i.numbers.items c.loop-i-test.true c.loop-i.invariant
          (sym c.is_mark.ensures ∙ w.if-is_mark.false)
    ]
