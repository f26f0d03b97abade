-- A run over nothing writes a text of its meaning.
use Rattle.program.specs.NewWords.{IsNewOf}
use Rattle.program.proofs.Widened.{written}
use Rattle.program.proofs.lines.run_new.Goals as goal

pub returns-clause-written : goal.returns-clause-written
returns-clause-written g c =
    written (λ i t v. IsNewOf c.args.line.options t v) (IsNewOf c.args.line.options) _ _ _ _ _ _ _ (λ i t v h. h) c.run_work-answer.ensures.run
