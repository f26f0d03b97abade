-- The text and the verdict are the program's.
use Rattle.std.proofs.Common.{◌∙◌, ap₂}
use Rattle.command_check.proofs.Runs.{counted_program}
use Rattle.command_check.proofs.run.text_of.Goals as goal

pub returns-clause-text : goal.returns-clause-text
returns-clause-text g c =
    ap₂ (λ t v. (t.items, v)) c.answer.ensures.text c.answer.ensures.verdict ∙ counted_program c.args.bytes.now c.in_ok-made.made c.in_ok-made.ensures.text
