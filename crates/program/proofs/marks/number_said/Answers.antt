-- The number is the one that the text says.
use Rattle.std.proofs.Common.{ℕ, List, Some, Result, Ok, Err, subst, sym}
use Rattle.std.specs.Result.{result_ok}
use Rattle.std.specs.Str.Parse.{ParsesUnsigned}
use Rattle.command_line.specs.CommandLine.{Says}
use Rattle.program.proofs.marks.number_said.Goals as goal

read : {E : Type 0} (t : List ℕ) (r : Result ℕ E) → ParsesUnsigned 64 10 t r → Says (Some t) (result_ok r)
read t (Ok n) parsed = parsed
read t (Err e) parsed = parsed

pub returns : goal.returns
returns c =
    subst (λ r. Says (Some c.args.text.now) r) (sym c.ok.ensures.value) (read c.args.text.now c.from_str_radix.result c.from_str_radix.ensures.value)
