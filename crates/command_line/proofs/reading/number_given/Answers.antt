-- The number of an option is the one that its text says.
use Rattle.std.proofs.Common.{◌∙◌, ℕ, List, Some, Result, Ok, Err, subst, sym}
use Rattle.std.specs.Result.{result_ok}
use Rattle.std.specs.Str.Parse.{ParsesUnsigned}
use Rattle.clap.proofs.WalkLemmas.{first_value-rows}
use Rattle.clap.specs.Words.{found_of}
use Rattle.command_line.specs.CommandLine.{Says}
use Rattle.command_line.proofs.reading.number_given.Goals as goal

read : {E : Type 0} (t : List ℕ) (r : Result ℕ E) → ParsesUnsigned 64 10 t r → Says (Some t) (result_ok r)
read t (Ok n) parsed = parsed
read t (Err e) parsed = parsed

pub returns-in_err-text : goal.returns-in_err-text
returns-in_err-text c =
    subst (λ o. Says o c.from_residual.result) (c.in_err-text.ensures ∙ first_value-rows (found_of c.args.matches.now) c.args.name.now) c.from_residual.ensures

pub returns : goal.returns
returns c =
    let said = read c.in_ok-text.text.now c.from_str_radix.result c.from_str_radix.ensures.value in
    subst (λ o. Says o c.ok.result) (c.in_ok-text.ensures ∙ first_value-rows (found_of c.args.matches.now) c.args.name.now)
    (subst (λ r. Says (Some c.in_ok-text.text.now) r) (sym c.ok.ensures.value) said)
