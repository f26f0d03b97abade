-- Where clap met a subcommand, its matches are looked at, and else those of the command alone.
use Rattle.std.proofs.Common.{◌≡◌, Bool, true, false, is_some, option_map, subst, sym}
use Rattle.std.specs.Prelude.{Some, IfOk, Result, Ok, Err}
use Rattle.clap.specs.Walk.{texts}
use Rattle.clap.specs.Words.{found_of, rows_of}
use Rattle.command_line.specs.CommandLine.{HasOptions, file_of, files_of, job_of, own_rows}
use Rattle.command_line.specs.declared.arguments.Line.{Line}
use Rattle.command_line.proofs.CommandLines.{subcommand_is, no_subcommand_is}
use Rattle.command_line.proofs.reading.line_in.Goals as goal

same_ok : {E : Type 0} (b : Bool) (r : Result Line E) → IfOk r (λ l. l.names_command ≡ b) → IfOk r (λ l. b ≡ l.names_command)
same_ok b (Ok l) is = sym is
same_ok b (Err e) is = tt

pub returns-in-None-clause-named : goal.returns-in-None-clause-named
returns-in-None-clause-named c =
    subst (λ met. IfOk c.bare_line.result (λ l. is_some met ≡ l.names_command)) (sym (no_subcommand_is c.args.matches.now c.in-None.ensures.name)) (same_ok false c.bare_line.result c.bare_line.ensures.named)

pub returns-in-None-clause-job : goal.returns-in-None-clause-job
returns-in-None-clause-job c =
    subst (λ met. IfOk c.bare_line.result (λ l. job_of met ≡ Some l.job)) (sym (no_subcommand_is c.args.matches.now c.in-None.ensures.name)) c.bare_line.ensures.job

pub returns-in-None-clause-options : goal.returns-in-None-clause-options
returns-in-None-clause-options c =
    subst (λ met. IfOk c.bare_line.result (λ l. HasOptions (own_rows met) l.options)) (sym (no_subcommand_is c.args.matches.now c.in-None.ensures.name)) c.bare_line.ensures.options

pub returns-in-None-clause-file : goal.returns-in-None-clause-file
returns-in-None-clause-file c =
    subst (λ met. IfOk c.bare_line.result (λ l. file_of (rows_of (found_of c.args.matches.now)) met ≡ option_map (λ s. s.now) l.file))
    (sym (no_subcommand_is c.args.matches.now c.in-None.ensures.name)) c.bare_line.ensures.file

pub returns-in-None-clause-several : goal.returns-in-None-clause-several
returns-in-None-clause-several c =
    subst (λ met. IfOk c.bare_line.result (λ l. files_of (rows_of (found_of c.args.matches.now)) met ≡ texts l.several.items))
    (sym (no_subcommand_is c.args.matches.now c.in-None.ensures.name)) c.bare_line.ensures.several

pub returns-in-Some-clause-named : goal.returns-in-Some-clause-named
returns-in-Some-clause-named c =
    let met = subcommand_is c.args.matches.now c.in-Some.name.now (rows_of (found_of c.in-Some.inner.now)) c.in-Some.ensures.name c.in-Some.ensures.rows in
    subst (λ met. IfOk c.subcommand_line.result (λ l. is_some met ≡ l.names_command)) (sym met) (same_ok true c.subcommand_line.result c.subcommand_line.ensures.named)

pub returns-in-Some-clause-job : goal.returns-in-Some-clause-job
returns-in-Some-clause-job c =
    let met = subcommand_is c.args.matches.now c.in-Some.name.now (rows_of (found_of c.in-Some.inner.now)) c.in-Some.ensures.name c.in-Some.ensures.rows in
    subst (λ met. IfOk c.subcommand_line.result (λ l. job_of met ≡ Some l.job)) (sym met) c.subcommand_line.ensures.job

pub returns-in-Some-clause-options : goal.returns-in-Some-clause-options
returns-in-Some-clause-options c =
    let met = subcommand_is c.args.matches.now c.in-Some.name.now (rows_of (found_of c.in-Some.inner.now)) c.in-Some.ensures.name c.in-Some.ensures.rows in
    subst (λ met. IfOk c.subcommand_line.result (λ l. HasOptions (own_rows met) l.options)) (sym met) c.subcommand_line.ensures.options

pub returns-in-Some-clause-file : goal.returns-in-Some-clause-file
returns-in-Some-clause-file c =
    let met = subcommand_is c.args.matches.now c.in-Some.name.now (rows_of (found_of c.in-Some.inner.now)) c.in-Some.ensures.name c.in-Some.ensures.rows in
    subst (λ met. IfOk c.subcommand_line.result (λ l. file_of (rows_of (found_of c.args.matches.now)) met ≡ option_map (λ s. s.now) l.file)) (sym met) c.subcommand_line.ensures.file

pub returns-in-Some-clause-several : goal.returns-in-Some-clause-several
returns-in-Some-clause-several c =
    let met = subcommand_is c.args.matches.now c.in-Some.name.now (rows_of (found_of c.in-Some.inner.now)) c.in-Some.ensures.name c.in-Some.ensures.rows in
    subst (λ met. IfOk c.subcommand_line.result (λ l. files_of (rows_of (found_of c.args.matches.now)) met ≡ texts l.several.items)) (sym met) c.subcommand_line.ensures.several
