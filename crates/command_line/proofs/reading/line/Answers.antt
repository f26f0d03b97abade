-- What clap answers, by the definition of the command.
use Rattle.std.proofs.Common.{◌≡◌, ◌∙◌, Some, ap, subst, sym, is_some, option_map}
use Rattle.std.specs.Prelude.{IfOk, IfErr}
use Rattle.clap.specs.Words.{App, HasKind, app_of, is_simple_and_free, takes, fault_of, found_of, rows_of, subcommand_of}
use Rattle.clap.specs.Walk.{texts}
use Rattle.command_line.specs.CommandLine.{ExplainsMatches, HasOptions, command, file_of, files_of, job_of, own_rows}
use Rattle.command_line.proofs.CommandLines.{command_is_free, explained, explained_matches, job_is_known, on_ok, own_rows_met, rows_met}
use Rattle.command_line.proofs.reading.line.Goals as goal

pub taken_line-requires : goal.taken_line-requires
taken_line-requires c =
    let ws = texts c.args.words.now in
    let is = c.in-Ok.ensures in
    let taken = ap (λ (a : App). fault_of a ws) (sym is) ∙ c.in-Ok-try_get_matches_from.ensures.kinds (ap is_simple_and_free is ∙ command_is_free) in
    ap (λ met. is_some (job_of met)) (rows_met c.in-Ok.command ws c.in-Ok-try_get_matches_from.matches is c.in-Ok-try_get_matches_from.ensures.matches) ∙ job_is_known ws taken

pub returns-in-Ok-try_get_matches_from-clause-named : goal.returns-in-Ok-try_get_matches_from-clause-named
returns-in-Ok-try_get_matches_from-clause-named c =
    let ws = texts c.args.words.now in
    let met = rows_met c.in-Ok.command ws c.in-Ok-try_get_matches_from.matches c.in-Ok.ensures c.in-Ok-try_get_matches_from.ensures.matches in
    subst (λ met. IfOk c.taken_line.result (λ l. is_some met ≡ l.names_command)) met c.taken_line.ensures.named

pub returns-in-Ok-try_get_matches_from-clause-job : goal.returns-in-Ok-try_get_matches_from-clause-job
returns-in-Ok-try_get_matches_from-clause-job c =
    let ws = texts c.args.words.now in
    let met = rows_met c.in-Ok.command ws c.in-Ok-try_get_matches_from.matches c.in-Ok.ensures c.in-Ok-try_get_matches_from.ensures.matches in
    subst (λ met. IfOk c.taken_line.result (λ l. job_of met ≡ Some l.job)) met c.taken_line.ensures.job

pub returns-in-Ok-try_get_matches_from-clause-options : goal.returns-in-Ok-try_get_matches_from-clause-options
returns-in-Ok-try_get_matches_from-clause-options c =
    let ws = texts c.args.words.now in
    let met = rows_met c.in-Ok.command ws c.in-Ok-try_get_matches_from.matches c.in-Ok.ensures c.in-Ok-try_get_matches_from.ensures.matches in
    subst (λ met. IfOk c.taken_line.result (λ l. HasOptions (own_rows met) l.options)) met c.taken_line.ensures.options

pub returns-in-Ok-try_get_matches_from-clause-file : goal.returns-in-Ok-try_get_matches_from-clause-file
returns-in-Ok-try_get_matches_from-clause-file c =
    let ws = texts c.args.words.now in
    let m = c.in-Ok-try_get_matches_from.matches in
    let met = rows_met c.in-Ok.command ws m c.in-Ok.ensures c.in-Ok-try_get_matches_from.ensures.matches in
    let own = own_rows_met c.in-Ok.command ws m c.in-Ok.ensures c.in-Ok-try_get_matches_from.ensures.matches in
    subst (λ own. IfOk c.taken_line.result (λ l. file_of own (subcommand_of command ws) ≡ option_map (λ s. s.now) l.file)) own
    (subst (λ met. IfOk c.taken_line.result (λ l. file_of (rows_of (found_of m)) met ≡ option_map (λ s. s.now) l.file)) met c.taken_line.ensures.file)

pub returns-in-Ok-try_get_matches_from-clause-several : goal.returns-in-Ok-try_get_matches_from-clause-several
returns-in-Ok-try_get_matches_from-clause-several c =
    let ws = texts c.args.words.now in
    let m = c.in-Ok-try_get_matches_from.matches in
    let met = rows_met c.in-Ok.command ws m c.in-Ok.ensures c.in-Ok-try_get_matches_from.ensures.matches in
    let own = own_rows_met c.in-Ok.command ws m c.in-Ok.ensures c.in-Ok-try_get_matches_from.ensures.matches in
    subst (λ own. IfOk c.taken_line.result (λ l. files_of own (subcommand_of command ws) ≡ texts l.several.items)) own
    (subst (λ met. IfOk c.taken_line.result (λ l. files_of (rows_of (found_of m)) met ≡ texts l.several.items)) met c.taken_line.ensures.several)

pub returns-in-Ok-try_get_matches_from-clause-taken : goal.returns-in-Ok-try_get_matches_from-clause-taken
returns-in-Ok-try_get_matches_from-clause-taken c =
    let ws = texts c.args.words.now in
    let is = c.in-Ok.ensures in
    on_ok c.taken_line.result _ (ap (λ (a : App). fault_of a ws) (sym is) ∙ c.in-Ok-try_get_matches_from.ensures.kinds (ap is_simple_and_free is ∙ command_is_free))

pub returns-in-Ok-try_get_matches_from-clause-fault : goal.returns-in-Ok-try_get_matches_from-clause-fault
returns-in-Ok-try_get_matches_from-clause-fault c =
    let ws = texts c.args.words.now in
    let m = c.in-Ok-try_get_matches_from.matches in
    let is = c.in-Ok.ensures in
    let met = rows_met c.in-Ok.command ws m is c.in-Ok-try_get_matches_from.ensures.matches in
    let own = own_rows_met c.in-Ok.command ws m is c.in-Ok-try_get_matches_from.ensures.matches in
    let taken = ap (λ (a : App). fault_of a ws) (sym is) ∙ c.in-Ok-try_get_matches_from.ensures.kinds (ap is_simple_and_free is ∙ command_is_free) in
    explained_matches ws c.taken_line.result taken
    (subst (λ own. IfErr c.taken_line.result (ExplainsMatches own (subcommand_of command ws))) own
    (subst (λ met. IfErr c.taken_line.result (ExplainsMatches (rows_of (found_of m)) met)) met c.taken_line.ensures.fault))

pub returns-in-Err-clause-fault : goal.returns-in-Err-clause-fault
returns-in-Err-clause-fault c =
    let is : app_of c.in-Ok.command ≡ command = c.in-Ok.ensures in
    let ws = texts c.args.words.now in
    let kinds : HasKind (fault_of command ws) c.in-Err.error = rw (ap (λ (a : App). fault_of a ws) is) at (c.in-Err.ensures.kinds (ap is_simple_and_free is ∙ command_is_free)) in
    explained ws c.in-Err.error c.fault_for.result kinds (λ t. c.in-Err.ensures.passes (ap (λ (a : App). takes a ws) is ∙ t)) c.fault_for.ensures
