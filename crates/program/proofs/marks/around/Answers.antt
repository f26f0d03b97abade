-- The text is cut at its first mark.
use Rattle.std.proofs.Common.{sym, Some, None, arith}
use Rattle.std.proofs.lemmas.Str.Pattern.{split_parts}
use Rattle.program.proofs.Cuts.{before_first-Lacks, before_first-at, after_first-Lacks, after_first-at}
use Rattle.program.proofs.marks.around.Goals as goal

pub returns-in-Some-clause-before : goal.returns-in-Some-clause-before
returns-in-Some-clause-before c =
    let parts = split_parts c.args.mark c.args.text.now (Some (c.in-Some.before, c.in-Some.behind)) c.in-Some.ensures.cases (omega (arith, c.requires)) in
    rw parts.0 (sym (before_first-at _ _ _ parts.1))

pub returns-in-Some-clause-behind : goal.returns-in-Some-clause-behind
returns-in-Some-clause-behind c =
    let parts = split_parts c.args.mark c.args.text.now (Some (c.in-Some.before, c.in-Some.behind)) c.in-Some.ensures.cases (omega (arith, c.requires)) in
    rw parts.0 (sym (after_first-at _ _ _ parts.1))

pub returns-in-None-clause-before : goal.returns-in-None-clause-before
returns-in-None-clause-before c =
    sym (before_first-Lacks _ _ (split_parts c.args.mark c.args.text.now None c.in-None.ensures.cases (omega (arith, c.requires))))

pub returns-in-None-clause-behind : goal.returns-in-None-clause-behind
returns-in-None-clause-behind c =
    sym (after_first-Lacks _ _ (split_parts c.args.mark c.args.text.now None c.in-None.ensures.cases (omega (arith, c.requires))))
