use Rattle.std.proofs.Common.{sym}
use Rattle.query_revoke.proofs.Named.{all_between}
use Rattle.query_revoke.proofs.revoked.are_within.Goals as goal

pub returns-then-start-first : goal.returns-then-start-first
returns-then-start-first c =
    all_between c.args.group.now c.in-Some-Some.first.now c.in-Some-Some.last.now c.args.start c.args.end c.requires (sym c.in-Some-Some.ensures.value) (sym c.in-Some-Some.ensures'.value) c.if-start-first.true
